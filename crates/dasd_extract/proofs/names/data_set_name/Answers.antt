use Rattle.std.proofs.lemmas.List.{get_or-replicate}
use Rattle.dasd_extract.proofs.names.data_set_name.Goals as goal

pub put_name-requires : goal.put_name-requires
put_name-requires c = record { blanks = λ i from below. get_or-replicate 44 i 64 0 below }

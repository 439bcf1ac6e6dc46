use Rattle.library_contents.proofs.Numbers.{number_is_where_they_begin}
use Rattle.library_contents.proofs.laws.number_is_where_they_begin.Goals as goal

pub returns : goal.returns
returns c = number_is_where_they_begin

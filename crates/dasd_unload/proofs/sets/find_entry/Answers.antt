use Rattle.dasd_unload.proofs.Found.{member_of}
use Rattle.dasd_unload.proofs.sets.find_entry.Goals as goal

pub returns-clause-found : goal.returns-clause-found
returns-clause-found g c = member_of _ c.in-Some.name _ _ c.in-Ok.members c.find_member.result c.in-Some.ensures.named
    (rw c.as_slice.ensures.value at c.in-Ok.ensures.members) (rw c.as_slice-2.ensures.value at c.find_member.ensures)

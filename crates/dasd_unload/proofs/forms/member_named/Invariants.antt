use Rattle.std.proofs.Common.{◌≡◌, drop, find}
use Rattle.dasd_unload.specs.Described.{begins_at}
use Rattle.dasd_unload.proofs.forms.member_named.Given as goal

-- none of the entries so far is the member
abbrev pub invariant-loop-other : goal.invariant-loop-other
invariant-loop-other l = find (begins_at l.entry.address) (drop l.other-index l.entries) ≡ find (begins_at l.entry.address) l.entries

use Rattle.std.proofs.Common.{◌≡◌, length}
use Rattle.record_tracks.proofs.Found.{tabled}
use Rattle.record_tracks.proofs.codes.table.Given as goal

-- each byte so far stands in the place of its character
abbrev pub invariant-loop-number : goal.invariant-loop-number
invariant-loop-number l = (length l.table ≡ 256) × (l.table ≡ tabled l.number)

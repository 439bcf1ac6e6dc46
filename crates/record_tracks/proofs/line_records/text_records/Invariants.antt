use Rattle.std.proofs.Common.{◌≤◌, ◌+◌, length}
use Rattle.record_tracks.proofs.Joined.{JoinedTo}
use Rattle.record_tracks.proofs.line_records.text_records.Given as goal

-- the records of the lines before the rest are put; each line has a byte of the text
abbrev pub invariant-loop-rest : goal.invariant-loop-rest
invariant-loop-rest l = (l.number + length l.rest ≤ length l.text) × JoinedTo l.size l.text l.number l.rest l.records.items

abbrev pub decreases-loop-rest : goal.decreases-loop-rest
decreases-loop-rest l = length l.rest

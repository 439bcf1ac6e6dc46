use Rattle.std.proofs.Common.{◌≢◌, ◌<◌, ℕ, get_or}
use Rattle.record_tracks.proofs.text_lines.split_line.Given as goal

-- none of the bytes so far is a line feed
abbrev pub invariant-loop-end : goal.invariant-loop-end
invariant-loop-end l = (k : ℕ) → k < l.end → get_or l.text k 0 ≢ 10

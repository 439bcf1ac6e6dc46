use Rattle.std.proofs.Common.{ℕ, ◌<◌, ◌≢◌}
use Rattle.volume_labels.specs.Ebcdic.{character_of}
use Rattle.dasd_extract.proofs.names.byte_of.Given as goal

-- no byte so far has the character
abbrev pub invariant-loop-number : goal.invariant-loop-number
invariant-loop-number l = (k : ℕ) → k < l.number → character_of k ≢ l.wanted

use Rattle.std.proofs.Common.{◌≡◌, drop}
use Rattle.std.specs.Prelude.{find}
use Rattle.trace_words.specs.Reasons.{has_cause}
use Rattle.trace_words.proofs.reasons.first_of.Given as goal

-- none so far is one of them
abbrev pub invariant-loop-cause : goal.invariant-loop-cause
invariant-loop-cause l = find (has_cause l.sense) (drop l.cause-index l.causes) ≡ find (has_cause l.sense) l.causes

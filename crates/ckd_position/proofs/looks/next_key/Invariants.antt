-- The look goes on over records without a key.
use Rattle.std.proofs.Common.{◌≡◌}
use Rattle.ckd_position.specs.Looks.{next_key_from}
use Rattle.ckd_position.proofs.looks.next_key.Given as goal

-- no record before this one has a key
abbrev pub invariant-loop-number : goal.invariant-loop-number
invariant-loop-number l = next_key_from l.view l.from ≡ next_key_from l.view l.number

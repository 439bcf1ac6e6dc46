use Rattle.std.proofs.Common.{arith}
use Rattle.std.proofs.lemmas.Bool.Decides.{nat_tests}
use Rattle.s360_deck.proofs.digits.digit.Goals as goal
use Rattle.s360_deck.proofs.digits.digit.Goals.{in-48-to-57, in-65-to-70}

pub returns-in_default-clause-value : goal.returns-in_default-clause-value
returns-in_default-clause-value c = grind (arith, nat_tests)

pub returns-in_default-2-clause-value : goal.returns-in_default-2-clause-value
returns-in_default-2-clause-value c = grind (arith, nat_tests)

pub returns-in_default-3-clause-value : goal.returns-in_default-3-clause-value
returns-in_default-3-clause-value c = grind (arith, nat_tests)

pub returns-clause-value : goal.returns-clause-value
returns-clause-value c = elim c.if-byte-lt58.branch [ in-48-to-57 w ↦ grind (arith, nat_tests) | in-65-to-70 w ↦ grind (arith, nat_tests) ]

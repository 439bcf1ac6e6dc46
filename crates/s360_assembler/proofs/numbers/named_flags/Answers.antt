use Rattle.std.proofs.Common.{arith}
use Rattle.s360_assembler.proofs.Flags.{next_flag, no_flag, no_last_flag}
use Rattle.s360_assembler.proofs.numbers.named_flags.Goals as goal

pub returns-in_err-flags : goal.returns-in_err-flags
returns-in_err-flags c =
    grind (arith, c.from_residual.ensures, no_flag _ _ c.loop-at.rest.now _ c.in-Some.ensures c.in_err-flags.ensures c.loop-at.invariant)

pub loop-at-preserved : goal.loop-at-preserved
loop-at-preserved c = next_flag _ _ _ c.loop-at.rest.now _ c.in-Some.ensures c.in_ok-flags.ensures c.loop-at.invariant

pub returns-in_err-flag_of : goal.returns-in_err-flag_of
returns-in_err-flag_of c =
    grind (
      arith,
      c.from_residual-in_err-flag_of.ensures,
      no_last_flag _ c.loop-at.rest.now _ c.in_default.ensures c.in_err-flag_of.ensures c.loop-at.invariant,
    )

use Rattle.std.proofs.Common.{arith, ◌+◌, ◌*◌, ◌<◌, ◌^◌, ◌∙◌, sym}
use Rattle.s360_deck.proofs.Numbers.{one_digit_more, eleven_digits, next_digit, fewer_digits}
use Rattle.s360_deck.proofs.digits.number.Goals as goal

before : (c : goal.After-from) → c.args.base * c.loop-byte.value + c.in_ok-next.next < 16 ^ (c.loop-byte.byte-index + 1)
before c = one_digit_more _ _ _ _ c.requires.base c.in_ok-next.ensures.below c.loop-byte.invariant.fits

more : (c : goal.After-from-in-loop-byte) → c.args.base * c.loop-byte.value + c.in_ok-next.next < 16 ^ (c.loop-byte.byte-index + 1)
more c = one_digit_more _ _ _ _ c.requires.base c.in_ok-next.ensures.below c.loop-byte.invariant.fits

pub overflow_mul-value : goal.overflow_mul-value
overflow_mul-value c = rw c.from.ensures (omega (arith, eleven_digits _ _ (omega arith) (before c)))

pub overflow_add-value : goal.overflow_add-value
overflow_add-value c = rw (c.from.ensures, c.from-in-loop-byte.ensures) (omega (arith, eleven_digits _ _ (omega arith) (more c)))

pub loop-byte-preserved : goal.loop-byte-preserved
loop-byte-preserved c = rw (c.from.ensures, c.from-in-loop-byte.ensures) record {
  fits = more c;
  spelled = sym (next_digit _ _ _ _ _ c.loop-byte-test.true c.in_ok-next.ensures.value) ∙ c.loop-byte.invariant.spelled;
}

pub returns-clause-bound : goal.returns-clause-bound
returns-clause-bound c = fewer_digits _ _ _ (omega arith) c.loop-byte.invariant.fits

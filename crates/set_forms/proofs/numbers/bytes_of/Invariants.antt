use Rattle.std.proofs.Common.{◌≡◌, ◌+◌, ◌*◌, ◌++◌, length, option_map}
use Rattle.set_forms.specs.Numbers.{bytes_of}
use Rattle.set_forms.proofs.numbers.bytes_of.Given as goal

-- the bytes so far and those of the rest are those of all digits
abbrev pub invariant-loop-rest : goal.invariant-loop-rest
invariant-loop-rest l = record {
  spelled : option_map (λ more. l.bytes.items ++ more) (bytes_of l.rest) ≡ bytes_of l.digits;
  size : 2 * length l.bytes.items + length l.rest ≡ length l.digits;
}

abbrev pub decreases-loop-rest : goal.decreases-loop-rest
decreases-loop-rest l = length l.rest

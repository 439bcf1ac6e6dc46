use Rattle.std.proofs.Common.{◌≡◌, length}
use Rattle.std.specs.List.{slice_split}
use Rattle.s360_assembler.specs.Numbers.{is_plus, flags_behind}
use Rattle.s360_assembler.proofs.numbers.named_flags.Given as goal

-- the flags so far and those of the rest are those of the whole text
abbrev pub invariant-loop-at : goal.invariant-loop-at
invariant-loop-at l = flags_behind l.flags (slice_split is_plus l.rest) ≡ flags_behind 0 (slice_split is_plus l.text)

abbrev pub decreases-loop-at : goal.decreases-loop-at
decreases-loop-at l = length l.rest

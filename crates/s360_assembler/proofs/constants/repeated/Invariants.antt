use Rattle.std.proofs.Common.{◌≡◌, ◌≤◌, ◌-◌, flat_map, replicate}
use Rattle.s360_assembler.proofs.constants.repeated.Given as goal

-- so many times the bytes
abbrev pub invariant-loop-done : goal.invariant-loop-done
invariant-loop-done l = record {
  made : l.all.items ≡ flat_map (λ part. part) (replicate l.done l.bytes);
  inside : l.done ≤ l.times;
}

abbrev pub decreases-loop-done : goal.decreases-loop-done
decreases-loop-done l = l.times - l.done

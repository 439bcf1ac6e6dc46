use Rattle.std.proofs.Common.{◌≡◌, ◌-◌, ◌++◌, length, replicate, None}
use Rattle.ckd_image.proofs.files.in_array.Given as goal

abbrev pub invariant-loop-place : goal.invariant-loop-place
invariant-loop-place g l = record {
  items : l.files.items ≡ l.fn.files.items ++ replicate (l._place - length l.fn.files.items) None;
  count : length l.files.items ≡ l._place;
}

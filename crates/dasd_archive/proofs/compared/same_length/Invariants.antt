use Rattle.std.proofs.Common.{◌≡◌, ◌+◌, drop, nat_eq}
use Rattle.std.specs.List.{common_prefix_len}
use Rattle.dasd_archive.proofs.compared.same_length.Given as goal

-- the bytes so far are the same
abbrev pub invariant-loop-i : goal.invariant-loop-i
invariant-loop-i l = l.i + common_prefix_len nat_eq (drop l.i l.one) (drop l.i l.other) ≡ common_prefix_len nat_eq l.one l.other

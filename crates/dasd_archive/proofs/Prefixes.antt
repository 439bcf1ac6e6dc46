-- How far two lists of bytes are the same.
use Rattle.std.proofs.Common.{ℕ, ◌+◌, ◌≤◌, ◌≡◌, List, length, drop, min, arith, nat_eq}
use Rattle.std.proofs.lemmas.List.Sums.{common_prefix_len-le}
use Rattle.std.specs.List.{common_prefix_len}

module _ (one other : List ℕ) where
  pub whole : (i : ℕ) → min (length one) (length other) ≤ i
      → i + common_prefix_len nat_eq (drop i one) (drop i other) ≡ common_prefix_len nat_eq one other
      → i ≡ common_prefix_len nat_eq one other
  whole i passed so_far =
      let most = common_prefix_len-le nat_eq one other in
      let first = most.0 in let second = most.1 in
      omega (arith, first, second, so_far, passed)

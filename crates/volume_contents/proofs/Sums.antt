-- Sums that stop at a greatest number.
use Rattle.std.proofs.Common.{ℕ, ◌+◌, ◌<◌, ◌≤◌, ◌≡◌, List, length, take, get_or, min, sum_by, arith}
use Rattle.std.proofs.lemmas.List.{take_more, take_all}
use Rattle.std.proofs.lemmas.List.Sums.{sum_by_push}

module _ {X : Type 0} (of : X → ℕ) (xs : List X) (i most n : ℕ) where
  -- one more
  pub more_sum : (d : X) → i < length xs → n ≡ min (sum_by of (take i xs)) most → min (n + of (get_or xs i d)) most
      ≡ min (sum_by of (take (i + 1) xs)) most
  more_sum d inside is = rw (take_more xs i d inside, sum_by_push of (take i xs) (get_or xs i d)) (omega (arith, is))

  -- all
  pub whole_sum : length xs ≤ i → n ≡ min (sum_by of (take i xs)) most → n ≡ min (sum_by of xs) most
  whole_sum passed is = rw (take_all i xs passed) at is

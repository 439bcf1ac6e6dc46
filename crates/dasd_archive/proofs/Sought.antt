-- A look for an identifier among the first records.
use Rattle.std.proofs.Common.{ℕ, ◌<◌, ◌≤◌, ◌≡◌, List, Bool, true, false, length, take, get_or, sym, refl, arith, length-take, bytes_eq}
use Rattle.std.proofs.lemmas.List.{get_or-take}
use Rattle.std.proofs.lemmas.List.Recursion.{or_is}
use Rattle.std.proofs.lemmas.Bool.{false≢true}
use Rattle.std.specs.List.{list_any}
use Rattle.ckd_track.specs.Track.{Record, no_record}

module _ (records : List Record) (id : List ℕ) (n : ℕ) (within : n ≤ length records) where
  pub found_at : (i : ℕ) → i < n → bytes_eq (get_or records i no_record).id id ≡ true
      → true ≡ list_any (λ earlier. bytes_eq earlier.id id) (take n records)
  found_at i inside is =
      or_is (list_any (λ (r : Record). bytes_eq r.id id)) (λ r. bytes_eq r.id id) refl (λ _ _. refl) (take n records) no_record true
      (λ _. (i, omega (arith, length-take n records), rw (get_or-take n records i no_record inside) is))
      (λ e. absurd (false≢true (sym e)))

  pub found_nowhere : ((i : ℕ) → i < n → bytes_eq (get_or records i no_record).id id ≡ false)
      → false ≡ list_any (λ earlier. bytes_eq earlier.id id) (take n records)
  found_nowhere all =
      or_is (list_any (λ (r : Record). bytes_eq r.id id)) (λ r. bytes_eq r.id id) refl (λ _ _. refl) (take n records) no_record false
      (λ e. absurd (false≢true e))
      (λ _ i inside. let below : i < n = omega (arith, length-take n records) in rw (get_or-take n records i no_record below) (all i below))

-- A look for a record that is so, among all.

module _ (of : Record → Bool) (records : List Record) where
  pub some_is : (i : ℕ) → i < length records → of (get_or records i no_record) ≡ true → true ≡ list_any of records
  some_is i inside is =
      or_is (list_any of) of refl (λ _ _. refl) records no_record true (λ _. (i, inside, is)) (λ e. absurd (false≢true (sym e)))

  pub none_is : ((i : ℕ) → i < length records → of (get_or records i no_record) ≡ false) → false ≡ list_any of records
  none_is all = or_is (list_any of) of refl (λ _ _. refl) records no_record false (λ e. absurd (false≢true e)) (λ _ i inside. all i inside)

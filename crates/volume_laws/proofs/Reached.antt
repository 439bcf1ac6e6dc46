-- The track that an address leads to is one of its extents'.
use Rattle.std.proofs.Common.{◌≡◌, ap, sym, refl, ℕ, ◌+◌, ◌-◌, ◌*◌, ◌/◌, ◌%◌, ◌≤◌, ◌<◌, List, [], ◌∷◌, Bool, true, false, nat_lt, nat_le}
use Rattle.std.proofs.Common.{◌&&◌, ◌||◌}
use Rattle.std.proofs.Common.{arith, true≢false}
use Rattle.std.proofs.lemmas.Bool.{or_left, or_right}
use Rattle.std.proofs.lemmas.Bool.Decides.{nat_tests}
use Rattle.std.specs.List.{list_any}
use Rattle.volume_labels.specs.declared.fields.Extent.{Extent}
use Rattle.volume_labels.specs.declared.addresses.TrackPlace.{TrackPlace}
use Rattle.volume_labels.specs.declared.addresses.TrackPlace.TheVariants.{Track, PastEnd, BadExtent}
use Rattle.volume_labels.specs.Addresses.{number_of_track, is_split, is_run, is_in_order, is_unused, heads_in, tracks_of_extent, track_in}
use Rattle.volume_labels.specs.Addresses.{track_of}
use Rattle.new_labels.specs.Runs.{has_track}
use Rattle.new_labels.proofs.Apart.{has_it}

abbrev is_track : TrackPlace → Bool
is_track (Track n) = true
is_track PastEnd = false
is_track BadExtent = false

abbrev number_in : TrackPlace → ℕ
number_in (Track n) = n
number_in PastEnd = 0
number_in BadExtent = 0

module _ (heads n : ℕ) where
  none_left : (k : ℕ) → track_of heads [] k ≡ Track n → ⊥
  unfolding track_of
  none_left k is = true≢false (sym (ap is_track is))

  step : (e : Extent) (more : List Extent) (k : ℕ) → ((k : ℕ) → track_of heads more k ≡ Track n → list_any (has_track heads n) more ≡ true)
      → track_of heads (e ∷ more) k ≡ Track n → (has_track heads n e || list_any (has_track heads n) more) ≡ true
  unfolding track_of
  step e more k rest is = by (is_unused e) refl (is_run heads e) refl (nat_lt k (tracks_of_extent heads e)) refl
    where
      by : (a : Bool) → is_unused e ≡ a → (b : Bool) → is_run heads e ≡ b → (c : Bool) → nat_lt k (tracks_of_extent heads e) ≡ c
          → (has_track heads n e || list_any (has_track heads n) more) ≡ true
      by true x b y c z = or_right (has_track heads n e) _ (rest k (rw x at is))
      by false x false y c z = absurd (true≢false (sym (ap is_track (rw (x, y) at is))))
      by false x true y true z =
          let there : k < tracks_of_extent heads e = grind (arith, nat_tests) in
          let same : track_in heads e k ≡ n = ap number_in (rw (x, y, z) at is) in
          or_left (has_track heads n e) _ (rw same at (has_it heads e k y there (is_split e) refl))
      by false x true y false z = or_right (has_track heads n e) _ (rest (k - tracks_of_extent heads e) (rw (x, y, z) at is))

  pub leads : (extents : List Extent) (k : ℕ) → track_of heads extents k ≡ Track n → list_any (has_track heads n) extents ≡ true
  leads [] k is = absurd (none_left k is)
  leads (e ∷ more) k is = step e more k (leads more) is

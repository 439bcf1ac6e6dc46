-- A search over extents, one after another.
use Rattle.std.proofs.Common.{ℕ, ◌+◌, ◌<◌, ◌≤◌, ◌≡◌, ◌∙◌, List, [], ◌∷◌, suc, length, drop, get_or, ap, sym, refl}
use Rattle.std.proofs.Math.Numerals.{add-one}
use Rattle.std.proofs.Math.Seq.{drop-cons}
use Rattle.std.proofs.lemmas.List.{drop_all}
use Rattle.volume_labels.specs.declared.fields.Extent.{Extent}
use Rattle.volume_labels.specs.declared.addresses.TrackPlace.{TrackPlace}
use Rattle.volume_labels.specs.declared.addresses.TrackPlace.TheVariants.{PastEnd}
use Rattle.volume_labels.specs.declared.addresses.Step.TheVariants.{Found, Left}
use Rattle.volume_labels.specs.Addresses.{track_of, step_over, unless_found}

module _ (heads : ℕ) (es : List Extent) (i n : ℕ) where
  pub first_extent : (e : Extent) (rest : List Extent) → track_of heads (e ∷ rest) n ≡ unless_found (step_over heads e n)
      (track_of heads rest)
  unfolding track_of
  first_extent e rest = refl

  pub one_extent : (d : Extent) → i < length es
      → track_of heads (drop i es) n ≡ unless_found (step_over heads (get_or es i d) n) (track_of heads (drop (i + 1) es))
  one_extent d inside =
      ap (λ l. track_of heads l n) (drop-cons es i d inside) ∙ first_extent (get_or es i d) (drop (suc i) es)
      ∙ ap (λ k. unless_found (step_over heads (get_or es i d) n) (track_of heads (drop k es))) (sym (add-one i))

  pub found_there : (d : Extent) → i < length es → (place : TrackPlace) → step_over heads (get_or es i d) n ≡ Found place
      → track_of heads (drop i es) n ≡ place
  found_there d inside place is = one_extent d inside ∙ ap (λ s. unless_found s (track_of heads (drop (i + 1) es))) is

  pub passed_over : (d : Extent) → i < length es → (less : ℕ) → step_over heads (get_or es i d) n ≡ Left less
      → track_of heads (drop i es) n ≡ track_of heads (drop (i + 1) es) less
  passed_over d inside less is = one_extent d inside ∙ ap (λ s. unless_found s (track_of heads (drop (i + 1) es))) is

  pub no_extent : length es ≤ i → track_of heads (drop i es) n ≡ PastEnd
  unfolding track_of
  no_extent passed = ap (λ l. track_of heads l n) (drop_all i es passed)

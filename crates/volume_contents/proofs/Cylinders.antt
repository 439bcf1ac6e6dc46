-- The claim of a split extent, cylinder by cylinder.
use Rattle.std.proofs.Common.{ℕ, suc, ◌+◌, ◌-◌, ◌<◌, ◌≤◌, ◌≡◌, ◌∙◌, List, Some, None, ap, sym, refl, arith}
use Rattle.ckd_track.specs.declared.geometries.Geometry.{Geometry}
use Rattle.volume_labels.specs.declared.fields.Extent.{Extent}
use Rattle.volume_contents.specs.Claims.{Claimed, first_taken, claimed, unless_taken, run_on, cylinders_claimed}

module _ (g : Geometry) (e : Extent) (k : ℕ) (marks : List ℕ) where
  more_cylinders : (most : ℕ) → cylinders_claimed (suc most) g e k marks
      ≡ unless_taken (first_taken marks (run_on g e k)) (claimed marks (run_on g e k)) (cylinders_claimed most g e (k + 1))
  unfolding cylinders_claimed
  more_cylinders most = refl

  no_more : cylinders_claimed 0 g e k marks ≡ record { marks = marks; taken = None }
  unfolding cylinders_claimed
  no_more = refl

  module _ (n : ℕ) where
    -- what is claimed of the cylinders behind the next
    abbrev behind : List ℕ → Claimed
    behind = cylinders_claimed (n - (k + 1)) g e (k + 1)

    one_cylinder : k < n → cylinders_claimed (n - k) g e k marks
        ≡ unless_taken (first_taken marks (run_on g e k)) (claimed marks (run_on g e k)) behind
    one_cylinder inside =
        let s : n - k ≡ suc (n - (k + 1)) = omega (arith, inside) in
        ap (λ m. cylinders_claimed m g e k marks) s ∙ more_cylinders (n - (k + 1))

    module _ (whole : Claimed) (left : whole ≡ cylinders_claimed (n - k) g e k marks) where
      -- the next cylinder is free, or has a track that is taken; or there is no next one
      pub free : k < n → None ≡ first_taken marks (run_on g e k)
          → whole ≡ cylinders_claimed (n - (k + 1)) g e (k + 1) (claimed marks (run_on g e k))
      free inside is = left ∙ one_cylinder inside ∙ ap (λ o. unless_taken o (claimed marks (run_on g e k)) behind) (sym is)

      pub taken : k < n → (track : ℕ) → Some track ≡ first_taken marks (run_on g e k)
          → whole ≡ record { marks = claimed marks (run_on g e k); taken = Some track }
      taken inside track is = left ∙ one_cylinder inside ∙ ap (λ o. unless_taken o (claimed marks (run_on g e k)) behind) (sym is)

      pub all_free : n ≤ k → whole ≡ record { marks = marks; taken = None }
      all_free passed = let s : n - k ≡ 0 = omega (arith, passed) in left ∙ ap (λ m. cylinders_claimed m g e k marks) s ∙ no_more

-- The tracks of the extent of a run.
use Rattle.std.proofs.Common.{◌≡◌, refl, ℕ, ◌+◌, ◌-◌, ◌*◌, ◌/◌, ◌%◌, ◌≤◌, ◌<◌, [], ◌∷◌, true, nat_lt, nat_le, arith}
use Rattle.std.proofs.lemmas.Bool.Decides.{nat_tests}
use Rattle.std.proofs.lemmas.Nat.{div-add-mod', mod_below}
use Rattle.ckd_track.specs.declared.model.DriveModel.{DriveModel}
use Rattle.ckd_track.specs.declared.model.DriveModel.TheVariants.{D2311, D2314}
use Rattle.ckd_track.specs.declared.geometries.Geometry.{Geometry}
use Rattle.ckd_track.specs.Model.{heads_of}
use Rattle.volume_labels.specs.declared.addresses.TrackPlace.TheVariants.{Track}
use Rattle.volume_labels.specs.Addresses.{track_of}
use Rattle.new_labels.specs.Extents.{extent_of_run, HasRun}

some_heads : (model : DriveModel) → 0 < heads_of model
some_heads D2311 = omega arith
some_heads D2314 = omega arith

module _ (g : Geometry) (first tracks k : ℕ) where
  reached : 1 ≤ tracks → k < tracks → track_of (heads_of g.model) (extent_of_run g first tracks ∷ []) k ≡ Track (first + k)
  unfolding track_of
  reached some there =
      let h = heads_of g.model in
      let last = first + tracks - 1 in
      let a : first / h * h + first % h ≡ first = div-add-mod' first h in
      let b : last / h * h + last % h ≡ last = div-add-mod' last h in
      let low = mod_below first h (some_heads g.model) in
      let high = mod_below last h (some_heads g.model) in
      let head1 : nat_lt (first % h) h ≡ true = grind (arith, nat_tests) in
      let head2 : nat_lt (last % h) h ≡ true = grind (arith, nat_tests) in
      let order : nat_le first last ≡ true = grind (arith, nat_tests) in
      let within : nat_lt k (last + 1 - first) ≡ true = grind (arith, nat_tests) in
      rw (head1, head2, a, b, order, within) refl

pub has_run : (g : Geometry) (first tracks : ℕ) → 1 ≤ tracks → HasRun g first tracks (extent_of_run g first tracks)
has_run g first tracks some = λ k there. reached g first tracks k some there

-- The only file of an image, and the volume that it holds.
use Rattle.std.proofs.Common.{◌≡◌, ◌∙◌, refl, sym, ap, subst, ℕ, ◌*◌, ◌≤◌, List}
use Rattle.std.proofs.Common.{[], ◌∷◌, length, take, map, Option, Some, None, Result, Ok, arith}
use Rattle.std.proofs.Common.{length-append}
use Rattle.std.proofs.lemmas.List.{length-take-le}
use Rattle.std.specs.Prelude.{slice_get}
use Rattle.std.specs.List.{AllByRecursion, concat}
use Rattle.ckd_track.specs.declared.geometries.Geometry.{Geometry}
use Rattle.ckd_track.specs.Geometry.{tracks_of}
use Rattle.ckd_image.specs.declared.fault.MountFault.{MountFault}
use Rattle.ckd_image.specs.Files.{HoldsWhole, slot_bytes}
use Rattle.ckd_image.specs.Header.{mount_of}
use Rattle.ckd_image.specs.Slots.{slots_in}
use Rattle.ckd_image.specs.Image.{ImageState, Holds, HoldsImage, IsFileAt}
use Rattle.ckd_image.proofs.MountLemmas.{mount_fits}
use Rattle.ckd_image.proofs.NewVolumeLemmas.{slots_in-concat}

-- the headers of whole files tell how many there are
headers_tell : (size : ℕ) (files : List (List ℕ)) → AllByRecursion (HoldsWhole size) files
    → length (concat (map (take 512) files)) ≡ length files * 512
headers_tell size [] all = refl
headers_tell size (f ∷ files) all =
    let long = all.0.is_length in
    let first = length-take-le 512 f (omega arith) in
    let rest = headers_tell size files all.1 in
    length-append (take 512 f) (concat (map (take 512) files)) ∙ omega arith

as_many : (xs ys : List (List ℕ)) (i : ImageState) → HoldsImage xs i → HoldsImage ys i → length xs ≡ length ys
as_many xs ys i a b =
    let size = i.geometry.track_size in
    let xs_tell = headers_tell size xs (mount_fits xs i.geometry a.holds.mounts).whole in
    let ys_tell = headers_tell size ys (mount_fits ys i.geometry b.holds.mounts).whole in
    let headers = ap length (a.headers ∙ sym b.headers) in
    omega (arith, xs_tell, ys_tell, headers)

one_at_most : (files : List (List ℕ)) → ◌≡◌ {A = Option (List ℕ)} None (slice_get files 1) → length files ≤ 1
one_at_most [] none = omega arith
one_at_most (f ∷ []) none = omega arith
one_at_most (f ∷ g ∷ files) none = cc

first_alone : (files : List (List ℕ)) (f : List ℕ) → Some f ≡ slice_get files 0 → length files ≤ 1 → files ≡ f ∷ []
first_alone [] f is few = cc
first_alone (g ∷ []) f is few = let same : f ≡ g = cc in ap (λ h. h ∷ []) (sym same)
first_alone (g ∷ h ∷ files) f is few = absurd (omega arith)

-- a first file with no second one holds the image
pub is_only : (i : ImageState) (f : List ℕ) → IsFileAt i 0 (Some f) → IsFileAt i 1 None → HoldsImage (f ∷ []) i
is_only i f first second =
    let few = one_at_most second.files second.is_there in
    let count = as_many first.files second.files i first.holds second.holds in
    subst (λ files. HoldsImage files i) (first_alone first.files f first.is_there (omega arith)) first.holds

-- a volume that is mounted of these bytes is that of an image whose only file has them
module _ (i : ImageState) (bytes content : List ℕ) (g : Geometry) (slots : List (List ℕ)) (same : content ≡ bytes)
    (only : HoldsImage (bytes ∷ []) i) (held : Holds (content ∷ []) g slots) where
  pub same_geometry : g ≡ i.geometry
  same_geometry =
      let both : ◌≡◌ {A = Result Geometry MountFault} (Ok g) (Ok i.geometry) =
      sym held.mounts ∙ ap (λ c. mount_of (c ∷ [])) same ∙ only.holds.mounts in
      cc

  pub same_slots : slots ≡ i.slots
  same_slots =
      let size = g.track_size in
      let count : length slots ≡ length i.slots = held.count ∙ ap tracks_of same_geometry ∙ sym only.holds.count in
      sym (slots_in-concat size slots held.sizes)
      ∙ ap (λ n. slots_in size n (concat slots)) count
      ∙ ap (slots_in size (length i.slots)) (sym held.order ∙ ap (λ c. slot_bytes (c ∷ [])) same ∙ only.holds.order)
      ∙ ap (λ k. slots_in k.track_size (length i.slots) (concat i.slots)) same_geometry
      ∙ slots_in-concat i.geometry.track_size i.slots only.holds.sizes

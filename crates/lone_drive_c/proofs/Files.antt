-- An image has a first file.
use Rattle.std.proofs.Common.{◌≡◌, List, [], ◌∷◌, ℕ, Option, Some, None, Result, Ok, Err}
use Rattle.std.specs.Prelude.{slice_get, option_map}
use Rattle.ckd_track.specs.declared.geometries.Geometry.{Geometry}
use Rattle.ckd_image.specs.declared.fault.MountFault.{MountFault}
use Rattle.ckd_image.specs.declared.fault.MountFault.TheVariants.{Split}
use Rattle.ckd_image.specs.Header.{mount_of}
use Rattle.ckd_image.specs.Image.{ImageState, IsFileAt}

refused : {A E : Type 0} (e : E) (a : A) → ◌≡◌ {A = Result A E} (Err e) (Ok a) → ⊥
refused e a h = cc

missing : {A : Type 0} (a : A) → ◌≡◌ {A = Option A} None (Some a) → ⊥
missing a h = cc

present : {A : Type 0} (a : A) → ◌≡◌ {A = Option A} (Some a) None → ⊥
present a h = cc

none_first : (files : List (List ℕ)) (g : Geometry) → mount_of files ≡ Ok g → None ≡ slice_get files 0 → ⊥
none_first [] g mounts none = refused Split g mounts
none_first (file ∷ files) g mounts none = missing file none

-- no store that is asked for the first file answers that there is none
pub has_first : {A : Type 0} (content : A → List ℕ) (i : ImageState) (o : Option A) → IsFileAt i 0 (option_map content o) → o ≡ None → ⊥
has_first content i None at none = none_first at.files i.geometry at.holds.holds.mounts at.is_there
has_first content i (Some a) at none = present a none

-- What is written back of an image that was changed.
use Rattle.std.specs.Prelude.{◌≡◌, ℕ, ◌<◌, nat_lt, false, List, [], ◌∷◌, ◌++◌, length, slice_index_or, if◌then◌else◌, Option, Some, None, Result, Ok, Err}
use Rattle.ckd_image.specs.Files.{each, file_at}
use Rattle.ckd_image.specs.Image.{ImageState, HoldsImage}
use Rattle.dasd_volumes.specs.Volumes.{of_each}
use Rattle.dasd_files.specs.Files.{FileState}
use Rattle.dasd_jobs.specs.Written.{Replaced}
use Rattle.dasd_jobs.specs.declared.faults.JobFault.{JobFault}

-- a file of which a write changed a byte is written whole at its path, and no other
abbrev pub changed_file : (path : List ℕ) → Option FileState → List Replaced
changed_file path None = []
changed_file path (Some f) = if nat_lt 0 f.changes then record { path = path; bytes = f.content } ∷ [] else []

-- those of the first so many files of an image, in their order
abbrev pub changed_files : (paths : List (List ℕ)) → (stores : List (Option FileState)) → ℕ → List Replaced
changed_files paths stores n = of_each (λ k. changed_file (slice_index_or paths k []) (file_at stores k)) n

-- each store holds what it was made of
abbrev pub AreAsMade : List (Option FileState) → Type 0
AreAsMade stores = each (λ f. f.content) stores ≡ each (λ f. f.origin) stores

-- a file that was not changed holds what was read of it
abbrev pub IsKept : Option FileState → Type 0
IsKept None = Unit {0}
IsKept (Some f) = nat_lt 0 f.changes ≡ false → f.content ≡ f.origin

-- and so does each of the first so many
abbrev pub AreKept : (stores : List (Option FileState)) → ℕ → Type 0
AreKept stores n = (k : ℕ) → k < n → IsKept (file_at stores k)

-- what was written of one file
abbrev pub IsWrittenOne : (path : List ℕ) → Option FileState → (before now : List Replaced) → Type 0
IsWrittenOne path store before now = (now ≡ before ++ changed_file path store) × IsKept store

-- and of all
abbrev pub AreWritten : (paths : List (List ℕ)) → (stores : List (Option FileState)) → (before now : List Replaced) → Type 0
AreWritten paths stores before now = (now ≡ before ++ changed_files paths stores (length paths)) × AreKept stores (length paths)

-- each file of an image that was changed was written whole, in their order, and no other; they are those that were read
pub record IsWritten (paths : List (List ℕ)) (i : ImageState) (before now : List Replaced) : Type 0 where
  pub stores : List (Option FileState)
  pub holds : HoldsImage (each (λ f. f.content) stores) i
  pub same : each (λ f. f.origin) stores ≡ i.lasting.origins
  pub written : AreWritten paths stores before now

-- all of them were, or none
abbrev pub WritesBack : {A : Type 0} → Result A JobFault → (paths : List (List ℕ)) → ImageState → (before now : List Replaced) → Type 0
WritesBack (Ok _) paths i before now = IsWritten paths i before now
WritesBack (Err _) paths i before now = now ≡ before

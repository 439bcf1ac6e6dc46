-- Files that were written.
use Rattle.std.specs.Prelude.{◌≡◌, ◌⊎◌, ℕ, List, [], ◌∷◌, ◌++◌, map, Result, Ok, Err}
use Rattle.counted_io.specs.Streams.{Stream, Takes, TakesFront, NoneFailed, OneFailed}
use Rattle.ckd_track.specs.declared.model.DriveModel.{DriveModel}
use Rattle.ckd_track.specs.Geometry.{new_geometry}
use Rattle.ckd_image.specs.Image.{new_file}
use Rattle.ckd_image.specs.Layout.{image_length}
use Rattle.dasd_jobs.specs.Lines.{formatted_line}
use Rattle.dasd_jobs.specs.declared.faults.JobFault.{JobFault}
use Rattle.dasd_jobs.specs.declared.faults.JobFault.TheVariants.{Write}
use Rattle.dasd_jobs.specs.declared.files.NewFile.{NewFile}
use Rattle.dasd_jobs.specs.declared.files.SavePlan.{SavePlan}
use Rattle.dasd_jobs.specs.declared.files.SavePlan.TheVariants.{SameLength}

-- a file that was made, or replaced whole: its path and all its bytes
pub record Replaced : Type 0 where
  pub path : List ℕ
  pub bytes : List ℕ

-- these files, and one more behind them
abbrev pub with_file : List Replaced → (path bytes : List ℕ) → List Replaced
with_file written path bytes = written ++ record { path = path; bytes = bytes } ∷ []

-- what new files are at their paths, once they are put there
abbrev pub files_of : {D : Type 0} → (content : D → List ℕ) → List (NewFile D) → List Replaced
files_of content new = map (λ f. record { path = f.path.now; bytes = content f.draft }) new

-- the files with that of a new volume behind them
abbrev pub with_new : List Replaced → (path : List ℕ) → DriveModel → (cylinders : ℕ) → List Replaced
with_new before path model cylinders = with_file before path (new_file (new_geometry model cylinders))

-- how a new volume is put at its path: a file that is as long stays the file that it is, and a new one takes the place of each other
abbrev pub format_plan : DriveModel → (cylinders : ℕ) → SavePlan
format_plan model cylinders = SameLength (image_length (new_geometry model cylinders))

-- the new image of a volume was put at its path, or nothing was
abbrev pub WritesNew : {A : Type 0} → Result A JobFault → (path : List ℕ) → DriveModel → (cylinders : ℕ) → (before now : List Replaced) → Type 0
WritesNew (Ok _) path model cylinders before now = now ≡ with_new before path model cylinders
WritesNew (Err _) path model cylinders before now = now ≡ before

-- A format is done where the new image is at its path and its line is written. With a write fault the image may be there and a write
-- of the line has failed; with every other fault nothing is there, and nothing is printed.
abbrev pub Formats : {A : Type 0} → Result A JobFault → (path : List ℕ) → DriveModel → (cylinders : ℕ) → (before now : List Replaced)
    → (printed_before printed : Stream) → Type 0
Formats (Ok _) path model cylinders before now printed_before printed =
    (now ≡ with_new before path model cylinders) × Takes printed_before printed (formatted_line model cylinders) × NoneFailed printed_before printed
Formats (Err fault) path model cylinders before now printed_before printed =
    ((now ≡ before) × (printed ≡ printed_before))
    ⊎ ((fault ≡ Write) × (now ≡ with_new before path model cylinders) × TakesFront printed_before printed (formatted_line model cylinders)
    × OneFailed printed_before printed)

-- a file of these bytes was put at a path, or nothing was
abbrev pub WritesFile : {A : Type 0} → Result A JobFault → (path bytes : List ℕ) → (before now : List Replaced) → Type 0
WritesFile (Ok _) path bytes before now = now ≡ with_file before path bytes
WritesFile (Err _) path bytes before now = now ≡ before

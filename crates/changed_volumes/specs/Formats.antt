-- What a format of a volume with a label leaves and prints.
use Rattle.std.specs.Prelude.{◌≡◌, ◌⊎◌, ℕ, List, Some, None, Result, Ok, Err}
use Rattle.counted_io.specs.Streams.{Stream, Takes, TakesFront, NoneFailed, OneFailed}
use Rattle.ckd_track.specs.declared.geometries.Geometry.{Geometry}
use Rattle.dasd_jobs.specs.Lines.{formatted_line}
use Rattle.dasd_jobs.specs.Written.{Replaced, with_file}
use Rattle.dasd_jobs.specs.declared.faults.JobFault.{JobFault}
use Rattle.dasd_jobs.specs.declared.faults.JobFault.TheVariants.{Write}
use Rattle.new_labels.specs.declared.labels.NewLabel.{NewLabel}
use Rattle.new_labels.specs.Labels.{table_fault_of}
use Rattle.changed_volumes.specs.declared.formats.FormatFault.{FormatFault}
use Rattle.changed_volumes.specs.declared.formats.FormatFault.TheVariants.{Table, Job}
use Rattle.changed_volumes.specs.LabelledFiles.{labelled_file}

-- the files with that of the new volume behind them
abbrev pub with_labelled : List Replaced → (path : List ℕ) → Geometry → NewLabel → List Replaced
with_labelled before path g l = with_file before path (labelled_file g l)

-- the new image was put at its path, or nothing was
abbrev pub WritesLabelled : {A : Type 0} → Result A JobFault → (path : List ℕ) → Geometry → NewLabel → (before now : List Replaced) → Type 0
WritesLabelled (Ok _) path g l before now = now ≡ with_labelled before path g l
WritesLabelled (Err _) path g l before now = now ≡ before

-- A format is done where the volume can have the table, its image is at its path and its line is written. Where it can't have the table,
-- that is the fault, whatever else may be wrong; with it, and with every other fault but that of a write, nothing is there and nothing is
-- printed. With a write fault the image may be there, and a write of the line has failed.
abbrev pub FormatsLabelled : {A : Type 0} → Result A FormatFault → (path : List ℕ) → Geometry → NewLabel → (before now : List Replaced)
    → (printed_before printed : Stream) → Type 0
FormatsLabelled (Ok _) path g l before now printed_before printed =
    (table_fault_of g l ≡ None) × (now ≡ with_labelled before path g l)
    × Takes printed_before printed (formatted_line g.model g.cylinders) × NoneFailed printed_before printed
FormatsLabelled (Err (Table fault)) path g l before now printed_before printed =
    (table_fault_of g l ≡ Some fault) × (now ≡ before) × (printed ≡ printed_before)
FormatsLabelled (Err (Job fault)) path g l before now printed_before printed =
    (table_fault_of g l ≡ None)
    × (((now ≡ before) × (printed ≡ printed_before))
    ⊎ ((fault ≡ Write) × (now ≡ with_labelled before path g l) × TakesFront printed_before printed (formatted_line g.model g.cylinders)
    × OneFailed printed_before printed))

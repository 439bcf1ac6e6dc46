-- What a format of a volume with a label does.
use Rattle.std.specs.Prelude.{◌≡◌, Result, OnOk}
use Rattle.counted_io.specs.Streams.{IsFlushed}
use Rattle.ckd_track.specs.Geometry.{new_geometry}
use Rattle.dasd_words.specs.declared.requests.NewImage.{NewImage}
use Rattle.new_labels.specs.declared.labels.NewLabel.{NewLabel}
use Rattle.changed_volumes.specs.declared.formats.FormatFault.{FormatFault}
use Rattle.changed_volumes.specs.Formats.{FormatsLabelled}
use Rattle.dasd_run.specs.declared.commands.Ending.{Ending}
use Rattle.program_faults.specs.declared.fault.ProgramFault.{ProgramFault}
use Rattle.dasd_run.specs.Ended.{done_or}
use Rattle.program_faults.specs.Faults.{format_fault}
use Rattle.dasd_run.specs.Outside.{Outside}

-- the new image with the label that is asked for is put at its path, and its line printed and flushed
abbrev pub FormatsWithLabel : Result Ending ProgramFault → NewImage → NewLabel → (before now : Outside) → Type 0
FormatsWithLabel result asked label before now =
    (job : Result (Unit {0}) FormatFault) × (result ≡ done_or format_fault job)
    × FormatsLabelled job asked.path.now (new_geometry asked.model asked.cylinders) label before.written now.written before.printed now.printed
    × OnOk job (IsFlushed now.printed)

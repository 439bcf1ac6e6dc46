-- What a check of what a volume holds prints.
use Rattle.std.specs.Prelude.{◌≡◌, ◌≢◌, ◌⊎◌, ℕ, Bool, List, Option, Result, IfOk, IfErr}
use Rattle.counted_io.specs.Streams.{Stream}
use Rattle.dasd_volumes.specs.declared.fault.VolumeFault.{VolumeFault}
use Rattle.dasd_volumes.specs.declared.fault.VolumeFault.TheVariants as volume
use Rattle.dasd_volumes.specs.Reading.{KnownVolume}
use Rattle.volume_findings.specs.Texts.{findings_text, TellsFound}
use Rattle.dasd_words.specs.declared.requests.PrintedVolume.{PrintedVolume}
use Rattle.dasd_run.specs.declared.commands.Ending.{Ending}
use Rattle.dasd_run.specs.declared.commands.Ending.TheVariants.{Done}
use Rattle.program_faults.specs.declared.fault.ProgramFault.{ProgramFault}
use Rattle.dasd_run.specs.Ended.{ended, worse}
use Rattle.program_faults.specs.Faults.{printing_fault}
use Rattle.dasd_run.specs.Held.{json_path}
use Rattle.dasd_run.specs.Outside.{Outside}
use Rattle.dasd_run.specs.Printed.{paths_of, IsUnopened, PrintsWhole}
use Rattle.dasd_run.specs.Reaches.{EndsOver}

-- All that is wrong with what a volume holds is printed, and it is reported whether something is. With a fault other than that of a write
-- nothing is printed.
abbrev pub PrintsFound : Result Ending ProgramFault → (json : Option (List ℕ)) → KnownVolume → (before now : Stream) → Type 0
PrintsFound result json v before now =
    (checking : Result Bool VolumeFault) × (result ≡ ended printing_fault (worse Done) checking) × IfOk checking (TellsFound v)
    × IfErr checking (λ e. e ≢ volume.Write → now ≡ before) × PrintsWhole checking (findings_text json) v before now

-- The volume in the files at the paths that were named was checked so, and no other file was opened; or it was not opened, and nothing was
-- printed.
abbrev pub ChecksContents : Result Ending ProgramFault → PrintedVolume → (before now : Outside) → Type 0
ChecksContents result asked before now =
    IsUnopened asked.as_far result (paths_of asked) before.opened now.opened before.printed now.printed
    ⊎ EndsOver result asked.as_far (paths_of asked) before.opened now.opened (λ ended v. PrintsFound ended (json_path asked) v before.printed now.printed)

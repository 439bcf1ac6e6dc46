-- Lines that a job prints.
use Rattle.std.specs.Prelude.{◌≡◌, ◌⊎◌, ℕ, false, List, Some, Result, Ok, Err}
use Rattle.counted_io.specs.Streams.{Stream, Takes, TakesFront, NoneFailed, OneFailed}
use Rattle.ckd_track.specs.declared.geometries.Geometry.{Geometry}
use Rattle.dasd_jobs.specs.declared.faults.JobFault.{JobFault}
use Rattle.dasd_jobs.specs.declared.faults.JobFault.TheVariants.{Write}
use Rattle.dasd_jobs.specs.Sources.{SourceFile, OfVolume}
use Rattle.dasd_jobs.specs.Unopened.{NotOpened}

-- a write of a line or a flush failed, exactly where a write fault is answered
abbrev pub CountsLines : {A : Type 0} → Result A JobFault → (before after : Stream) → Type 0
CountsLines (Err Write) before after = OneFailed before after
CountsLines _ before after = NoneFailed before after

-- The files at these paths were opened, and no other, and this text of the volume that they hold was printed, where that is known; or
-- its first bytes, with a fault. Or the volume is not opened, and nothing is printed.
abbrev pub PrintsFiles : {A : Type 0} → Result A JobFault → (text : Geometry → List (List ℕ) → List ℕ) → (paths : List (List ℕ))
    → (opened_before opened : List SourceFile) → (before after : Stream) → Type 0
PrintsFiles (Ok _) text paths opened_before opened before after =
    OfVolume false paths opened_before opened (λ v. (slots : List (List ℕ)) → v.slots ≡ Some slots → Takes before after (text v.geometry slots))
PrintsFiles (Err fault) text paths opened_before opened before after =
    (NotOpened false fault paths opened_before opened × (after ≡ before))
    ⊎ OfVolume false paths opened_before opened (λ v. (slots : List (List ℕ)) → v.slots ≡ Some slots → TakesFront before after (text v.geometry slots))

-- What a call printed of a volume, and whether a write failed.
use Rattle.std.specs.Prelude.{◌≡◌, ℕ, List, Some, Result, Ok, Err}
use Rattle.counted_io.specs.Streams.{Stream, Takes, TakesFront, NoneFailed, OneFailed}
use Rattle.ckd_track.specs.declared.geometries.Geometry.{Geometry}
use Rattle.dasd_volumes.specs.declared.fault.VolumeFault.{VolumeFault}
use Rattle.dasd_volumes.specs.declared.fault.VolumeFault.TheVariants.{Write}
use Rattle.dasd_volumes.specs.Reading.{KnownVolume}
use Rattle.dasd_volumes.specs.Checks.{Finding, finding_lines}

-- this text of the volume was printed, and with a fault only its first bytes, if its slots are known
abbrev pub PrintsText : {A : Type 0} → Result A VolumeFault → (text : Geometry → List (List ℕ) → List ℕ) → KnownVolume → (before after : Stream) → Type 0
PrintsText (Ok _) text v before after = (slots : List (List ℕ)) → v.slots ≡ Some slots → Takes before after (text v.geometry slots)
PrintsText (Err _) text v before after = (slots : List (List ℕ)) → v.slots ≡ Some slots → TakesFront before after (text v.geometry slots)

-- these bytes were printed, and with a fault only the first of them
abbrev pub PrintsBytes : {A : Type 0} → Result A VolumeFault → (bytes : List ℕ) → (before after : Stream) → Type 0
PrintsBytes (Ok _) bytes before after = Takes before after bytes
PrintsBytes (Err _) bytes before after = TakesFront before after bytes

-- a write or a flush failed, exactly where a write fault is answered
abbrev pub CountsWrites : {A : Type 0} → Result A VolumeFault → (before after : Stream) → Type 0
CountsWrites (Err Write) before after = OneFailed before after
CountsWrites _ before after = NoneFailed before after

-- the lines of these findings were written, and no call failed; or one failed, and only the first bytes may be
abbrev pub CountsFindings : {A E : Type 0} → Result A E → (before after : Stream) → List Finding → Type 0
CountsFindings (Ok _) before after findings = Takes before after (finding_lines findings) × NoneFailed before after
CountsFindings (Err _) before after findings = TakesFront before after (finding_lines findings) × OneFailed before after

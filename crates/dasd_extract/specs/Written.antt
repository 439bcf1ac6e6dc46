-- What is written of blocks one after another, and where it ends.
use Rattle.std.specs.Prelude.{◌≡◌, ℕ, zero, suc, ◌==◌, if◌then◌else◌, List, [], ◌++◌, Option, Some, None, option_map, Result, Ok, Err}
use Rattle.std.specs.Io.KnownBytes.{Appends}
use Rattle.counted_io.specs.Streams.{Stream, Takes, TakesFront}
use Rattle.dasd_volumes.specs.declared.fault.VolumeFault.{VolumeFault}
use Rattle.dasd_extract.specs.declared.stops.Cause.{Cause}
use Rattle.dasd_extract.specs.declared.stops.Cause.TheVariants.{EndOfFile, EndBehindAlternates}
use Rattle.dasd_extract.specs.declared.stops.Stop.{Stop}

-- the bytes that are written, and where it ended, if it has
pub record Written : Type 0 where
  pub bytes : List ℕ
  pub stop : Option Stop

abbrev pub nothing : Written
nothing = record { bytes = []; stop = None }

abbrev pub these_bytes : List ℕ → Written
these_bytes bytes = record { bytes = bytes; stop = None }

-- an end with no defective track before it
abbrev pub stop_at : (track : ℕ) → Cause → Stop
stop_at track cause = record { track = track; cause = cause; alternates = 0 }

abbrev pub stopped : (track : ℕ) → Cause → Written
stopped track cause = record { bytes = []; stop = Some (stop_at track cause) }

-- an end of file behind tracks that were read from their alternates is told as one; each other end is told with how many there are
abbrev pub cause_behind : (alternates : ℕ) → Cause → Cause
cause_behind n EndOfFile = if n == 0 then EndOfFile else EndBehindAlternates
cause_behind n cause = cause

abbrev pub stop_behind : (alternates : ℕ) → Stop → Stop
stop_behind n s = record { track = s.track; cause = cause_behind n s.cause; alternates = n }

-- the same is written, and it ends behind so many tracks that were read from their alternates
abbrev pub told_behind : (alternates : ℕ) → Written → Written
told_behind n w = record { bytes = w.bytes; stop = option_map (stop_behind n) w.stop }

-- what is written behind bytes, unless it has ended with them
abbrev pub behind : Option Stop → List ℕ → Written → Written
behind None bytes next = record { bytes = bytes ++ next.bytes; stop = next.stop }
behind (Some stop) bytes next = record { bytes = bytes; stop = Some stop }

-- one, and then the next, unless it has ended
abbrev pub and_then : Written → Written → Written
and_then w next = behind w.stop w.bytes next

-- 0, and then 1 and so on, of so many, up to where it ends
unfoldable pub until_stop : (ℕ → Written) → ℕ → Written
until_stop of zero = nothing
until_stop of (suc n) = and_then (until_stop of n) (of n)

-- from before to now this was written, and it ended so
pub record Writes (w : Written) (before now : Option (List ℕ)) (ended : Option Stop) : Type 0 where
  pub bytes : Appends before now w.bytes
  pub stop : ended ≡ w.stop

-- this was printed, and it ended so; with a fault only the first bytes of it were printed
abbrev pub PrintsWritten : Written → Result (Option Stop) VolumeFault → (before after : Stream) → Type 0
PrintsWritten w (Ok ended) before after = Takes before after w.bytes × (ended ≡ w.stop)
PrintsWritten w (Err _) before after = TakesFront before after w.bytes

-- Blocks that are whole: an end of file ends them.
use Rattle.std.specs.Prelude.{◌≡◌, ℕ, Bool, true, false, if◌then◌else◌, List, Option, Some, None, option_map}
use Rattle.std.specs.Global.{Vec}
use Rattle.dasd_volumes.specs.Reading.{KnownVolume}
use Rattle.dasd_extract.specs.declared.stops.Cause.{Cause}
use Rattle.dasd_extract.specs.declared.stops.Cause.TheVariants.{EndOfFile, EndBehindAlternates}
use Rattle.dasd_extract.specs.declared.stops.Stop.{Stop}
use Rattle.dasd_extract.specs.Walk.{Wanted, source_written}
use Rattle.dasd_extract.specs.Written.{Written}

-- an end of file; tracks before it that were read from their alternates are no fault
abbrev pub is_end_of_file : Cause → Bool
is_end_of_file EndOfFile = true
is_end_of_file EndBehindAlternates = true
is_end_of_file other = false

-- these bytes, if that is how they end
abbrev pub whole_for : Option Stop → List ℕ → Option (List ℕ)
whole_for None bytes = None
whole_for (Some stop) bytes = if is_end_of_file stop.cause then Some bytes else None

-- the bytes of blocks, if an end of file ends them
abbrev pub whole_bytes : Written → Option (List ℕ)
whole_bytes w = whole_for w.stop w.bytes

-- the bytes of a buffer, if there is one
abbrev pub bytes_in : Option (Vec ℕ) → Option (List ℕ)
bytes_in buffer = option_map (λ (b : Vec ℕ). b.items) buffer

-- these are the bytes of a source, or none if no end of file ends it, if the slots of the volume are known
abbrev pub IsWhole : Wanted → KnownVolume → Option (Vec ℕ) → Type 0
IsWhole s v blocks = (slots : List (List ℕ)) → v.slots ≡ Some slots → bytes_in blocks ≡ whole_bytes (source_written s v.geometry slots)

-- In which words it is told where blocks end, and why.
use Rattle.std.specs.Prelude.{ℕ, ◌==◌, if◌then◌else◌, List, [], ◌∷◌, codes}
use Rattle.std.specs.List.{concat}
use Rattle.std.specs.Fmt.{decimal}
use Rattle.volume_labels.specs.declared.records.RecordFault.{RecordFault}
use Rattle.volume_labels.specs.declared.records.RecordFault.TheVariants.{ShortRecord, NoDescriptor, BlockLength, RecordLength, SegmentCode}
use Rattle.dasd_volumes.specs.Lines.{fault_text}
use Rattle.dasd_extract.specs.declared.stops.Cause.{Cause}
use Rattle.dasd_extract.specs.declared.stops.Cause.TheVariants.{EndOfFile, EndBehindAlternates, PastExtents, Outside, BadExtent, NoTrack, NoAlternate}
use Rattle.dasd_extract.specs.declared.stops.Cause.TheVariants.{NotAlternate, Unreadable, NoBlock, NotDirectory, NoRecord, LongBlock, TooManyTracks, EndOfExtents}
use Rattle.dasd_extract.specs.declared.stops.Stop.{Stop}

-- why bytes are no record
abbrev pub lie_text : RecordFault → List ℕ
lie_text ShortRecord = codes "ends within a record"
lie_text NoDescriptor = codes "has no descriptor word where there must be one"
lie_text BlockLength = codes "has a block descriptor word of another length"
lie_text RecordLength = codes "has a record descriptor word of a length that can't be"
lie_text SegmentCode = codes "has a segment code that its format has not"

-- why no more blocks are read
abbrev pub cause_text : Cause → List ℕ
cause_text EndOfFile = codes "end of file"
cause_text EndBehindAlternates = codes "end of file"
cause_text PastExtents = codes "the extents end before an end of file"
cause_text Outside = codes "it is after the extents"
cause_text BadExtent = codes "an extent is no run of tracks"
cause_text NoTrack = codes "an extent has a track that the volume has not"
cause_text NoAlternate = codes "it is defective, and no record 0 names a track of the volume"
cause_text NotAlternate = codes "it is defective, and the track that its record 0 names is no alternate"
cause_text (Unreadable fault) = concat (codes "unreadable " ∷ fault_text fault ∷ [])
cause_text (NoBlock number) = concat (codes "no block " ∷ decimal number ∷ [])
cause_text (NotDirectory number) = concat (codes "block " ∷ decimal number ∷ codes " is none of a directory" ∷ [])
cause_text (NoRecord number fault) = concat (codes "block " ∷ decimal number ∷ codes " " ∷ lie_text fault ∷ [])
cause_text (LongBlock number) = concat (codes "block " ∷ decimal number ∷ codes " is longer than its block length" ∷ [])
cause_text TooManyTracks = codes "more tracks than are read"
cause_text EndOfExtents = codes "end of the extents"

-- how many tracks were read from their alternates, where some were
abbrev pub followed_text : ℕ → List ℕ
followed_text number = if number == 0 then [] else concat (codes "; tracks read from their alternates: " ∷ decimal number ∷ [])

-- where, counted from the data set's first track on, and why
abbrev pub stop_text : Stop → List ℕ
stop_text s = concat (codes "track " ∷ decimal s.track ∷ codes " of the data set: " ∷ cause_text s.cause ∷ followed_text s.alternates ∷ [])

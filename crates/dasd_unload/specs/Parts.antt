-- Data sets on several volumes: which part of one a volume has, by its label, and in which words that is told.
use Rattle.std.specs.Prelude.{ℕ, ◌==◌, nat_lt, Bool, true, false, not, ◌&&◌, if◌then◌else◌, List, [], ◌∷◌, bit_and, codes, Option, Some}
use Rattle.std.specs.Prelude.{None}
use Rattle.std.specs.List.{concat}
use Rattle.std.specs.Fmt.{decimal}
use Rattle.volume_labels.specs.declared.blocks.DataSetBlock.{DataSetBlock}
use Rattle.dasd_extract.specs.declared.stops.Cause.{Cause}
use Rattle.dasd_extract.specs.declared.stops.Cause.TheVariants.{EndOfFile, PastExtents, EndOfExtents}
use Rattle.dasd_extract.specs.declared.stops.Stop.{Stop}
use Rattle.dasd_extract.specs.Stops.{stop_text}
use Rattle.dasd_unload.specs.declared.parts.SetPart.{SetPart}
use Rattle.dasd_unload.specs.declared.parts.SetPart.TheVariants.{Whole, Last, Followed, Unmarked}
use Rattle.dasd_unload.specs.declared.parts.End.{End}

-- a data set has members
abbrev pub is_partitioned : DataSetBlock → Bool
is_partitioned d = not (bit_and d.organisation 0x0200 == 0)

-- bit 0 of its indicators: this is its last volume
abbrev pub is_last_volume : DataSetBlock → Bool
is_last_volume d = not (bit_and d.indicators 0x80 == 0)

abbrev pub is_past_extents : Cause → Bool
is_past_extents PastExtents = true
is_past_extents other = false

-- Which part a volume has. A data set with members is on one volume. Of another, a number above 1 says that it is on several, and the
-- indicators whether it goes on. The first volume has no sign of its own: where no end of file stands in the extents, it is told if the
-- indicators do not mark it as the last.
abbrev pub part_of : DataSetBlock → Cause → SetPart
part_of d cause =
    if is_partitioned d then Whole
    else (if nat_lt 1 d.volume then (if is_last_volume d then Last d.volume else Followed d.volume)
    else (if is_past_extents cause && not (is_last_volume d) then Unmarked
    else Whole))

-- where the blocks or the tracks of a data set end, and which part of it they are
abbrev pub end_of : DataSetBlock → Stop → End
end_of d stop = record { stop = stop; part = part_of d stop.cause }

abbrev pub is_whole_part : SetPart → Bool
is_whole_part Whole = true
is_whole_part other = false

abbrev pub is_end : Cause → Bool
is_end EndOfFile = true
is_end other = false

-- blocks are all of a data set or of a member: they end with an end of file, and nothing says that others are on another volume
abbrev pub is_whole : End → Bool
is_whole e = is_end e.stop.cause && is_whole_part e.part

abbrev pub is_end_of_extents : Cause → Bool
is_end_of_extents EndOfExtents = true
is_end_of_extents other = false

-- tracks are all of a data set
abbrev pub are_all_tracks : End → Bool
are_all_tracks e = is_end_of_extents e.stop.cause && is_whole_part e.part

-- In words.

abbrev pub part_text : SetPart → List ℕ
part_text Whole = []
part_text (Last number) = concat (codes "; part " ∷ decimal number ∷ codes " of a data set on several volumes, the last" ∷ [])
part_text (Followed number) = concat (codes "; part " ∷ decimal number ∷ codes " of a data set on several volumes, which goes on on another" ∷ [])
part_text Unmarked = codes "; its label does not mark this volume as its last"

abbrev pub end_text : End → List ℕ
end_text e = concat (stop_text e.stop ∷ part_text e.part ∷ [])

-- what is told of blocks that are not whole
abbrev pub ended_texts : End → List (List ℕ)
ended_texts e = if is_whole e then [] else end_text e ∷ []

abbrev pub written_texts : DataSetBlock → Option Stop → List (List ℕ)
written_texts d None = []
written_texts d (Some stop) = ended_texts (end_of d stop)

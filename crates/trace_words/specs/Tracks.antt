-- What a trace says of tracks: the record that a command met, what it worked on, and what came of that. Hexadecimal digits are capitals.
use Rattle.std.specs.Prelude.{ℕ, List, [], ◌∷◌, codes, take, Option, Some, None}
use Rattle.std.specs.List.{concat}
use Rattle.std.specs.Fmt.{decimal}
use Rattle.counted_io.specs.Text.{bytes_text}
use Rattle.ckd_track.specs.Track.{key_length, data_length}
use Rattle.ckd_position.specs.declared.areas.Area.{Area}
use Rattle.ckd_position.specs.declared.areas.Area.TheVariants.{HomeAddress, Of}
use Rattle.ckd_sense.specs.declared.masks.FileMask.{FileMask}
use Rattle.ckd_sense.specs.declared.masks.WritePermission.{WritePermission}
use Rattle.ckd_sense.specs.declared.masks.WritePermission.TheVariants.{InhibitHomeAddressAndR0, InhibitAllWrites, InhibitFormatWrites, PermitAllWrites}
use Rattle.ckd_sense.specs.declared.masks.SeekPermission.{SeekPermission}
use Rattle.ckd_sense.specs.declared.masks.SeekPermission.TheVariants.{PermitAllSeeks, PermitSeekCylinderAndHead, PermitSeekHead, InhibitAllSeeks}
use Rattle.trace_words.specs.declared.met.Met.{Met}
use Rattle.trace_words.specs.declared.worked_on.Outcome.{Outcome}
use Rattle.trace_words.specs.declared.worked_on.Outcome.TheVariants.{NoOutcome, Equal, Unequal, High, NotHigh, EqualOrHigh, Low}
use Rattle.trace_words.specs.declared.worked_on.WorkedOn.{WorkedOn}
use Rattle.trace_words.specs.declared.worked_on.WorkedOn.TheVariants as worked_on

-- a count area: the identifier, and the lengths of key and data
abbrev pub count_text : List ℕ → List ℕ
count_text count = concat (
    codes " " ∷ bytes_text (take 5 count) ∷ codes " KL " ∷ decimal (key_length count) ∷ codes " DL " ∷ decimal (data_length count) ∷ [])

-- the count area of a record, where it was seen
abbrev pub seen_count_text : Option (List ℕ) → List ℕ
seen_count_text None = []
seen_count_text (Some count) = count_text count

-- a record by its place on the track, with its count area where that was seen
abbrev pub record_text : (number : ℕ) → Option (List ℕ) → List ℕ
record_text number count = concat (codes "R" ∷ decimal number ∷ seen_count_text count ∷ [])

-- the home address, or a record
abbrev pub area_text : Area → Option (List ℕ) → List ℕ
area_text HomeAddress count = codes "home address"
area_text (Of part number) count = record_text number count

-- what a command met
abbrev pub met_text : Met → List ℕ
met_text m = area_text m.area m.count

-- what a search came to
abbrev pub outcome_text : Outcome → List ℕ
outcome_text NoOutcome = []
outcome_text Equal = codes " equal"
outcome_text Unequal = codes " unequal"
outcome_text High = codes " high"
outcome_text NotHigh = codes " not high"
outcome_text EqualOrHigh = codes " equal or high"
outcome_text Low = codes " low"

-- which writes a file mask allows
abbrev pub writes_text : WritePermission → List ℕ
writes_text InhibitHomeAddressAndR0 = codes "no write of HA, R0"
writes_text InhibitAllWrites = codes "no write"
writes_text InhibitFormatWrites = codes "no formatting write"
writes_text PermitAllWrites = codes "all writes"

-- which seeks it allows
abbrev pub seeks_text : SeekPermission → List ℕ
seeks_text PermitAllSeeks = codes "all seeks"
seeks_text PermitSeekCylinderAndHead = codes "no Seek"
seeks_text PermitSeekHead = codes "Seek Head only"
seeks_text InhibitAllSeeks = codes "no seek"

-- a file mask
abbrev pub mask_text : FileMask → List ℕ
mask_text mask = concat (writes_text mask.writes ∷ codes "; " ∷ seeks_text mask.seeks ∷ [])

-- what a command worked on, and what came of it
abbrev pub worked_on_text : WorkedOn → List ℕ
worked_on_text worked_on.Nothing = []
worked_on_text (worked_on.Area met outcome) = concat (met_text met ∷ outcome_text outcome ∷ [])
worked_on_text (worked_on.Behind met) = concat (codes "behind " ∷ met_text met ∷ [])
worked_on_text (worked_on.Place cylinder head) = concat (codes "cylinder " ∷ decimal cylinder ∷ codes " head " ∷ decimal head ∷ [])
worked_on_text (worked_on.Mask mask) = mask_text mask

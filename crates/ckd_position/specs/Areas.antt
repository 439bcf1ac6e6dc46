-- The areas of a track in the order in which they pass, and the next one of a kind
-- (component descriptions of the 2841 and the 2314, 'Track Format' and the descriptions of the commands).
use Rattle.std.specs.Prelude.{⊤, ℕ, ◌+◌, ◌<◌, List, [], ◌∷◌, ◌++◌, Bool, true, false, not, ◌&&◌, ◌||◌, ◌==◌, Option, Some, None, length, nat_lt, if◌then◌else◌}
use Rattle.std.specs.Prelude.{find}
use Rattle.ckd_track.specs.Track.{Record, Track}
use Rattle.ckd_position.specs.declared.areas.RecordPart.{RecordPart}
use Rattle.ckd_position.specs.declared.areas.RecordPart.TheVariants.{Count, Key, Data}
use Rattle.ckd_position.specs.declared.areas.Area.{Area}
use Rattle.ckd_position.specs.declared.areas.Area.TheVariants.{HomeAddress, Of}
use Rattle.ckd_position.specs.declared.areas.Position.{Position}
use Rattle.ckd_position.specs.declared.areas.Position.TheVariants.{AtIndex, At}
use Rattle.ckd_position.specs.declared.areas.Kind.{Kind}
use Rattle.ckd_position.specs.declared.areas.Kind.TheVariants as kind
use Rattle.ckd_position.specs.declared.areas.Next.{Next}
use Rattle.ckd_position.specs.declared.areas.Next.TheVariants.{Found, IndexPassed}

-- whether a record has a key area
abbrev pub has_key : Record → Bool
has_key r = not (length r.key_area == 0)

-- the areas of record i
abbrev pub areas_of : ℕ → Record → List Area
areas_of i r = if has_key r then Of Count i ∷ Of Key i ∷ Of Data i ∷ [] else Of Count i ∷ Of Data i ∷ []

-- the areas of records that follow one another, from record i on
abbrev pub areas_from : ℕ → List Record → List Area
areas_from i [] = []
areas_from i (r ∷ rs) = areas_of i r ++ areas_from (i + 1) rs

-- the areas of a track, in the order in which they pass
abbrev pub areas : Track → List Area
areas t = HomeAddress ∷ areas_from 0 t.records

-- whether the one part of a record passes before the other: count, key, data
abbrev pub part_before : RecordPart → RecordPart → Bool
part_before Count Key = true
part_before Count Data = true
part_before Key Data = true
part_before _ _ = false

-- whether the first area passes before the second one on a turn
abbrev pub passes_before : Area → Area → Bool
passes_before HomeAddress (Of _ _) = true
passes_before (Of p i) (Of q j) = nat_lt i j || (i == j && part_before p q)
passes_before _ _ = false

-- whether an area has not passed yet at a position
abbrev pub is_behind : Position → Area → Bool
is_behind AtIndex a = true
is_behind (At p) a = passes_before p a

-- whether the last area that passed is one of record i
abbrev pub is_in : Position → ℕ → Bool
is_in (At (Of _ j)) i = i == j
is_in _ i = false

-- whether the last area that passed is the key area of record i
abbrev pub is_at_key : Position → ℕ → Bool
is_at_key (At (Of Key j)) i = i == j
is_at_key _ i = false

-- whether an area is of this kind, for a look that begins at a position: key and data of record 0 are so only from within
-- it, and key and data together only of a record whose key has not just passed
abbrev pub admits : Kind → Position → Area → Bool
admits kind.HomeAddress _ HomeAddress = true
admits kind.AnyCount _ (Of Count i) = true
admits kind.FirstCount _ (Of Count i) = i == 0
admits kind.LaterCount _ (Of Count i) = nat_lt 0 i
admits kind.Key position (Of Key i) = nat_lt 0 i || is_in position i
admits kind.Data position (Of Data i) = nat_lt 0 i || is_in position i
admits kind.KeyAndData position (Of Data i) = (nat_lt 0 i || is_in position i) && not (is_at_key position i)
admits kind.FirstData _ (Of Data i) = i == 1
admits _ _ _ = false

-- whether a look for this kind takes an area: it is still to pass, and the kind admits it
abbrev pub takes : Kind → Position → Area → Bool
takes kind position a = admits kind position a && is_behind position a

-- what is answered of a search along the track: the area; or the index passed, where there is none
abbrev pub found : Option Area → Next
found (Some a) = Found a
found None = IndexPassed

-- the first area behind the position that the kind admits; where there is none, the index passes
abbrev pub next_of_kind : Track → Position → Kind → Next
next_of_kind t position kind = found (find (takes kind position) (areas t))

-- the home address, or a part of a record that the track has
abbrev pub IsOnTrack : Track → Area → Type 0
IsOnTrack t HomeAddress = ⊤
IsOnTrack t (Of _ i) = i < length t.records

-- this holds of the area that was found; where the index passed nothing is asked
abbrev pub IfFound : Next → (Area → Type 0) → Type 0
IfFound (Found a) P = P a
IfFound IndexPassed P = ⊤

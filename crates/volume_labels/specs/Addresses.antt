-- Relative track addresses: the tracks of a data set are numbered from 0 on over its extents, in their order (Data Management
-- Services, 'Relative Track Address').
use Rattle.std.specs.Prelude.{ℕ, ◌+◌, ◌-◌, ◌*◌, ◌/◌, ◌%◌, ◌==◌, Bool, ◌&&◌, ◌||◌, not, nat_lt, nat_le, if◌then◌else◌, List, [], ◌∷◌}
use Rattle.volume_labels.specs.declared.fields.TrackAddress.{TrackAddress}
use Rattle.volume_labels.specs.declared.fields.Extent.{Extent}
use Rattle.volume_labels.specs.declared.addresses.TrackPlace.{TrackPlace}
use Rattle.volume_labels.specs.declared.addresses.TrackPlace.TheVariants.{Track, PastEnd, BadExtent}
use Rattle.volume_labels.specs.declared.addresses.Step.{Step}
use Rattle.volume_labels.specs.declared.addresses.Step.TheVariants.{Found, Left}

-- there is no extent, or it holds user labels: neither gives tracks to the addresses
abbrev pub is_unused : Extent → Bool
is_unused e = (e.kind == 0) || (e.kind == 0x40)

-- tracks are numbered on a volume cylinder by cylinder and head by head
abbrev pub number_of_track : (heads : ℕ) → TrackAddress → ℕ
number_of_track heads a = a.cylinder * heads + a.head

-- it shares its cylinders with others (type 80): of each cylinder it has the heads from its first one to its last one (System Control
-- Blocks, 'Data Set Control Block', DS1EXT1)
abbrev pub is_split : Extent → Bool
is_split e = e.kind == 0x80

-- an extent does not end before it begins; a split one in neither its cylinders nor its heads
abbrev pub is_in_order : (heads : ℕ) → Extent → Bool
is_in_order heads e =
    if is_split e then nat_le e.first.cylinder e.last.cylinder && nat_le e.first.head e.last.head
    else nat_le (number_of_track heads e.first) (number_of_track heads e.last)

-- an extent is a run of tracks, or one on each of its cylinders: both of its heads are the drive's, and it does not end before it begins
abbrev pub is_run : (heads : ℕ) → Extent → Bool
is_run heads e = (nat_lt e.first.head heads && nat_lt e.last.head heads) && is_in_order heads e

-- how many heads of each cylinder a split extent has
abbrev pub heads_in : Extent → ℕ
heads_in e = e.last.head + 1 - e.first.head

-- how many tracks an extent has
abbrev pub tracks_of_extent : (heads : ℕ) → Extent → ℕ
tracks_of_extent heads e =
    if is_split e then (e.last.cylinder + 1 - e.first.cylinder) * heads_in e
    else number_of_track heads e.last + 1 - number_of_track heads e.first

-- track n of a split extent, from 0 on: cylinder by cylinder, over its heads of each
abbrev pub split_track : Extent → (n : ℕ) → TrackAddress
split_track e n = record { cylinder = e.first.cylinder + n / heads_in e; head = e.first.head + n % heads_in e }

-- the number on the volume of track n of an extent, from 0 on
abbrev pub track_in : (heads : ℕ) → Extent → (n : ℕ) → ℕ
track_in heads e n = if is_split e then number_of_track heads (split_track e n) else number_of_track heads e.first + n

-- an extent has the track that is so many further on; or so many are left behind it
abbrev pub step_over : (heads : ℕ) → Extent → ℕ → Step
step_over heads e n =
    if is_unused e then Left n
    else (if not (is_run heads e) then Found BadExtent
    else (if nat_lt n (tracks_of_extent heads e) then Found (Track (track_in heads e n))
    else Left (n - tracks_of_extent heads e)))

-- an answer, or what is said of the tracks that are left
abbrev pub unless_found : Step → (ℕ → TrackPlace) → TrackPlace
unless_found (Found place) behind = place
unless_found (Left n) behind = behind n

-- where the track of this number is: in the first extent that reaches so far
unfoldable pub track_of : (heads : ℕ) → List Extent → ℕ → TrackPlace
track_of heads [] n = PastEnd
track_of heads (e ∷ es) n = unless_found (step_over heads e n) (track_of heads es)

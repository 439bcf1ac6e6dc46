-- Free tracks of a volume, by the extents of its data sets and of its table of contents, and by what keeps tracks back.
use Rattle.std.specs.Prelude.{◌≡◌, ◌≢◌, ℕ, ◌+◌, ◌/◌, ◌%◌, ◌<◌, ◌==◌, Bool, true, ◌&&◌, not, nat_le, nat_lt, if◌then◌else◌, List, length, slice_index}
use Rattle.std.specs.Prelude.{slice_index_or, Option, Some, None}
use Rattle.std.specs.List.{list_any}
use Rattle.ckd_track.specs.declared.geometries.Geometry.{Geometry}
use Rattle.ckd_track.specs.Model.{heads_of}
use Rattle.ckd_track.specs.Geometry.{tracks_of}
use Rattle.volume_labels.specs.declared.fields.Extent.{Extent}
use Rattle.volume_labels.specs.Addresses.{number_of_track, is_split, is_run, tracks_of_extent, track_in}

-- an extent that shares its cylinders has the volume's track n: of each of them it has its own heads
abbrev pub shares_track : (heads n : ℕ) → Extent → Bool
shares_track heads n e =
    nat_le e.first.cylinder (n / heads) && (nat_le (n / heads) e.last.cylinder && (nat_le e.first.head (n % heads) && nat_le (n % heads) e.last.head))

-- an extent has the volume's track n
abbrev pub has_track : (heads n : ℕ) → Extent → Bool
has_track heads n e =
    if is_split e then shares_track heads n e
    else nat_le (number_of_track heads e.first) n && nat_le n (number_of_track heads e.last)

-- one of the extents has it
abbrev pub is_taken : Geometry → List Extent → (n : ℕ) → Bool
is_taken g extents n = list_any (has_track (heads_of g.model) n) extents

-- What says whether a track can be given: the extents that are in use, and a mark for each track of the volume, 0 for one that is kept back.
pub record Space : Type 0 where
  pub extents : List Extent
  pub marks : List ℕ

-- a track that can be given to a data set: the volume has it, it is not that of the label, its mark is not 0, and no extent has it
abbrev pub is_free : Geometry → Space → (n : ℕ) → Bool
is_free g s n = (nat_lt 0 n && nat_lt n (tracks_of g)) && (not (slice_index s.marks n == 0) && not (is_taken g s.extents n))

-- so many tracks from this one on can be given
abbrev pub IsFreeRun : Geometry → Space → (tracks first : ℕ) → Type 0
IsFreeRun g s tracks first = (k : ℕ) → k < tracks → is_free g s (first + k) ≡ true

-- the first such run; none where there is none
abbrev pub IsFirstRun : Geometry → Space → (tracks : ℕ) → Option ℕ → Type 0
IsFirstRun g s tracks (Some first) = IsFreeRun g s tracks first × ((n : ℕ) → n < first → IsFreeRun g s tracks n → ⊥)
IsFirstRun g s tracks None = (n : ℕ) → IsFreeRun g s tracks n → ⊥

-- No track that the addresses of an extent lead to is among these: neither one of a data set, nor one of the table of contents.
abbrev pub IsApart : Geometry → List Extent → (tracks first : ℕ) → Type 0
IsApart g extents tracks first =
    (i : ℕ) → i < length extents → (e : Extent) → slice_index_or extents i e ≡ e → is_run (heads_of g.model) e ≡ true
    → (m : ℕ) → m < tracks_of_extent (heads_of g.model) e → (k : ℕ) → k < tracks → track_in (heads_of g.model) e m ≢ first + k

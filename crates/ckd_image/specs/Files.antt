-- The files of an image, one behind the other.
use Rattle.std.specs.Prelude.{◌≡◌, ℕ, ◌+◌, ◌-◌, nat_lt, if◌then◌else◌, ◌*◌, ◌<◌, ◌≤◌, ◌^◌, List, [], ◌∷◌, length, drop, take, map, slice_index, slice_index_or}
use Rattle.std.specs.Prelude.{slice_set, Option, Some, None, Err, IsOk}
use Rattle.std.specs.List.{concat}
use Rattle.ckd_image.specs.declared.files.SlotPlace.{SlotPlace}
use Rattle.ckd_image.specs.declared.stores.Stores.{Stores}
use Rattle.ckd_image.specs.declared.fault.MountFault.{MountFault}
use Rattle.ckd_image.specs.declared.fault.MountFault.TheVariants.{StoreFault}
use Rattle.ckd_image.specs.Header.{Head, no_head, head_of, header_of, headers_of}

-- the bytes behind the files' headers, in order
abbrev pub slot_bytes : List (List ℕ) → List ℕ
slot_bytes files = concat (map (drop 512) files)

-- the same place, where one more file stands before
abbrev pub behind : SlotPlace → SlotPlace
behind p = record p { file = p.file + 1 }

-- where the slot of a track is, in files of so many tracks each: the file's place, and the track's
-- number in that file
abbrev pub place_in : List ℕ → ℕ → SlotPlace
place_in [] track = record { file = 0; track = track }
place_in (n ∷ tracks) track = if nat_lt track n then record { file = 0; track = track }
    else behind (place_in tracks (track - n))

module _ {S : Type 0} where
  -- the stores in order
  abbrev pub listed : Stores S → List (Option S)
  listed s = s.first ∷ s.second ∷ s.third ∷ s.fourth ∷ s.fifth ∷ s.sixth ∷ s.seventh ∷ s.eighth ∷ []

  -- a store alone
  abbrev pub alone : S → Stores S
  alone s = record {
    first = Some s;
    second = None;
    third = None;
    fourth = None;
    fifth = None;
    sixth = None;
    seventh = None;
    eighth = None;
  }

  -- the file at a place, or none
  abbrev pub file_at : List (Option S) → ℕ → Option S
  file_at files place = slice_index_or files place None

  -- f of a store, if there is one
  abbrev pub held : {T : Type 0} → (S → T) → T → Option S → T
  held f none None = none
  held f none (Some s) = f s

  -- f of each store that is there, in order
  abbrev pub each : {T : Type 0} → (S → T) → List (Option S) → List T
  each f [] = []
  each f (None ∷ stores) = each f stores
  each f (Some s ∷ stores) = f s ∷ each f stores

  -- the stores that are there hold a header and as many slots of this size as they say, and those
  -- that are not there hold none
  abbrev pub HoldTracks : (S → List ℕ) → ℕ → List (Option S) → List ℕ → Type 0
  HoldTracks content size [] tracks = Unit {0}
  HoldTracks content size (s ∷ stores) [] = ⊥
  HoldTracks content size (None ∷ stores) (n ∷ tracks) = (n ≡ 0) × HoldTracks content size stores tracks
  HoldTracks content size (Some s ∷ stores) (n ∷ tracks) = (length (content s) ≡ 512 + n * size)
      × HoldTracks content size stores tracks

-- a file is a header and whole slots of this size, fewer than two to the 32 of them
pub record HoldsWhole (size : ℕ) (file : List ℕ) : Type 0 where
  pub tracks : ℕ
  pub most : tracks < 2 ^ 32
  pub is_length : length file ≡ 512 + tracks * size

-- the header of a file was not read with this fault, and the store's failures were and are so many:
-- a fault of the store is met only where the file has a header, and is counted; any other is the
-- first rule on one file that is broken
abbrev pub HeaderRefused : MountFault → List ℕ → ℕ → ℕ → Type 0
HeaderRefused StoreFault file before now = (512 ≤ length file) × (now ≡ before + 1)
HeaderRefused fault file before now = (header_of (head_of file) ≡ Err fault) × (now ≡ before)

-- the header of one of these files was not read: those of the files before it keep the rules on one
-- file, it is not below 512 bytes, and its store alone counts a failure
pub record FailedRead (heads : List Head) (before now : List ℕ) : Type 0 where
  pub place : ℕ
  pub there : place < length heads
  pub front : IsOk (headers_of [] (take place heads))
  pub long : 512 ≤ (slice_index_or heads place no_head).len
  pub counted : now ≡ slice_set before place (slice_index before place + 1)

-- the headers of files were not read with this fault, and the failures of each store were and are
-- so many
abbrev pub HeadersRefused : MountFault → List Head → List ℕ → List ℕ → Type 0
HeadersRefused StoreFault heads before now = FailedRead heads before now
HeadersRefused fault heads before now = (headers_of [] heads ≡ Err fault) × (now ≡ before)

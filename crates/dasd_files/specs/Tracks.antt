-- Which tracks of a volume's file were written, and where their slots lie.
use Rattle.std.specs.Prelude.{◌≡◌, ◌⊎◌, ℤ, pos, ℕ, ◌+◌, ◌-◌, ◌*◌, ◌/◌, ◌<◌, ◌≤◌, ◌==◌, ◌||◌, nat_lt, nat_le, List, length, Bool, true, false}
use Rattle.std.specs.Prelude.{if◌then◌else◌, Option, Some, None}
use Rattle.ckd_image.specs.Header.{track_size_field}
use Rattle.dasd_files.specs.Parts.{parts_of}
use Rattle.dasd_files.specs.Files.{AreAsThen, FileState, may_have_changed}
use Rattle.dasd_files.specs.declared.tracks.ShownTrack.{ShownTrack}

-- the bytes of a slot, as a header says, if it is there as far as that
abbrev pub slot_size : List ℕ → ℕ
slot_size bytes = if nat_lt (length bytes) 16 then 0 else track_size_field bytes

-- a file whose slots of so many bytes are watched: its header and each of them, as far as a slot is longer than a header
abbrev pub by_slots : (size : ℕ) → FileState → FileState
by_slots size f = if nat_le size 512 then f else record f { parts = Some (parts_of (size - 512) size (length f.content) f.changes) }

-- how many slots of so many bytes a file has after its header
abbrev pub tracks_in : FileState → (size : ℕ) → ℕ
tracks_in f size = if (size == 0) || nat_lt (length f.content) 512 then 0 else (length f.content - 512) / size

-- where the slot of a track begins in its file
abbrev pub slot_at : (size track : ℕ) → ℕ
slot_at size track = 512 + track * size

-- a track is told of, since this number of changes
abbrev pub is_told : FileState → (size since track : ℕ) → Bool
is_told f size since track = may_have_changed f since (slot_at size track) size

-- none of these tracks is told of, and each of their slots holds what it held as the number was this one
abbrev pub AreKept : FileState → (size since from to : ℕ) → Type 0
AreKept f size since from to =
    (track : ℕ) → from ≤ track → track < to → (is_told f size since track ≡ false) × AreAsThen f since (slot_at size track) size

-- The first track of a file that is told of, at this one or after it, with the place of its slot.
pub record IsNext (f : FileState) (size since from : ℕ) (shown : ShownTrack) : Type 0 where
  pub track : ℕ
  pub low : from ≤ track
  pub there : track < tracks_in f size
  pub told : is_told f size since track ≡ true
  pub kept : AreKept f size since from track
  pub is_it : shown ≡ record { at = slot_at size track; len = size; track = track; next = track + 1 }

-- It is shown; or there is none.
abbrev pub ShowsNext : FileState → (size since from : ℕ) → Option ShownTrack → Type 0
ShowsNext f size since from (Some shown) = IsNext f size since from shown
ShowsNext f size since from None = AreKept f size since from (tracks_in f size)

-- Such a track is shown by 1; or there is none, by 0, and what was shown stays.
abbrev pub TellsNext : FileState → (size since : ℕ) → (code : ℤ) → (before shown : ShownTrack) → Type 0
TellsNext f size since code before shown =
    ((code ≡ pos 1) × IsNext f size since before.next shown)
    ⊎ ((code ≡ pos 0) × AreKept f size since before.next (tracks_in f size) × (shown ≡ before))

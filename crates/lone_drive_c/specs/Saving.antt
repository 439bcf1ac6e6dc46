-- What a drive is between two programs, as bytes, and a drive that becomes it.
use Rattle.std.specs.Prelude.{◌≡◌, ℤ, pos, ℕ, ◌/◌, ◌%◌, ◌==◌, ◌&&◌, ◌||◌, not, nat_le, nat_lt, Bool, true, false, is_none, List, [], ◌∷◌, ◌++◌, bytes_eq, codes, drop, length, slice_index, slice_range, take}
use Rattle.std.specs.Prelude.{Option, Some, None, if◌then◌else◌}
use Rattle.byteorder.specs.Endian.{big_number}
use Rattle.ckd_position.specs.declared.areas.Position.{Position}
use Rattle.ckd_position.specs.declared.areas.Position.TheVariants.{AtIndex}
use Rattle.ckd_sense.specs.declared.masks.WritePermission.{WritePermission}
use Rattle.ckd_sense.specs.declared.masks.WritePermission.TheVariants.{InhibitHomeAddressAndR0}
use Rattle.ckd_sense.specs.declared.masks.SeekPermission.{SeekPermission}
use Rattle.ckd_sense.specs.declared.masks.SeekPermission.TheVariants.{PermitAllSeeks}
use Rattle.ckd_sense.specs.declared.sense_bytes.Sense.{Sense}
use Rattle.ckd_command.specs.declared.registers.Lap.{Lap}
use Rattle.ckd_command.specs.declared.registers.Lap.TheVariants.{First}
use Rattle.ckd_command.specs.declared.registers.Registers.{Registers}
use Rattle.ckd_command.specs.Drive.{State, is_written, unsaved}
use Rattle.ckd_drive.specs.Work.{DriveState, begun_program, has_track, is_idle, restored}
use Rattle.lone_drive_c.specs.Calls.{Allowed}
use Rattle.lone_drive_c.specs.Codes.{no_room, no_saved_state, no_track, other_version, program_runs, saved_length}
use Rattle.lone_drive_c.specs.Volume.{AllowsFile}

-- Saving.

-- what a program begins with: the track at its index, the first turn, and the two halves of the file mask 00
abbrev pub is_at_index : Position → Bool
is_at_index AtIndex = true
is_at_index _ = false

abbrev pub is_first : Lap → Bool
is_first First = true
is_first _ = false

abbrev pub permits_as_first : WritePermission → Bool
permits_as_first InhibitHomeAddressAndR0 = true
permits_as_first _ = false

abbrev pub permits_all_seeks : SeekPermission → Bool
permits_all_seeks PermitAllSeeks = true
permits_all_seeks _ = false

-- whether registers are those with which a program begins: these, no mask that was set, and no credit
abbrev pub are_first : Registers → Bool
are_first r =
    is_at_index r.position && (is_first r.lap && (permits_as_first r.file_mask.writes && (permits_all_seeks r.file_mask.seeks
    && (not r.mask_set && is_none r.credit))))

-- whether a drive remembers nothing of a program
abbrev pub is_between : State → Bool
is_between s = are_first s.registers && is_none (unsaved s)

-- The bytes: eight that say what they are, the version 1, the cylinder, the head, and sense bytes 0 and 1, of which the others are zero. All
-- numbers are big-endian.
abbrev pub saved_bytes : Registers → List ℕ
saved_bytes r =
    codes "DASDDRIV" ++ (1 ∷ r.cylinder / 256 ∷ r.cylinder % 256 ∷ r.head / 256 ∷ r.head % 256 ∷ r.sense.0 / 256 ∷ r.sense.0 % 256 ∷ [])

-- They are the first ones there, and their number is told; or there is no room for them.
abbrev pub Writes : (code : ℤ) → (before into : List ℕ) → (was written : ℕ) → Registers → Type 0
Writes code before into was written r = Allowed (nat_le 15 (length before)) no_room
    ((code ≡ pos 0) × (into ≡ saved_bytes r ++ drop 15 before) × (written ≡ 15)) code ((into ≡ before) × (written ≡ was))

-- A drive is saved where no command is open, no track waits to be saved, and nothing is remembered of a program.
abbrev pub TellsSaved : (code : ℤ) → (before into : List ℕ) → (was written : ℕ) → DriveState → Type 0
TellsSaved code before into was written d = let stays = (into ≡ before) × (written ≡ was) in
    AllowsFile d (Allowed (is_between d.state) program_runs (Writes code before into was written d.state.registers) code stays) code stays

-- Restoring.

abbrev pub cylinder_in : List ℕ → ℕ
cylinder_in bytes = big_number 2 (slice_range bytes 9 11)

abbrev pub head_in : List ℕ → ℕ
head_in bytes = big_number 2 (slice_range bytes 11 13)

abbrev pub sense_in : List ℕ → Sense
sense_in bytes = record { 0 = big_number 2 (slice_range bytes 13 15) }

-- The drive becomes what the bytes say, if its volume has the track: its volume stays.
abbrev pub PutsBack : (code : ℤ) → (bytes : List ℕ) → (old new : DriveState) → Type 0
PutsBack code bytes old new = Allowed (has_track old.state.volume.geometry (cylinder_in bytes) (head_in bytes)) no_track
    ((code ≡ pos 0) × (new ≡ restored (cylinder_in bytes) (head_in bytes) (sense_in bytes) old)) code (new ≡ old)

-- why bytes are no saved drive, if they are none: they do not begin as one, they are of another version, or they are too few or too many
abbrev pub why_none : List ℕ → Option ℤ
why_none bytes =
    if nat_lt (length bytes) 9 || not (bytes_eq (take 8 bytes) (codes "DASDDRIV")) then Some no_saved_state
    else (if not (slice_index bytes 8 == 1) then Some other_version
    else (if not (length bytes == 15) then Some saved_length else None))

abbrev pub RestoresUnless : Option ℤ → (code : ℤ) → (bytes : List ℕ) → (old new : DriveState) → Type 0
RestoresUnless (Some why) code bytes old new = (code ≡ why) × (new ≡ old)
RestoresUnless None code bytes old new = PutsBack code bytes old new

-- A drive is restored where no command is open, and no track waits to be saved.
abbrev pub TellsRestored : (code : ℤ) → (bytes : List ℕ) → (old new : DriveState) → Type 0
TellsRestored code bytes old new = AllowsFile old (RestoresUnless (why_none bytes) code bytes old new) code (new ≡ old)

-- Laws.

-- this drive, over the volume of another
abbrev pub over_volume_of : DriveState → DriveState → DriveState
over_volume_of e d = record d { image = e.image; state = record d.state { volume = e.state.volume } }

-- these bytes were written by a save of a drive
pub record AreSavedOf (d : DriveState) (bytes : List ℕ) : Type 0 where
  pub before : List ℕ
  pub into : List ℕ
  pub was : ℕ
  pub written : ℕ
  pub told : TellsSaved (pos 0) before into was written d
  pub are : bytes ≡ take written into

-- a drive can become another one: no command is open, no track waits to be saved, and its volume has the other one's track
pub record CanBecome (d e : DriveState) : Type 0 where
  pub idle : is_idle e.work ≡ true
  pub saved : is_written e.state ≡ false
  pub track : has_track e.state.volume.geometry d.state.registers.cylinder d.state.registers.head ≡ true

-- What a save wrote makes a drive that can become the saved one that one, over its own volume.
abbrev pub SavedIsRestored : Type 0
SavedIsRestored = (d e f : DriveState) (bytes : List ℕ) (code : ℤ) → AreSavedOf d bytes → CanBecome d e → TellsRestored code bytes e f
    → (code ≡ pos 0) × (f ≡ over_volume_of e d)

-- A drive remembers nothing of a program as the next one begins.
abbrev pub BeginsBetween : Type 0
BeginsBetween = (s : State) → is_between (begun_program s) ≡ true

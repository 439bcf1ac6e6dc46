-- What becomes of a command by its bytes as they pass, and how it closes by them.
use Rattle.std.specs.Prelude.{◌≡◌, ℕ, ◌+◌, ◌-◌, ◌^◌, ◌≤◌, ◌<◌, List, [], ◌++◌, Bool, true, false, ◌&&◌, ◌||◌, ◌==◌, nat_lt, Some, bytes_eq, length, take}
use Rattle.std.specs.Prelude.{if◌then◌else◌}
use Rattle.ckd_track.specs.declared.geometries.Geometry.{Geometry}
use Rattle.ckd_command.specs.declared.registers.Registers.{Registers}
use Rattle.ckd_command.specs.declared.registers.Mark.{Mark}
use Rattle.ckd_command.specs.declared.registers.Mark.TheVariants.{Written}
use Rattle.ckd_command.specs.declared.tables.Action.{Action}
use Rattle.ckd_command.specs.declared.tables.Action.TheVariants as action
use Rattle.ckd_command.specs.declared.begin.Opened.{Opened}
use Rattle.ckd_command.specs.Answers.{CommandEnd}
use Rattle.ckd_drive.specs.declared.transfer.Transfer.{Transfer}
use Rattle.ckd_drive.specs.declared.transfer.Transfer.TheVariants.{Sense, Field, Read, Search, Fill, Due, Filled}
use Rattle.ckd_drive.specs.declared.transfer.WrittenArea.TheVariants as written
use Rattle.ckd_drive.specs.declared.transfer.Whole.{Whole}
use Rattle.ckd_drive.specs.declared.transfer.Whole.TheVariants as whole
use Rattle.ckd_drive.specs.declared.transfer.OpenTransfer.{OpenTransfer}
use Rattle.ckd_command.specs.Tables.{action_of, comparison, is_giving}
use Rattle.ckd_position.specs.Comparisons.{accepts}
use Rattle.ckd_sense.specs.declared.sense_bytes.TheConstants.Sense as cause
use Rattle.ckd_command.specs.Commands.{Closing, IsAtTrack, area_ends, search_ends, whole_field, seek_cylinder_and_head, seek_head, set_file_mask, fails, ends}
use Rattle.ckd_command.specs.Commands.{at_end, ending_status, command_end}
use Rattle.ckd_slot.specs.Cache.{CacheState, IsVolume}
use Rattle.ckd_drive.specs.Invariant.{field_size, remaining, closes_by, seen_by, HalfDone, own_track, action_now, seen_with, Goes, is_filled_by}

-- More bytes.

-- a command once so many more bytes passed, and the rest have this place
abbrev pub next_progress : OpenTransfer → (more : ℕ) → Transfer → OpenTransfer
next_progress p n place = record { moved = p.moved + n; left = p.left - n; place = place }

-- a command of this action that has just found the place of its bytes: none passed, and all that are known of may
abbrev pub first_progress : Action → Transfer → OpenTransfer
first_progress a place = record { moved = 0; left = remaining a place 0; place = place }

-- so many bytes may be given that have this place
abbrev pub MayGive : Transfer → ℕ → Type 0
MayGive (Read w no_data) n = (n ≤ w.len) × (w.start + w.len < 2 ^ 32)
MayGive _ n = Unit {0}

-- the place of those behind them
abbrev pub given_on : Transfer → ℕ → Transfer
given_on (Read w no_data) n = Read (record { start = w.start + n; len = w.len - n }) no_data
given_on p n = p

-- a place that is no search's
abbrev pub IsNoSearch : Transfer → Type 0
IsNoSearch (Search w so_far) = ⊥
IsNoSearch _ = Unit {0}

-- How a command closes, by its place.

-- a field that did not change the track
abbrev pub field_ends : Action → Geometry → Opened → Registers → List ℕ → Closing
field_ends action.SeekCylinderAndHead g o r b = whole_field r b 6 (seek_cylinder_and_head g r b)
field_ends action.SeekHead g o r b = whole_field r b 6 (seek_head g r b)
field_ends action.SetFileMask g o r b = set_file_mask r b
field_ends action.WriteHomeAddress g o r b = whole_field (at_end o r) b 5 (fails (at_end o r) cause.WRONG_HOME_ADDRESS)
field_ends action.Format g o r b = whole_field r b 8 (fails r cause.RECORD_DOES_NOT_FIT)
field_ends _ g o r b = ends r ending_status

-- how a command closes after so many bytes, by where the rest stand
abbrev pub command_end_at : Geometry → Registers → Opened → (moved : ℕ) → Transfer → CommandEnd
command_end_at g r o moved (Field f) = command_end (field_ends (action_of o.command) g o r (take moved f))
command_end_at g r o moved (Search w so_far) = command_end (search_ends o r (nat_lt 0 moved
    && accepts (comparison o.command) so_far) (w.len == 0))
command_end_at g r o moved (Sense b) = command_end (area_ends o r false)
command_end_at g r o moved (Read w no_data) = command_end (area_ends o r no_data)
command_end_at g r o moved (Fill w no_data) = command_end (area_ends o r no_data)
command_end_at g r o moved (Filled w what) = closes_by r o what
-- a record that is due is made before
command_end_at g r o moved (Due w number count) = command_end (area_ends o r false)

-- no more bytes passed than the field has
abbrev pub MovedInField : Action → (moved : ℕ) → Transfer → Type 0
MovedInField a moved (Field f) = moved ≤ field_size a
MovedInField a moved _ = Unit {0}

-- the mark of a track that a command leaves whose arm stays
abbrev pub mark_left : Transfer → Mark → Mark
mark_left (Filled w what) m = Written
mark_left _ m = m

-- What a field is, once it came whole.
abbrev pub whole_of : Action → (own : List ℕ) → (moved : ℕ) → (field : List ℕ) → Whole
whole_of action.WriteHomeAddress own moved f = if moved == 5 && bytes_eq (take 5 f) own
    then whole.HomeAddress (take 5 f) else whole.No
whole_of action.Format own moved f = if moved == 8 then whole.Count f else whole.No
whole_of _ own moved f = whole.No

-- Bytes that are taken.

-- it holds what a drive holds
pub record Works (h : HalfDone) : Type 0 where
  pub volume : IsVolume h.cache
  pub arm : IsAtTrack h.cache.image.geometry h.registers
  pub anchored : h.cache.changed ≡ true → h.cache.held ≡ Some (own_track h)
  pub goes : Goes h

-- these bytes are taken by the drive, and may be
pub record MayTake (h : HalfDone) (more : List ℕ) : Type 0 where
  pub works : Works h
  pub room : length more ≤ h.progress.left
  pub taking : is_giving (action_now h) ≡ false

-- the command once these bytes were taken: the rest have this place
abbrev pub with_taken : HalfDone → (more : List ℕ) → CacheState → (before : List ℕ) → Transfer → HalfDone
with_taken h more c before place = record h {
  cache = c;
  before = before;
  passed = h.passed ++ more;
  progress = next_progress h.progress (length more) place;
}

-- the command half done takes these bytes, and is then over this cache, with this slot before it wrote and this place of the rest
pub record Absorbs (h : HalfDone) (more : List ℕ) (c : CacheState) (before : List ℕ) (place : Transfer) : Type 0 where
  pub works : Works (with_taken h more c before place)
  pub image : c.image ≡ h.cache.image
  pub seen_same : seen_by c.slots (own_track h) before place ≡ seen_with h h.before h.progress.place
  pub changed : c.changed ≡ (h.cache.changed || is_filled_by place)
  pub still : is_filled_by h.progress.place ≡ true → is_filled_by place ≡ true
  pub small : length h.passed + length more < 2 ^ 32

-- A record that is due is made as the command closes.

-- the command once it is over this cache, with this slot before it wrote and this place of the rest
abbrev pub with_place : HalfDone → CacheState → (before : List ℕ) → Transfer → HalfDone
with_place h c before place = record h { cache = c; before = before; progress = record h.progress { place = place } }

-- whether a new record is due
abbrev pub is_due : Transfer → Bool
is_due (Due w number count) = true
is_due _ = false

-- the place of the bytes of a record that was due, once it is made with so many of them
abbrev pub made_by : Transfer → ℕ → Transfer
made_by (Due w number count) n = Filled (record { start = w.start + n; len = w.len - n }) (written.Record number)
made_by p n = p

-- where a record was due it has been made with zeros, and where none was all is as it was
abbrev pub Finishes : HalfDone → Transfer → CacheState → (before : List ℕ) → Transfer → Type 0
Finishes h (Due w number count) c before place = Absorbs h [] c before place × (is_due place ≡ false)
Finishes h was c before place = (c ≡ h.cache) × (before ≡ h.before) × (place ≡ was)

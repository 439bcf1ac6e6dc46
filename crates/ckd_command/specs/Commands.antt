-- One command, as a change of what the drive remembers and of the track under the arm
-- (component descriptions of the 2841 and the 2314, the sections of the commands).
use Rattle.std.specs.Prelude.{ℕ, ◌<◌, ◌+◌, ◌*◌, ◌/◌, ◌%◌, List, [], ◌∷◌, Bool, true, false, not, ◌&&◌, ◌||◌, ◌==◌, Option, Some, None, is_none, Ok, length}
use Rattle.std.specs.Prelude.{take, slice_range, nat_lt, if◌then◌else◌, bytes_eq}
use Rattle.ckd_track.specs.Track.{Record, Track, key_length, data_length, body_length, track_or_none}
use Rattle.ckd_track.specs.Changes.{bare_track}
use Rattle.ckd_track.specs.Model.{heads_of}
use Rattle.ckd_track.specs.Charges.{has_room}
use Rattle.ckd_track.specs.declared.geometries.Geometry.{Geometry}
use Rattle.ckd_position.specs.Areas.{next_of_kind}
use Rattle.ckd_position.specs.declared.areas.Next.{Next as NextArea}
use Rattle.ckd_position.specs.declared.areas.Next.TheVariants as next
use Rattle.ckd_position.specs.Comparisons.{is_satisfied}
use Rattle.ckd_position.specs.declared.areas.Area.{Area}
use Rattle.ckd_position.specs.declared.areas.Area.TheVariants.{Of}
use Rattle.ckd_position.specs.declared.areas.RecordPart.TheVariants.{Data}
use Rattle.ckd_position.specs.declared.areas.Position.{Position}
use Rattle.ckd_position.specs.declared.areas.Position.TheVariants.{AtIndex, At}
use Rattle.ckd_sense.specs.Commands.{decoded}
use Rattle.ckd_sense.specs.Masks.{mask_of_byte, permit_of, allows_head_change}
use Rattle.ckd_sense.specs.SenseBytes.{joined, sense_bytes}
use Rattle.ckd_sense.specs.declared.commands.Command.{Command}
use Rattle.ckd_sense.specs.declared.commands.Command.TheVariants as command
use Rattle.ckd_sense.specs.declared.commands.CommandCode.{CommandCode}
use Rattle.ckd_sense.specs.declared.masks.Permit.{Permit}
use Rattle.ckd_sense.specs.declared.masks.Permit.TheVariants.{Yes, NoWrite, NoSeek}
use Rattle.ckd_sense.specs.declared.sense_bytes.Sense.{Sense}
use Rattle.ckd_sense.specs.declared.sense_bytes.TheConstants.Sense as cause
use Rattle.ckd_command.specs.declared.registers.Registers.{Registers}
use Rattle.ckd_command.specs.declared.registers.Credit.TheVariants.{WroteHomeAddress, WroteRecord}
use Rattle.ckd_command.specs.declared.registers.Lap.{Lap}
use Rattle.ckd_command.specs.declared.registers.Lap.TheVariants.{First, Second}
use Rattle.ckd_command.specs.declared.tables.Aim.{Aim}
use Rattle.ckd_command.specs.declared.tables.Aim.TheVariants.{Next, Credited}
use Rattle.ckd_command.specs.declared.begin.Opened.{Opened}
use Rattle.ckd_command.specs.Answers.{Beginning, Rejected, Immediate, Started, ToCylinderZero}
use Rattle.ckd_command.specs.Answers.{Sight, Found, IndexPassed, NextHead, Missed, CommandEnd, moved_to}
use Rattle.ckd_command.specs.declared.tables.Action.{Action}
use Rattle.ckd_command.specs.declared.tables.Action.TheVariants as action
use Rattle.ckd_position.specs.declared.extents.AreaBytes.{AreaBytes}
use Rattle.ckd_position.specs.Contents.{Sighted, is_readable, bytes_of, kept, has_no_data, replaced, with_record_changed, formatted}
use Rattle.ckd_command.specs.Tables.{aim, credited, credit_of_search, action_of, extent_of, is_search, comparison, area_left, ends_with_data, needs_readable}

-- a big-endian number
abbrev pub number : List ℕ → ℕ
number [] = 0
number (high ∷ []) = high
number (high ∷ low ∷ _) = 256 * high + low

-- Unit status at a command's end ('Status Byte').

-- channel end and device end
abbrev pub ending_status : ℕ
ending_status = 0x0C

-- channel end, device end and unit check
abbrev pub unit_check_status : ℕ
unit_check_status = 0x0E

-- channel end, device end and unit exception
abbrev pub unit_exception_status : ℕ
unit_exception_status = 0x0D

-- channel end, device end and status modifier: a search is satisfied
abbrev pub satisfied_status : ℕ
satisfied_status = 0x4C

-- channel end alone: the arm still moves
abbrev pub in_motion_status : ℕ
in_motion_status = 0x08

-- Registers.

-- the arm stands at a track of the volume
pub record IsAtTrack (g : Geometry) (r : Registers) : Type 0 where
  pub cylinder : r.cylinder < g.cylinders
  pub head : r.head < heads_of g.model

-- where a program begins: the track at its index, file mask 00 and none set, no credit, the first turn
abbrev pub program_start : Registers → Registers
program_start r = record r {
  position = AtIndex;
  file_mask = mask_of_byte 0x00;
  mask_set = false;
  credit = None;
  lap = First;
}

-- the sense with this cause of unit check beside what it has
abbrev pub with_cause : Registers → Sense → Registers
with_cause r cause = record r { sense = joined r.sense cause }

-- the track at its index, on the first turn for what begins next
abbrev pub at_index : Registers → Registers
at_index r = record r { position = AtIndex; lap = First }

-- Begin.

-- the sense that a command begins with: Sense alone keeps it, since it gives it
abbrev pub sense_after_begin : Command → Sense → Sense
sense_after_begin command.Sense sense = sense
sense_after_begin _ sense = cause.ZERO

-- every command takes the credit away; all but Sense make the sense zero; all but a search begin on the first turn
abbrev pub cleared : Command → Registers → Registers
cleared c r = record r {
  sense = sense_after_begin c r.sense;
  credit = None;
  lap = if is_search (action_of c) then r.lap else First;
}

-- whether a command works on the area that a credit names
abbrev pub is_credited : Aim → Bool
is_credited Credited = true
is_credited _ = false

-- a second Set File Mask, or a write whose credit is not there
abbrev pub is_out_of_sequence : Command → Registers → Bool
is_out_of_sequence command.SetFileMask r = r.mask_set
is_out_of_sequence c r = is_credited (aim c) && is_none (credited c r.credit)

-- why a command is not begun, by the first cause that holds: the file mask, then the sequence
abbrev pub refusal_under : Permit → Command → Registers → Option Sense
refusal_under NoWrite c r = Some cause.WRITE_NOT_ALLOWED
refusal_under NoSeek c r = Some cause.SEEK_NOT_ALLOWED
refusal_under Yes c r = if is_out_of_sequence c r then Some cause.OUT_OF_SEQUENCE else None

-- why a command is not begun, if it is not, under the file mask that is set
abbrev pub refusal : Command → Registers → Option Sense
refusal c r = refusal_under (permit_of r.file_mask c) c r

-- where a command that is allowed begins: No-Operation is over at once, Recalibrate and Read IPL send the arm to
-- cylinder 0, head 0, and the others work
abbrev pub started : Command → Registers → Opened → Beginning
started command.NoOperation r o = Immediate r
started command.Recalibrate r o = ToCylinderZero r None
started command.ReadIpl r o = ToCylinderZero r (Some o)
started _ r o = Started r o

-- a command that the file mask or the sequence refuses is rejected for that cause; another begins
abbrev pub begin_allowed : CommandCode → Registers → Option Sense → Beginning
begin_allowed c r (Some cause) = Rejected (with_cause (cleared c.command r) cause)
begin_allowed c r None =
    started c.command (cleared c.command r)
    (record { command = c.command; multi_track = c.multi_track; area = credited c.command r.credit })

-- a code that is no command's is rejected as invalid; it takes away what every command does
abbrev pub begin_decoded : Option CommandCode → Registers → Beginning
begin_decoded None r = Rejected (with_cause (cleared command.NoOperation r) cause.INVALID_COMMAND)
begin_decoded (Some c) r = begin_allowed c r (refusal c.command r)

-- what a command code leads to
unfoldable pub beginning : (code : ℕ) → Registers → Beginning
beginning code r = begin_decoded (decoded code) r

-- One look at the track under the arm.

-- an index that passes without the multi-track bit: the second one of a command, or of a chain of searches, ends it
abbrev pub turned : Registers → Lap → Sight
turned r First = IndexPassed (record r { position = AtIndex; lap = Second })
turned r Second = Missed (with_cause (at_index r) cause.NO_RECORD_FOUND)

-- an index that passes with the multi-track bit: the next head of the cylinder, where the file mask allows one and
-- there is one
abbrev pub next_head : Geometry → Registers → Sight
next_head g r =
    if not (allows_head_change r.file_mask) then Missed (with_cause (at_index r) cause.HEAD_CHANGE_NOT_ALLOWED)
    else (if r.head + 1 == heads_of g.model then Missed (with_cause (at_index r) cause.END_OF_CYLINDER)
    else NextHead (moved_to r r.cylinder (r.head + 1)))

-- what a look comes to, by the next area of the command's kind
abbrev pub sight_of : Geometry → Opened → Registers → NextArea → Sight
sight_of g o r (next.Found a) = Found (record o { area = Some a })
sight_of g o r next.IndexPassed = if o.multi_track then next_head g r else turned r r.lap

-- a command with a kind of area looks for the next of that kind, on a track that can be read where it needs one;
-- every other command has found its area, or wants none
abbrev pub look_for : Geometry → Sighted → Opened → Registers → Aim → Sight
look_for g t o r (Next kind) =
    if needs_readable (action_of o.command) && not (is_readable t) then Missed (with_cause r cause.UNREADABLE_TRACK)
    else sight_of g o r (next_of_kind (track_or_none t) r.position kind)
look_for g t o r _ = Found o

-- what one look at the track under the arm comes to
unfoldable pub sight : Geometry → Sighted → Opened → Registers → Sight
sight g t o r = look_for g t o r (aim o.command)

-- The bytes that pass.

-- these bytes of an area; none where there is no area
abbrev pub bytes_at : AreaBytes → Sighted → Option Area → List ℕ
bytes_at e t (Some a) = bytes_of e t a
bytes_at e t None = []

-- what a command of this action gives, compares or replaces: Sense gives the sense bytes
abbrev pub bytes_for : Action → Sighted → Opened → Registers → List ℕ
bytes_for action.GiveSense t o r = sense_bytes r.sense
bytes_for _ t o r = bytes_at (extent_of o.command) t o.area

-- what a command gives, compares or replaces
unfoldable pub area_bytes : Sighted → Opened → Registers → List ℕ
area_bytes t o r = bytes_for (action_of o.command) t o r

-- whether the record of these count bytes fits the track behind the records that it keeps
abbrev pub new_record_fits : Geometry → Sighted → Opened → List ℕ → Bool
new_record_fits g t o b = has_room g.model (kept t o.area) (key_length b) (data_length b)

-- eight count bytes; then the key and the data whose lengths they give, where the record fits
abbrev pub format_length : Geometry → Sighted → Opened → List ℕ → ℕ
format_length g t o b =
    if nat_lt (length b) 8 || not (new_record_fits g t o b) then 8 else 8 + body_length b

-- the bytes in all of a command of this action: a field's size, a format's record, or the length of the area
abbrev pub length_for : Action → Geometry → Sighted → Opened → Registers → List ℕ → ℕ
length_for action.SeekCylinderAndHead g t o r b = 6
length_for action.SeekHead g t o r b = 6
length_for action.SetFileMask g t o r b = 1
length_for action.WriteHomeAddress g t o r b = 5
length_for action.Format g t o r b = format_length g t o b
length_for _ g t o r b = length (area_bytes t o r)

-- how many bytes the command has or wants in all, once the bytes b have passed
unfoldable pub length_after : Geometry → Sighted → Opened → Registers → List ℕ → ℕ
length_after g t o r b = length_for (action_of o.command) g t o r b

-- Close.

-- how a command closes: what the track has become, if the command wrote it; what the drive remembers; the unit status;
-- whether the arm still moves; and whether the arm or the head leaves the track, which is saved first
pub record Closing : Type 0 where
  pub written : Option Track
  pub registers : Registers
  pub unit : ℕ
  pub motion : Bool
  pub moves_off : Bool

-- a command that ends with this unit status, and writes and moves nothing
abbrev pub ends : Registers → (unit : ℕ) → Closing
ends r unit = record { written = None; registers = r; unit = unit; motion = false; moves_off = false }

-- a command that ends with unit check for this cause
abbrev pub fails : Registers → Sense → Closing
fails r cause = ends (with_cause r cause) unit_check_status

-- the same, where the command has made this of the track
abbrev pub writes : Track → Closing → Closing
writes t c = record c { written = Some t }

-- the position at a command's end: the area that it worked on, or where it was
abbrev pub position_left : AreaBytes → Option Area → Position → Position
position_left e None p = p
position_left e (Some a) p = At (area_left e a)

-- the registers at the end of a command that passed its area
abbrev pub at_end : Opened → Registers → Registers
at_end o r = record r { position = position_left (extent_of o.command) o.area r.position }

-- a field that must come whole: no byte changes nothing, too few are a command reject
abbrev pub whole_field : Registers → List ℕ → (size : ℕ) → Closing → Closing
whole_field r b size change =
    if length b == 0 then ends r ending_status
    else (if nat_lt (length b) size then fails r cause.FIELD_CUT_SHORT else change)

-- Seek and Seek Cylinder take the address BB, CC, HH; Seek Head looks at HH alone
abbrev pub seek_cylinder_and_head : Geometry → Registers → List ℕ → Closing
seek_cylinder_and_head g r b =
    let cylinder = number (slice_range b 2 4) in
    let head = number (slice_range b 4 6) in
    if number (take 2 b) == 0 && nat_lt cylinder g.cylinders && nat_lt head (heads_of g.model)
    then record {
      written = None;
      registers = moved_to r cylinder head;
      unit = in_motion_status;
      motion = true;
      moves_off = true;
    }
    else fails r cause.SEEK_ADDRESS_OUTSIDE

-- the head of the address, where the drive has it: the arm stays, and the head leaves the track
abbrev pub seek_head : Geometry → Registers → List ℕ → Closing
seek_head g r b =
    let head = number (slice_range b 4 6) in
    if nat_lt head (heads_of g.model)
    then record (ends (moved_to r r.cylinder head) ending_status) { moves_off = true }
    else fails r cause.SEEK_ADDRESS_OUTSIDE

-- the first byte is the new mask; without a byte the mask stays
abbrev pub set_file_mask : Registers → List ℕ → Closing
set_file_mask r [] = ends r ending_status
set_file_mask r (byte ∷ _) = ends (record r { file_mask = mask_of_byte byte; mask_set = true }) ending_status

-- a search is satisfied by one byte or more; one that found its whole area equal leaves a credit
abbrev pub search_ends : Opened → Registers → (satisfied whole : Bool) → Closing
search_ends o r true whole =
    ends (record (at_end o r) { credit = if whole then credit_of_search o.command o.area else None }) satisfied_status
search_ends o r false whole = ends (at_end o r) ending_status

-- a search of the bytes that came against the first bytes of the area
abbrev pub search : Sighted → Opened → Registers → List ℕ → Closing
search t o r b =
    let area = area_bytes t o r in
    search_ends o r (nat_lt 0 (length b) && is_satisfied (comparison o.command) area b) (length b == length area)

-- a command that passed its area: a record without data is reported by unit exception
abbrev pub area_ends : Opened → Registers → (no_data : Bool) → Closing
area_ends o r no_data =
    ends (at_end o r) (if ends_with_data (extent_of o.command) && no_data then unit_exception_status else ending_status)

-- the same, by what the track has
abbrev pub end_of_area : Sighted → Opened → Registers → Closing
end_of_area t o r = area_ends o r (has_no_data t o.area)

-- an update of a record's areas: the bytes, and zeros behind them; without a byte nothing changes
abbrev pub updated : Sighted → Option Area → (Record → Record) → Closing → Closing
updated (Ok t) (Some a) change c = writes (with_record_changed change a t) c
updated _ _ change c = c

-- an update by the bytes that came: without one it writes nothing
abbrev pub update : (Record → Record) → Sighted → Opened → Registers → List ℕ → Closing
update change t o r b =
    if length b == 0 then end_of_area t o r else updated t o.area change (end_of_area t o r)

-- a formatting write leaves the new record's number as its credit, and the position behind its data
abbrev pub format_ends : Registers → (new : ℕ) → Closing
format_ends r i = ends (record r { position = At (Of Data i); credit = Some (WroteRecord i) }) ending_status

-- a formatting write: the kept records, the new one with zeros behind the bytes that came, and nothing behind it
abbrev pub format : Geometry → Sighted → Opened → Registers → List ℕ → Closing
format g t o r b =
    if new_record_fits g t o b
    then writes (formatted t o.area b) (format_ends r (length (kept t o.area)))
    else fails r cause.RECORD_DOES_NOT_FIT

-- the home address of the track under the arm: flag 0, then cylinder and head in two bytes each
abbrev pub own_home_address : Registers → List ℕ
own_home_address r = 0 ∷ r.cylinder / 256 ∷ r.cylinder % 256 ∷ r.head / 256 ∷ r.head % 256 ∷ []

-- a Write Home Address leaves its credit
abbrev pub home_address_ends : Opened → Registers → Closing
home_address_ends o r = ends (record (at_end o r) { credit = Some WroteHomeAddress }) ending_status

-- Write Home Address takes flag 0 and the track's own address, and leaves no record
abbrev pub write_home_address : Opened → Registers → List ℕ → Closing
write_home_address o r b =
    if bytes_eq b (own_home_address r)
    then writes (bare_track b) (home_address_ends o r)
    else fails (at_end o r) cause.WRONG_HOME_ADDRESS

-- how a command of this action closes, by the bytes that passed
abbrev pub close_by : Action → Geometry → Sighted → Opened → Registers → List ℕ → Closing
close_by action.SeekCylinderAndHead g t o r b = whole_field r b 6 (seek_cylinder_and_head g r b)
close_by action.SeekHead g t o r b = whole_field r b 6 (seek_head g r b)
close_by action.SetFileMask g t o r b = set_file_mask r b
close_by action.Search g t o r b = search t o r b
close_by action.WriteHomeAddress g t o r b = whole_field (at_end o r) b 5 (write_home_address o r b)
close_by action.Format g t o r b = whole_field r b 8 (format g t o r b)
close_by action.Update g t o r b = update (replaced (extent_of o.command) b) t o r b
close_by _ g t o r b = end_of_area t o r

-- the same but for the track
abbrev pub command_end : Closing → CommandEnd
command_end c = record {
  registers = c.registers;
  ending = record { unit = record { 0 = c.unit }; motion = c.motion };
  moves_off = c.moves_off;
}

-- the command where exactly the bytes b have passed in all
unfoldable pub closing : Geometry → Sighted → Opened → Registers → List ℕ → Closing
closing g t o r b = close_by (action_of o.command) g t o r b

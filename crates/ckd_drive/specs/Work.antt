-- A drive between two calls, as those see it who call it.
use Rattle.std.specs.Prelude.{◌≡◌, ◌⊎◌, ℕ, zero, suc, ◌+◌, ◌-◌, List, [], ◌++◌, Bool, true, false, not, ◌&&◌, ◌==◌, Option, Some, None, length, slice_index_or}
use Rattle.std.specs.Prelude.{nat_lt, if◌then◌else◌}
use Rattle.ckd_track.specs.Model.{heads_of}
use Rattle.ckd_track.specs.declared.geometries.Geometry.{Geometry}
use Rattle.ckd_image.specs.Image.{ImageState}
use Rattle.ckd_command.specs.declared.registers.Mark.{Mark}
use Rattle.ckd_command.specs.declared.registers.Mark.TheVariants as mark
use Rattle.ckd_command.specs.declared.tables.Action.{Action}
use Rattle.ckd_command.specs.declared.tables.Action.TheVariants as action
use Rattle.ckd_command.specs.declared.tables.Aim.{Aim}
use Rattle.ckd_command.specs.declared.tables.Aim.TheVariants.{Next}
use Rattle.ckd_command.specs.Answers.{Beginning, ToCylinderZero, Sight, NextHead}
use Rattle.ckd_command.specs.declared.close.DriveEnding.{DriveEnding}
use Rattle.ckd_command.specs.declared.begin.Opened.{Opened}
use Rattle.ckd_command.specs.Tables.{aim, action_of, is_giving, is_search}
use Rattle.ckd_sense.specs.declared.commands.Command.{Command}
use Rattle.ckd_sense.specs.declared.sense_bytes.Sense.{Sense}
use Rattle.ckd_sense.specs.declared.commands.Command.TheVariants.{ReadData, ReadCountKeyAndData}
use Rattle.ckd_position.specs.declared.areas.Area.{Area}
use Rattle.ckd_position.specs.declared.areas.Position.TheVariants.{At}
use Rattle.ckd_command.specs.Commands.{ending_status, unit_exception_status, in_motion_status, unit_check_status, beginning, sight, closing}
use Rattle.ckd_command.specs.Drive.{State, with_registers, Fault, LoadFails, SaveFails, Open, AfterBegin, Rejected, Immediate, Started, AfterLook, Ready}
use Rattle.ckd_command.specs.Drive.{Passed, Failed, Closed, begin, look, given, length_of, close, saving, left_by, begin_program, drive_of, first_drive}
use Rattle.ckd_command.specs.Drive.{number_under, track_under, is_written, tells_equipment_check, no_sense}
use Rattle.ckd_drive.specs.declared.answers.Begun.{Begun}
use Rattle.ckd_drive.specs.declared.answers.Begun.TheVariants as begun
use Rattle.ckd_drive.specs.declared.answers.Look.{Look}
use Rattle.ckd_drive.specs.declared.answers.Look.TheVariants as looked
use Rattle.ckd_drive.specs.declared.answers.WholeRead.{WholeRead}
use Rattle.ckd_drive.specs.declared.answers.Phase.{Phase}
use Rattle.ckd_drive.specs.declared.answers.Phase.TheVariants as phase

-- How far a drive is with a command: there is none; one is over, and waits for its end; one looks for its area; or one has
-- found it, and these bytes have passed, and so many more may by what the last look allowed.
pub data Work : Type 0 where
  Idle : Work
  Over : (ending : DriveEnding) → Work
  Looking : (opened : Opened) → Work
  Passing : (opened : Opened) (passed : List ℕ) (left : ℕ) → Work

-- a drive as those see it who call: its image, its state by the definitions of commands, and the command at hand
pub record DriveState : Type 0 where
  pub image : ImageState
  pub state : State
  pub work : Work

-- the command that was opened, on this drive
abbrev pub open_at : DriveState → Opened → Open
open_at d o = record { opened = o; state = d.state }

-- What may be called.

-- whether there is no command
abbrev pub is_idle : Work → Bool
is_idle Idle = true
is_idle w = false

-- whether a command looks for its area or has found it
abbrev pub is_working : Work → Bool
is_working (Looking o) = true
is_working (Passing o b left) = true
is_working w = false

-- whether a command may be ended: it is over, or its area is found
abbrev pub may_end : Work → Bool
may_end (Over e) = true
may_end (Passing o b left) = true
may_end w = false

-- whether a command has found its area
abbrev pub passes_now : Work → Bool
passes_now (Passing o b left) = true
passes_now w = false

-- the bytes that passed in the command at hand
abbrev pub passed_of : Work → List ℕ
passed_of (Passing o b left) = b
passed_of w = []

-- the command that works, if one does
abbrev pub command_of : Work → Option Opened
command_of (Looking o) = Some o
command_of (Passing o b left) = Some o
command_of w = None

-- how many more bytes may pass, by what the last look allowed
abbrev pub left_of : Work → ℕ
left_of (Passing o b left) = left
left_of w = 0

-- whether the drive gives bytes now
abbrev pub gives_now : Work → Bool
gives_now (Passing o b left) = is_giving (action_of o.command)
gives_now w = false

-- whether the drive takes bytes now
abbrev pub takes_now : Work → Bool
takes_now (Passing o b left) = not (is_giving (action_of o.command))
takes_now w = false

-- How far a command is, as it is reported to those who call.

-- a command that has found its area gives bytes or takes them; so many passed, and so many more may
abbrev pub phase_of_transfer : (gives : Bool) (passed left : ℕ) → Phase
phase_of_transfer gives passed left = if gives then phase.Gives passed left else phase.Takes passed left

-- how far a command is, as reported
abbrev pub phase_of : Work → Phase
phase_of Idle = phase.Idle
phase_of (Over e) = phase.Over
phase_of (Looking o) = phase.Looking
phase_of (Passing o b left) = phase_of_transfer (is_giving (action_of o.command)) (length b) left

-- what may be called while a command is so far: begin, begin_program, clear_sense and settle; end and settle; look and
-- settle; give of so many bytes, look and end; take of so many, look and end; and settle where none has passed
abbrev pub Allows : Phase → Work → Type 0
Allows phase.Idle w = (is_idle w ≡ true) × (passed_of w ≡ [])
Allows phase.Over w = (may_end w ≡ true) × (passed_of w ≡ [])
Allows phase.Looking w = (is_working w ≡ true) × (passed_of w ≡ [])
Allows (phase.Gives passed left) w =
    (is_working w ≡ true) × (may_end w ≡ true) × (gives_now w ≡ true) × (length (passed_of w) ≡ passed)
    × (left_of w ≡ left) × (passed ≡ 0 → passed_of w ≡ [])
Allows (phase.Takes passed left) w =
    (is_working w ≡ true) × (may_end w ≡ true) × (takes_now w ≡ true) × (length (passed_of w) ≡ passed)
    × (left_of w ≡ left) × (passed ≡ 0 → passed_of w ≡ [])

-- Begin.

-- the end of a command that is over as it begins; while the arm moves the device end is still to come
abbrev pub immediate_ending : (motion : Bool) → DriveEnding
immediate_ending motion = record {
  unit = record { 0 = if motion then in_motion_status else ending_status };
  motion = motion;
}

-- the drive once its command came to this as it began
abbrev pub after_begun : AfterBegin → DriveState → DriveState
after_begun (Rejected s) d = record d { state = s }
after_begun (Immediate s motion) d = record d { state = s; work = Over (immediate_ending motion) }
after_begun (Started o) d = record d { state = o.state; work = Looking o.opened }

-- the drive once a command code was begun
abbrev pub after_begin : Option Fault → (code : ℕ) → DriveState → DriveState
after_begin f code d = after_begun (begin f code d.state) d

-- what a begin answers
abbrev pub answer_of_begin : AfterBegin → Begun
answer_of_begin (Rejected s) = begun.Rejected
answer_of_begin (Immediate s motion) = begun.Immediate
answer_of_begin (Started o) = begun.Started

-- Look.

-- a command that ended in a look, whose sense bytes say why
abbrev pub failed_ending : DriveEnding
failed_ending = record { unit = record { 0 = unit_check_status }; motion = false }

-- the drive once its look came to this
abbrev pub after_sight : AfterLook → DriveState → DriveState
after_sight (Ready o) d = record d { state = o.state; work = Passing o.opened [] (length_of o []) }
after_sight (Passed o) d = record d { state = o.state; work = Looking o.opened }
after_sight (Failed s) d = record d { state = s; work = Over failed_ending }

-- a command that looks for its area looks at the track under the arm; one that has found it says how many bytes more may
-- pass, and looks at no track
abbrev pub after_look_of : Option Fault → DriveState → Work → DriveState
after_look_of f d (Looking o) = after_sight (look f (open_at d o)) d
after_look_of f d (Passing o b left) = record d { work = Passing o b (length_of (open_at d o) b - length b) }
after_look_of f d w = d

-- the drive after one look
abbrev pub after_look : Option Fault → DriveState → DriveState
after_look f d = after_look_of f d d.work

-- what a look answers, by how far the command then is
abbrev pub answer_of_look : Work → Look
answer_of_look (Passing o b left) = looked.Ready left
answer_of_look (Looking o) = looked.Passed
answer_of_look w = looked.Failed

-- Bytes.

-- a command once these bytes passed too
abbrev pub moved_on : List ℕ → Work → Work
moved_on more (Passing o b left) = Passing o (b ++ more) (left - length more)
moved_on more w = w

-- all the bytes that the command at hand gives
abbrev pub given_now : DriveState → Work → List ℕ
given_now d (Passing o b left) = given (open_at d o)
given_now d w = []

-- End.

-- how the command at hand ends: by the bytes that passed, or as it was over before
abbrev pub closed_of : Option Fault → DriveState → Work → Closed
closed_of f d (Passing o b left) = close f (open_at d o) b
closed_of f d (Over e) = record { state = d.state; unit = e.unit; motion = e.motion }
closed_of f d w = record { state = d.state; unit = record { 0 = ending_status }; motion = false }

-- the drive once its command ended
abbrev pub after_end : Option Fault → DriveState → DriveState
after_end f d = record d { state = (closed_of f d d.work).state; work = Idle }

-- the unit status of an end, and whether the arm still moves
abbrev pub ending_of : Closed → DriveEnding
ending_of c = record { unit = c.unit; motion = c.motion }

-- Settle, and the next program.

-- a mark once a written track was saved
abbrev pub settled_mark : Mark → Mark
settled_mark mark.Written = mark.Saved
settled_mark m = m

-- a written track is saved, or lost where that fails
abbrev pub settled_state : Option Fault → State → State
settled_state f s = saving (left_by f s.mark) s (λ lost. lost) (record s { mark = settled_mark s.mark })

-- the drive once a program ended: no command, and nothing is left to be saved
abbrev pub after_settle : Option Fault → DriveState → DriveState
after_settle f d = record d { state = settled_state f d.state; work = Idle }

-- a track that is written stays to be saved
abbrev pub owed_mark : Mark → Mark
owed_mark mark.Written = mark.Written
owed_mark m = mark.Saved

-- a drive as the next program begins, with what is still to be saved
abbrev pub begun_program : State → State
begun_program s = record (begin_program (drive_of s)) { mark = owed_mark s.mark }

-- Calls of the store.

-- whether a begin sends the arm to cylinder 0, head 0: a written track is left, and saved first
abbrev pub goes_to_cylinder_zero : Beginning → Bool
goes_to_cylinder_zero (ToCylinderZero r o) = true
goes_to_cylinder_zero b = false

-- whether a begin saves
abbrev pub begin_saves : (code : ℕ) → DriveState → Bool
begin_saves code d = is_written d.state && goes_to_cylinder_zero (beginning code d.state.registers)

-- whether a look goes on at the next head: a written track is left, and saved first
abbrev pub goes_to_next_head : Sight → Bool
goes_to_next_head (NextHead r) = true
goes_to_next_head s = false

-- whether a look of a command this far saves
abbrev pub look_saves_of : DriveState → Work → Bool
look_saves_of d (Looking o) =
    is_written d.state && goes_to_next_head (sight d.state.volume.geometry (track_under d.state) o d.state.registers)
look_saves_of d w = false

-- whether a look saves
abbrev pub look_saves : DriveState → Bool
look_saves d = look_saves_of d d.work

-- whether the end of a command this far saves: a seek with a good address leaves the track
abbrev pub end_saves_of : DriveState → Work → Bool
end_saves_of d (Passing o b left) =
    is_written d.state && (closing d.state.volume.geometry (track_under d.state) o d.state.registers b).moves_off
end_saves_of d w = false

-- whether an end saves
abbrev pub end_saves : DriveState → Bool
end_saves d = end_saves_of d d.work

-- a track is loaded only where a command looks for an area
abbrev pub is_next : Aim → Bool
is_next (Next kind) = true
is_next a = false

-- whether a look of a command this far may load a track
abbrev pub look_loads_of : Work → Bool
look_loads_of (Looking o) = is_next (aim o.command)
look_loads_of w = false

-- whether a look may load a track
abbrev pub look_loads : DriveState → Bool
look_loads d = look_loads_of d.work

-- What a call makes of the store: a saving exactly where a written track is left or settled; else a load at most, and only
-- where one may be; and no call fails but one of these.
pub record CallsStore (may_load must_save : Bool) (old new : DriveState) : Type 0 where
  pub loads : (new.image.loads ≡ old.image.loads)
      ⊎ ((may_load ≡ true) × (must_save ≡ false) × (new.image.loads ≡ old.image.loads + 1))
  pub saves : new.image.saves ≡ old.image.saves + (if must_save then 1 else 0)
  pub failures : (new.image.failures ≡ old.image.failures)
      ⊎ ((new.image.failures ≡ old.image.failures + 1) × ((must_save ≡ true) ⊎ (new.image.loads ≡ old.image.loads + 1)))
  pub slots : must_save ≡ false → new.image.slots ≡ old.image.slots
  pub untouched : must_save ≡ false → new.image.loads ≡ old.image.loads → new.image ≡ old.image
  pub lasting : new.image.lasting ≡ old.image.lasting
  pub geometry : new.image.geometry ≡ old.image.geometry

-- The fault that a call met, by what the image counted: none where no call of its store failed; else a failed load, or a
-- failed saving, which left what stands in the slot of the track that was under the arm.
abbrev pub fault_met : (old new : DriveState) → Option Fault
fault_met old new =
    if new.image.failures == old.image.failures then None
    else (if new.image.saves == old.image.saves then Some LoadFails
    else Some (SaveFails (slice_index_or new.image.slots (number_under old.state) [])))

-- Where a call of the store failed, the sense has equipment check, nothing is left to be saved, and this is so; where none
-- failed, equipment check is not gained.
pub record Reports (so : Type 0) (old new : DriveState) : Type 0 where
  pub failed : (new.image.failures ≡ old.image.failures)
      ⊎ (so × (tells_equipment_check new.state.registers.sense ≡ true) × (is_written new.state ≡ false))
  pub good : new.image.failures ≡ old.image.failures → tells_equipment_check new.state.registers.sense ≡ true
      → tells_equipment_check old.state.registers.sense ≡ true

-- A read that passes whole.

-- how a read ends whose bytes passed at once: where its record has no data, that is reported
abbrev pub whole_ending : WholeRead → DriveEnding
whole_ending read = record {
  unit = record { 0 = if read.no_data then unit_exception_status else ending_status };
  motion = false;
}

-- the state then: the area behind which it leaves the track passed last, and nothing else changes
abbrev pub state_behind : State → WholeRead → State
state_behind s read = with_registers s (record s.registers { position = At read.area })

-- whether the action gives the bytes of an area
abbrev pub is_read : Action → Bool
is_read action.Read = true
is_read _ = false

-- whether a look found the command's area
abbrev pub is_ready : AfterLook → Bool
is_ready (Ready o) = true
is_ready _ = false

-- whether a command this far is a read of an area, and finds it with its next look
abbrev pub gives_at_once_of : DriveState → Work → Bool
gives_at_once_of d (Looking o) = is_read (action_of o.command) && is_ready (look None (open_at d o))
gives_at_once_of d w = false

-- whether the command at hand is a read that is lent whole where its track is at hand
abbrev pub gives_at_once : DriveState → Bool
gives_at_once d = gives_at_once_of d d.work

-- the commonest reads, which are lent by a call of their own: Read Data, and Read Count, Key and Data
abbrev pub is_lent_whole : Command → Bool
is_lent_whole ReadData = true
is_lent_whole ReadCountKeyAndData = true
is_lent_whole _ = false

-- whether a command this far is one of these, and finds its area with its next look
abbrev pub gives_common_of : DriveState → Work → Bool
gives_common_of d (Looking o) = is_lent_whole o.command && is_ready (look None (open_at d o))
gives_common_of d w = false

-- whether the command at hand is one of the commonest reads, and is lent whole where its track is at hand
abbrev pub gives_common : DriveState → Bool
gives_common d = gives_common_of d d.work

-- A command that looks for its area finds it on the track under the arm with its next look, which saves nothing; it gives
-- just these bytes, and however many of them have passed it ends so, and saves nothing.
pub record GivesWhole (d : DriveState) (bytes : List ℕ) (read : WholeRead) : Type 0 where
  pub asked : Opened
  pub opened : Opened
  pub works : d.work ≡ Looking asked
  pub finds : look None (open_at d asked) ≡ Ready (open_at d opened)
  pub stays : look_saves_of d (Looking asked) ≡ false
  pub gives : is_giving (action_of opened.command) ≡ true
  pub given : given (open_at d opened) ≡ bytes
  pub ends : (passed : List ℕ) → close None (open_at d opened) passed
      ≡ record { state = state_behind d.state read; unit = (whole_ending read).unit; motion = false }
  pub keeps : (passed : List ℕ) (left : ℕ) → end_saves_of d (Passing opened passed left) ≡ false

-- A search that fails at once.

-- the state once this area has passed: there is neither sense nor credit, and the arm's track stands behind the area
abbrev pub state_past : State → Area → State
state_past s a = with_registers s (record s.registers { sense = no_sense; credit = None; position = At a })

-- A search of this code begins on an idle drive, finds this area on the track under the arm with its next look, and takes these
-- bytes, which are as many as it wants; with them it ends by channel end and device end alone. Nothing but the state changes, and
-- no call of the store is made.
pub record PassesBy (code : ℕ) (bytes : List ℕ) (area : Area) (old new : DriveState) : Type 0 where
  pub idle : old.work ≡ Idle
  pub asked : Open
  pub found : Open
  pub begins : begin None code old.state ≡ Started asked
  pub finds : look None asked ≡ Ready found
  pub searches : is_search (action_of found.opened.command) ≡ true
  pub takes : is_giving (action_of found.opened.command) ≡ false
  pub wants : (b : List ℕ) → length_of found b ≡ length bytes
  pub ends : close None found bytes ≡ record { state = new.state; unit = record { 0 = ending_status }; motion = false }
  pub stays : new ≡ record old { state = state_past old.state area }

-- so many areas pass by so, one behind another
abbrev pub PassesOn : (code : ℕ) → (bytes : List ℕ) → (passed : ℕ) → (old new : DriveState) → Type 0
PassesOn code bytes zero old new = new ≡ old
PassesOn code bytes (suc n) old new =
    (before : DriveState) × (area : Area) × PassesOn code bytes n old before × PassesBy code bytes area before new

-- A new drive.

-- a drive that is new at this image
abbrev pub new_drive : ImageState → DriveState
new_drive i = record {
  image = i;
  state = begin_program (first_drive (record { geometry = i.geometry; slots = i.slots }));
  work = Idle;
}

-- the state with no cause of unit check left
abbrev pub without_sense : State → State
without_sense s = with_registers s (record s.registers { sense = no_sense })

-- the drive over this image
abbrev pub with_image : DriveState → ImageState → DriveState
with_image d i = record d { image = i }

-- A drive that becomes what one was between two programs.

-- whether a volume has a track at this cylinder and head
abbrev pub has_track : Geometry → (cylinder head : ℕ) → Bool
has_track g cylinder head = nat_lt cylinder g.cylinders && nat_lt head (heads_of g.model)

-- the drive with its arm at this cylinder, this head selected, and these sense bytes
abbrev pub restored : (cylinder head : ℕ) → Sense → DriveState → DriveState
restored cylinder head sense d =
    record d { state = begin_program (record (drive_of d.state) { cylinder = cylinder; head = head; sense = sense }) }

-- How a channel program ends, and how it stands before its end (Principles of Operation, Input/Output Operations:
-- 'Conclusion of Input/Output Operations', 'Halt I/O', 'Channel Status Word').
use Rattle.std.specs.Prelude.{ℕ, ◌+◌, ◌%◌, ◌^◌, List, [], ◌∷◌, Bool, false, Option, Some, None, if◌then◌else◌}
use Rattle.s360_words.specs.Storage.{Storage}
use Rattle.s360_words.specs.declared.flags.ChannelStatus.{ChannelStatus}
use Rattle.s360_words.specs.declared.flags.TheConstants.ChannelStatus.{PROGRAM_CONTROLLED_INTERRUPTION}
use Rattle.s360_words.specs.declared.flags.TheConstants.UnitStatus.{CHANNEL_END}
use Rattle.s360_words.specs.declared.flags.UnitStatus.{UnitStatus}
use Rattle.s360_words.specs.declared.words.Csw.{Csw}
use Rattle.ckd_command.specs.Drive.{IdleDrive, unsaved, settled, Closed, drive_of, Fault, State, close, Open, state_of}
use Rattle.s360_laws.specs.Places.{Place}
use Rattle.s360_laws.specs.Status.{with_interruption, beside, normal_end, end_with_check, no_unit_status, no_channel_status}

-- the drive as the program leaves it, the CSW, whether the arm still moves, and the cylinder and head of a track that was
-- not saved
pub record Ending : Type 0 where
  pub drive : IdleDrive
  pub csw : Csw
  pub motion : Bool
  pub unsaved : Option (ℕ × ℕ)

-- the command address in a CSW is that of the last CCW plus 8, and the count what is left in it ('Channel Status Word')
abbrev pub csw_at : (key : ℕ) → Place → UnitStatus → ChannelStatus → Csw
csw_at key p unit channel = record {
  key = key;
  address = (p.last + 8) % 2 ^ 24;
  unit = unit;
  channel = channel;
  count = p.residual;
}

-- the ending of a program whose drive has saved what was written
abbrev pub settled_ending : (key : ℕ) → Place → Closed → ChannelStatus → Ending
settled_ending key p c channel = record {
  drive = drive_of c.state;
  csw = csw_at key p c.unit (with_interruption p.interruption (beside c.unit channel));
  motion = c.motion;
  unsaved = unsaved c.state;
}

-- as a program ends, the drive saves the track that was written
abbrev pub ending : Option Fault → (key : ℕ) → Place → Closed → ChannelStatus → Ending
ending fault key p c channel = settled_ending key p (settled fault c) channel

-- no command is open, or none of its bytes has passed
abbrev pub untouched : State → Closed
untouched s = record { state = s; unit = normal_end; motion = false }

-- a command was rejected, or found no area
abbrev pub failed : State → Closed
failed s = record { state = s; unit = end_with_check; motion = false }

-- a command that is over as it begins; while the arm moves its device end is still to come
abbrev pub immediate : State → (motion : Bool) → Closed
immediate s motion = record { state = s; unit = if motion then CHANNEL_END else normal_end; motion = motion }

-- a cut, by Halt I/O or a reset, closes the open command by the bytes that passed ('Halt I/O')
abbrev pub closed_by_cut : Option Fault → Open → (moved : List ℕ) → Closed
closed_by_cut fault o [] = untouched (state_of o)
closed_by_cut fault o (byte ∷ bytes) = close fault o (byte ∷ bytes)

-- where a program stands: storage, the CSW of an interruption that it asked for, and its ending if it is cut there
pub record Standing : Type 0 where
  pub storage : Storage
  pub interruption : Option Csw
  pub cut : Option Fault → Ending

-- a program that stands here, and whose open command closes so if it is cut
abbrev pub standing : (key : ℕ) → Storage → Place → (Option Fault → Closed) → Standing
standing key s p close_at = record {
  storage = s;
  interruption = if p.interruption then Some (csw_at key p no_unit_status PROGRAM_CONTROLLED_INTERRUPTION) else None;
  cut = λ fault. ending fault key p (close_at fault) no_channel_status;
}

-- a program over a script: it ended, with so many units used, or it stands where the script is spent
pub data Outcome : Type 0 where
  Ended : (used : ℕ) → Storage → Ending → Outcome
  NotEnded : Standing → Outcome

-- the script is spent, and the program has not ended
abbrev pub RunsOn : Outcome → Type 0
RunsOn (Ended used s e) = ⊥
RunsOn (NotEnded seen) = Unit {0}

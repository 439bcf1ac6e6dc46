-- Searches that fail at once.
use Rattle.std.specs.Prelude.{◌≡◌, ℕ, zero, suc, List, Bool, false, ◌&&◌, ◌==◌, Option, Some, None, length}
use Rattle.ckd_position.specs.declared.areas.Area.{Area}
use Rattle.ckd_position.specs.declared.areas.Kind.{Kind}
use Rattle.ckd_position.specs.declared.areas.Position.{Position}
use Rattle.ckd_position.specs.declared.areas.Position.TheVariants.{At}
use Rattle.ckd_sense.specs.declared.commands.Command.{Command}
use Rattle.ckd_command.specs.declared.tables.Action.{Action}
use Rattle.ckd_command.specs.declared.tables.Action.TheVariants.{Search}
use Rattle.ckd_command.specs.declared.tables.Aim.{Aim}
use Rattle.ckd_command.specs.declared.tables.Aim.TheVariants.{Next}
use Rattle.ckd_command.specs.declared.registers.Mark.{Mark}
use Rattle.ckd_command.specs.Commands.{ending_status}
use Rattle.ckd_command.specs.Drive.{State, Open, AfterBegin, Started, AfterLook, Ready, begin, look, close, length_of, with_registers, no_sense}
use Rattle.ckd_command.specs.Tables.{action_of, is_search}
use Rattle.ckd_drive.specs.declared.answers.DriveStage.TheVariants.{Idle}
use Rattle.ckd_drive.specs.Invariant.{HalfDone, own_track, parts_of, state_of}
use Rattle.ckd_drive.specs.Work.{DriveState}
use Rattle.ckd_slot.specs.Cache.{holds}

-- whether a command whose look came to this is a search that found its area, wants as many bytes as these, and by these ends with
-- channel end and device end alone
abbrev pub fails_by : AfterLook → (bytes : List ℕ) → Bool
fails_by (Ready o) bytes =
    is_search (action_of o.opened.command) && (length_of o bytes == length bytes && (close None o bytes).unit.0 == ending_status)
fails_by _ bytes = false

-- the same of a command that came to this as it began, by its next look
abbrev pub fails_begun : AfterBegin → (bytes : List ℕ) → Bool
fails_begun (Started o) bytes = fails_by (look None o) bytes
fails_begun _ bytes = false

-- whether the command of this code is a search that fails at once by these bytes, on this drive
abbrev pub fails_at_once : (code : ℕ) → (bytes : List ℕ) → DriveState → Bool
fails_at_once code bytes d = fails_begun (begin None code d.state) bytes

-- What a search of a job comes to.

-- a search that has begun at this state
abbrev pub asked_by : Command → (multi_track : Bool) → State → Open
asked_by c multi_track s = record {
  opened = record { command = c; multi_track = multi_track; area = None };
  state = with_registers s (record s.registers { sense = no_sense; credit = None });
}

-- an idle drive of these parts, as those see it who call
abbrev pub idle_state : HalfDone → Mark → State
idle_state h m = (state_of (parts_of h m Idle)).state

-- whether this is so exactly where the track under the arm is at hand, and a search of this command then fails at once
abbrev pub TellsSearch : HalfDone → Command → (wanted : List ℕ) → Bool → Type 0
TellsSearch h c wanted b = (m : Mark) (multi_track : Bool)
    → b ≡ (holds h.cache.held (own_track h) && fails_by (look None (asked_by c multi_track (idle_state h m))) wanted)

-- the same of the command of a code
abbrev pub TellsCode : HalfDone → (code : ℕ) → (wanted : List ℕ) → Bool → Type 0
TellsCode h code wanted b = (m : Mark)
    → b ≡ (holds h.cache.held (own_track h) && fails_begun (begin None code (idle_state h m)) wanted)

-- the kind of area that a search looks for; none for another command
abbrev pub searched_by : Action → Aim → Option Kind
searched_by Search (Next k) = Some k
searched_by _ _ = None

-- A turn of the track under a search.

-- so many areas pass one behind another, from this position to that one, and each is so at the position before it
abbrev pub Turns : (Position → Area → Type 0) → (from : Position) → ℕ → (to : Position) → Type 0
Turns So from zero to = to ≡ from
Turns So from (suc n) to = (p : Position) × (a : Area) × Turns So from n p × So p a × (to ≡ At a)

-- a command half done once areas have passed, and this one last: there is neither sense nor credit
abbrev pub turned_to : Position → HalfDone → HalfDone
turned_to p h = record h { registers = record h.registers { sense = no_sense; credit = None; position = p } }

-- the same once so many have passed; none leave it as it was
abbrev pub turned : (passed : ℕ) → Position → HalfDone → HalfDone
turned zero p h = h
turned (suc n) p h = turned_to p h

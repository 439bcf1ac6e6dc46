-- Commands of a drive, one after another, and what is seen of the last.
use Rattle.std.specs.Prelude.{ℕ, zero, suc, List, [], ◌∷◌, Bool, true, false, Option, Some, None, is_some, Result, map, filter, if◌then◌else◌}
use Rattle.std.specs.List.{range_with_len}
use Rattle.ckd_track.specs.Track.{Track}
use Rattle.ckd_track.specs.declared.fault.SlotFault.{SlotFault}
use Rattle.ckd_position.specs.declared.areas.Position.{Position}
use Rattle.ckd_command.specs.Drive.{State, Fault, Open, AfterBegin, Rejected, Immediate, Started, begin, AfterLook, Ready, Passed, Failed, look, Closed, close}
use Rattle.ckd_command.specs.Drive.{settled, begin_program, drive_of, gives, given, length_of, track_under}
use Rattle.ckd_sense.specs.Commands.{decoded}
use Rattle.ckd_sense.specs.declared.masks.FileMask.{FileMask}
use Rattle.ckd_command.specs.declared.registers.Credit.{Credit}
use Rattle.ckd_command.specs.declared.registers.Lap.{Lap}
use Rattle.ckd_command.specs.declared.registers.Mark.{Mark}

-- A command: its code; the bytes that come for it; and the fault of the store that it meets. A command that gives bytes gives
-- them all.
pub record Asked : Type 0 where
  pub code : ℕ
  pub bytes : List ℕ
  pub fault : Option Fault

-- a command, with its bytes, over a store that does not fail
abbrev pub asks : (code : ℕ) → (bytes : List ℕ) → Asked
asks code bytes = record { code = code; bytes = bytes; fault = None }

-- the same, over a store that fails
abbrev pub failing : Fault → Asked → Asked
failing fault a = record a { fault = Some fault }

-- What is reported: the drive rejects the command; it is over as it begins, and its arm moves or not; it finds no area; or it ends with this
-- unit status, and its arm moves or not.
pub data Told : Type 0 where
  IsRejected : Told
  IsOver : (motion : Bool) → Told
  FindsNone : Told
  Ends : (unit : ℕ) → (motion : Bool) → Told

-- what was reported, the bytes that the drive gave, how many bytes it gave or wanted in all, and the drive behind the command
pub record Done : Type 0 where
  pub told : Told
  pub gave : List ℕ
  pub wanted : ℕ
  pub state : State

-- a command that moved none
abbrev pub without_bytes : Told → State → Done
without_bytes told s = record { told = told; gave = []; wanted = 0; state = s }

-- a command at its end
abbrev pub ended : (gave : List ℕ) → (wanted : ℕ) → Closed → Done
ended gave wanted c = record { told = Ends c.unit.0 c.motion; gave = gave; wanted = wanted; state = c.state }

-- the bytes of a command that was begun: those that the drive gives, or those that come
abbrev pub moves : Asked → Open → Done
moves a o =
    if gives o then ended (given o) (length_of o (given o)) (close a.fault o (given o))
    else ended [] (length_of o a.bytes) (close a.fault o a.bytes)

-- it looks until its area is found, as long as the index passes not more than so often
abbrev pub looks : (most : ℕ) → Asked → AfterLook → Done
looks most a (Ready o) = moves a o
looks most a (Failed s) = without_bytes FindsNone s
looks zero a (Passed o) = without_bytes FindsNone o.state
looks (suc most) a (Passed o) = looks most a (look a.fault o)

-- a command, by how it begins
abbrev pub begins : Asked → AfterBegin → Done
begins a (Rejected s) = without_bytes IsRejected s
begins a (Immediate s motion) = without_bytes (IsOver motion) s
begins a (Started o) = looks 3 a (look a.fault o)

-- a command, from its begin to its end
abbrev pub does : Asked → State → Done
does a s = begins a (begin a.fault a.code s)

-- the last of these commands, one after another
abbrev pub last_of : List Asked → State → Done
last_of [] s = without_bytes FindsNone s
last_of (a ∷ []) s = does a s
last_of (a ∷ rest) s = last_of rest (does a s).state

-- What is seen of it.

-- what was reported; sense bytes 0 and 1, as four hexadecimal digits; the last area that passed; and the credit
pub record Seen : Type 0 where
  pub told : Told
  pub sense : ℕ
  pub position : Position
  pub credit : Option Credit

-- what is looked at of a command
abbrev pub seen : Done → Seen
seen d = record { told = d.told; sense = d.state.registers.sense.0; position = d.state.registers.position; credit = d.state.registers.credit }

-- a look of these parts
abbrev pub saw : Told → (sense : ℕ) → Position → Option Credit → Seen
saw told sense position credit = record { told = told; sense = sense; position = position; credit = credit }

-- the cylinder and the head, and the turn that looks are on
abbrev pub arm : Done → ℕ × ℕ × Lap
arm d = (d.state.registers.cylinder, d.state.registers.head, d.state.registers.lap)

-- the track under the arm, and whether it was written, saved, or lost
abbrev pub track : Done → Result Track SlotFault × Mark
track d = (track_under d.state, d.state.mark)

-- the bytes that the drive gave, and how many it gave or wanted in all
abbrev pub moved : Done → List ℕ × ℕ
moved d = (d.gave, d.wanted)

-- the file mask behind a command
abbrev pub mask : Done → FileMask
mask d = d.state.registers.file_mask

-- Of several commands, each alone, for which no byte comes.

-- sense bytes 0 and 1 behind each
abbrev pub senses_of : (codes : List ℕ) → State → List ℕ
senses_of codes s = map (λ code. (does (asks code []) s).state.registers.sense.0) codes

-- the unit status; zero where there is none yet
abbrev pub unit_told : Told → ℕ
unit_told (Ends unit motion) = unit
unit_told told = 0

-- the unit status of each
abbrev pub units_of : (codes : List ℕ) → State → List ℕ
units_of codes s = map (λ code. unit_told (does (asks code []) s).told) codes

-- whether a command is begun, where the one before left each of these credits
abbrev pub is_begun : Told → Bool
is_begun IsRejected = false
is_begun told = true

-- for each of these credits whether the command is begun
abbrev pub begun_with : (code : ℕ) → List (Option Credit) → State → List Bool
begun_with code credits s =
    map (λ credit. is_begun (does (asks code []) (record s { registers = record s.registers { credit = credit } })).told) credits

-- the codes below 256 that are those of commands
abbrev pub command_codes : List ℕ
command_codes = filter (λ code. is_some (decoded code)) (range_with_len 0 256)

-- The end of a program.

-- how the program ends behind the last of these commands, where the save of its track meets this fault
abbrev pub settled_after : Option Fault → Done → Done
settled_after fault d = settled_by (settled fault (record { state = d.state; unit = record { 0 = unit_told d.told }; motion = false })) d
  where
    settled_by : Closed → Done → Done
    settled_by c d = record d { told = Ends c.unit.0 c.motion; state = c.state }

-- the drive as the next program finds it
abbrev pub next_program : Done → State
next_program d = begin_program (drive_of d.state)

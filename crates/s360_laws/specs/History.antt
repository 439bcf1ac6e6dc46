-- The serial history: what the programs of a list of events do, each as one whole run, one after another.
use Rattle.std.specs.Prelude.{◌≡◌, ℕ, zero, suc, ◌+◌, ◌%◌, List, [], ◌∷◌, ◌++◌, map, true, false, ◌==◌, Option, Some, None, fold, if◌then◌else◌, find}
use Rattle.s360_words.specs.Storage.{Change, Bytes, KeyOf, csw_stored, status_stored, Storage, caw_word, changed}
use Rattle.s360_words.specs.declared.flags.TheConstants.UnitStatus.{BUSY, CHANNEL_END, UNIT_CHECK}
use Rattle.s360_words.specs.declared.flags.UnitStatus.{UnitStatus}
use Rattle.ckd_command.specs.Drive.{Fault, IdleDrive, no_sense}
use Rattle.s360_laws.specs.Endings.{Outcome, Ended, NotEnded}
use Rattle.s360_laws.specs.Runs.{run, Start}
use Rattle.s360_laws.specs.Scripts.{Script, units, Outside, TakesInterruption, OneUnit}
use Rattle.s360_laws.specs.Starts.{first, First, RejectedStart}
use Rattle.s360_laws.specs.Status.{tells}
use Rattle.s360_laws.specs.Events.{Exchange, StepBy, Stepped, Hio, WithCode, Reset, Sio, Store, WasKept, SetKey, Interrupt, Interrupted, StatusStored, Tio}
use Rattle.s360_laws.specs.Events.{CswStored, Input}
use Rattle.s360_laws.specs.Machine.{units_with, fault_in, Subchannel, Working, Machine, run_of, is_working, after_all, exchanges}
use Rattle.s360_laws.specs.Soundness.{IsRunning}
use Rattle.s360_laws.specs.declared.condition.ConditionCode.TheVariants.{Two, Zero}

-- How a program comes to its end that its script does not end: not yet, or by a cut, which is Halt I/O or a reset.
pub data Fate : Type 0 where
  ByItself : Fate
  IsCut : Option Fault → Fate

-- an act of the history: a program that runs whole, a command that is rejected at its start, a change of storage by the
-- processor or the channel, or a reset of the sense
pub data Act : Type 0 where
  Program : (device : ℕ) → Script → Fate → Act
  RejectedCommand : (device : ℕ) → Act
  Changes : Change → Act
  ClearsSense : Act

-- The acts of a list of events and answers.

-- the units of the steps from here on, up to the next acceptance or cut
abbrev pub units_ahead : List Exchange → ℕ
units_ahead [] = 0
units_ahead ((StepBy k, x, Stepped done) ∷ rest) = done + units_ahead rest
units_ahead ((Hio a, x, WithCode Two) ∷ rest) = 0
units_ahead ((Reset, x, answer) ∷ rest) = 0
units_ahead ((Sio a, x, WithCode Zero) ∷ rest) = 0
units_ahead (t ∷ rest) = units_ahead rest

-- one thing where no unit is ahead, and else another
abbrev pub where_over : {A : Type 0} → (ahead : ℕ) → A → A → A
where_over zero over more = over
where_over (suc ahead) over more = more

-- what an exchange adds to the script of the program that runs
abbrev pub turns_of : Exchange → Script
turns_of (StepBy k, x, Stepped done) = units_with done x
turns_of (Store at bytes, x, WasKept true) = Outside (Bytes at bytes) ∷ []
turns_of (SetKey at key, x, WasKept true) = Outside (KeyOf at key) ∷ []
turns_of (Interrupt, x, Interrupted (Some i)) = TakesInterruption ∷ Outside (csw_stored i.1) ∷ []
turns_of t = []

-- the script from here on, up to the last unit before the next acceptance or cut
abbrev pub script_ahead : List Exchange → Script
script_ahead [] = []
script_ahead (t ∷ rest) = where_over (units_ahead (t ∷ rest)) [] (turns_of t ++ script_ahead rest)

-- how the program that runs comes to its end, by what comes next
abbrev pub fate_ahead : List Exchange → Fate
fate_ahead [] = ByItself
fate_ahead ((Hio a, x, WithCode Two) ∷ rest) = IsCut (fault_in x)
fate_ahead ((Reset, x, answer) ∷ rest) = IsCut (fault_in x)
fate_ahead ((Sio a, x, WithCode Zero) ∷ rest) = ByItself
fate_ahead (t ∷ rest) = fate_ahead rest

-- a change of storage is an act of its own, but before a further unit of a program it belongs to that program's script
abbrev pub own_change : List Exchange → Change → List Act
own_change rest c = where_over (units_ahead rest) (Changes c ∷ []) []

-- what a start does that answers 1: an immediate command is a program of one unit; one that is rejected changes sense
abbrev pub start_acts : (device : ℕ) → UnitStatus → List Act
start_acts device unit =
    if tells unit BUSY then []
    else (if tells unit CHANNEL_END then Program device (units 1) ByItself ∷ []
    else (if tells unit UNIT_CHECK then RejectedCommand device ∷ [] else []))

-- the acts of one exchange and of what comes behind it
abbrev pub acts_of : Exchange → List Exchange → List Act
acts_of (Sio a, x, WithCode Zero) rest = Program (a % 256) (OneUnit None ∷ script_ahead rest) (fate_ahead rest) ∷ []
acts_of (Sio a, x, StatusStored unit channel) rest =
    start_acts (a % 256) unit ++ Changes (status_stored unit.0 channel.0) ∷ []
acts_of (Hio a, x, StatusStored unit channel) rest = Changes (status_stored unit.0 channel.0) ∷ []
acts_of (Tio a, x, CswStored csw) rest = Changes (csw_stored csw) ∷ []
acts_of (Interrupt, x, Interrupted (Some i)) rest = own_change rest (csw_stored i.1)
acts_of (Store at bytes, x, WasKept true) rest = own_change rest (Bytes at bytes)
acts_of (SetKey at key, x, WasKept true) rest = own_change rest (KeyOf at key)
acts_of (Reset, x, answer) rest = ClearsSense ∷ []
acts_of t rest = []

-- the acts of a list of exchanges
abbrev pub acts : List Exchange → List Act
acts [] = []
acts (t ∷ rest) = acts_of t rest ++ acts rest

-- the act of the program that runs as the list begins
abbrev pub begun_act : Subchannel → List Exchange → List Act
begun_act (Working device script) list = Program device (script ++ script_ahead list) (fate_ahead list) ∷ []
begun_act _ list = []

-- the acts of a list, behind that of the program that runs as it begins
abbrev pub all_acts : Machine → List Exchange → List Act
all_acts m list = begun_act m.subchannel list ++ acts list

-- What acts do.

-- storage, and the drive of each device
pub record World : Type 0 where
  pub storage : Storage
  pub drives : List (ℕ × IdleDrive)

-- a device's drive, if the device is there
abbrev pub drive_in : World → ℕ → Option (ℕ × IdleDrive)
drive_in w device = find (λ d. d.0 == device) w.drives

-- the drives with this one for a device
abbrev pub with_drive : ℕ → IdleDrive → List (ℕ × IdleDrive) → List (ℕ × IdleDrive)
with_drive device drive drives = map (λ d. if d.0 == device then (d.0, drive) else d) drives

-- storage and drives at the end of a program
abbrev pub after_end : World → (device : ℕ) → Storage → IdleDrive → World
after_end w device s drive = record { storage = s; drives = with_drive device drive w.drives }

-- a program that ended or was cut; one that still runs has only changed storage
abbrev pub after_run : World → (device : ℕ) → Fate → Outcome → World
after_run w device fate (Ended used s e) = after_end w device s e.drive
after_run w device (IsCut fault) (NotEnded seen) = after_end w device seen.storage (seen.cut fault).drive
after_run w device ByItself (NotEnded seen) = record w { storage = seen.storage }

-- a start on the storage and a drive of a world
abbrev pub start_in : World → IdleDrive → Start
start_in w drive = record { caw = caw_word w.storage; storage = w.storage; drive = drive }

-- storage and drives behind a program, if its device is there
abbrev pub after_program : World → (device : ℕ) → Script → Fate → Option (ℕ × IdleDrive) → World
after_program w device script fate None = w
after_program w device script fate (Some d) = after_run w device fate (run script (start_in w d.1))

-- storage and drives behind a start that was rejected
abbrev pub after_first : World → (device : ℕ) → First → World
after_first w device (RejectedStart drive) = record w { drives = with_drive device drive w.drives }
after_first w device _ = w

-- the same, if the device is there
abbrev pub after_rejection : World → (device : ℕ) → Option (ℕ × IdleDrive) → World
after_rejection w device None = w
after_rejection w device (Some d) = after_first w device (first (start_in w d.1))

-- what an act does
abbrev pub does : World → Act → World
does w (Program device script fate) = after_program w device script fate (drive_in w device)
does w (RejectedCommand device) = after_rejection w device (drive_in w device)
does w (Changes c) = record w { storage = changed c w.storage }
does w ClearsSense = record w { drives = map (λ d. (d.0, record d.1 { sense = no_sense })) w.drives }

-- what acts do, one after another
abbrev pub history : World → List Act → World
history w list = fold does w list

-- the storage and the drives of a machine
abbrev pub world_of : Machine → World
world_of m = record { storage = m.storage; drives = map (λ d. (d.device, d.drive)) m.devices }

-- a program that runs has not ended
abbrev pub Runs : Machine → Subchannel → Type 0
Runs m (Working device script) = IsRunning (run_of m device script)
Runs m _ = Unit {0}

-- Whenever no program runs, storage and drives are what the acts make one after another; with or without faults, and with
-- whatever comes between the units of a program.
abbrev pub IsSerial : Type 0
IsSerial = (m : Machine) (es : List Input) → Runs m m.subchannel → is_working (after_all es m).subchannel ≡ false →
    world_of (after_all es m) ≡ history (world_of m) (all_acts m (exchanges es m))

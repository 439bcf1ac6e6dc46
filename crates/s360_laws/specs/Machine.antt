-- The serial machine: a selector channel and its drives, event by event (Principles of Operation, Input/Output
-- Operations). While a program runs, the machine holds its start and its script, and each answer is read off its run: so
-- nothing in it is half done.
use Rattle.std.specs.Prelude.{ℕ, zero, suc, ◌+◌, ◌-◌, ◌*◌, ◌/◌, ◌%◌, List, [], ◌∷◌, ◌++◌, map, Bool, true, false, ◌==◌, Option, Some, None, is_some}
use Rattle.std.specs.Prelude.{slice_range, nat_lt, if◌then◌else◌, find, filter, option_map}
use Rattle.s360_words.specs.Storage.{Storage, Change, changed, csw_stored, status_stored, caw_word, is_inside, is_within, Bytes, KeyOf}
use Rattle.s360_words.specs.declared.flags.ChannelStatus.{ChannelStatus}
use Rattle.s360_words.specs.declared.flags.TheConstants.ChannelStatus.{PROGRAM_CHECK}
use Rattle.s360_words.specs.declared.flags.TheConstants.UnitStatus.{UNIT_CHECK, BUSY, DEVICE_END}
use Rattle.s360_words.specs.declared.flags.UnitStatus.{UnitStatus}
use Rattle.s360_words.specs.declared.words.Csw.{Csw}
use Rattle.ckd_command.specs.Drive.{IdleDrive, Fault, no_sense}
use Rattle.s360_laws.specs.Endings.{Outcome, Ending, Ended, NotEnded}
use Rattle.s360_laws.specs.Runs.{Start, run}
use Rattle.s360_laws.specs.Scripts.{Script, units, OneUnit, units_in, TakesInterruption, Outside}
use Rattle.s360_laws.specs.Starts.{First, BadStart, RejectedStart, ImmediateStart, AcceptedStart, first}
use Rattle.s360_laws.specs.Status.{no_channel_status, no_unit_status, busy_device_end}
use Rattle.s360_laws.specs.Events.{Answer, StatusStored, Store, WithCode, Arrive, CswStored, FaultAfter, Stepped, HasArrived, Interrupt, Interrupted, WasReset}
use Rattle.s360_laws.specs.Events.{Reset, WasKept, Event, Sio, Tio, Hio, Tch, StepBy, SetKey, Show, Shown, Input, Exchange}
use Rattle.s360_laws.specs.declared.arm.Arm.{Arm}
use Rattle.s360_laws.specs.declared.arm.Arm.TheVariants.{InMotion, AtRest, Arrived}
use Rattle.s360_laws.specs.declared.condition.ConditionCode.{ConditionCode}
use Rattle.s360_laws.specs.declared.condition.ConditionCode.TheVariants.{Zero, Three, Two, One}

-- a drive at the channel: the low byte of its address, its arm, and the drive as it is between programs
pub record Device : Type 0 where
  pub device : ℕ
  pub arm : Arm
  pub drive : IdleDrive

-- The subchannel is idle; or a device's program has run over this script, while the machine's storage and that device's
-- drive are still those of its start; or the CSW of a program that ended pends.
pub data Subchannel : Type 0 where
  Idle : Subchannel
  Working : (device : ℕ) → Script → Subchannel
  Pending : (device : ℕ) → Csw → Subchannel

-- the channel, its storage and its drives
pub record Machine : Type 0 where
  pub channel : ℕ
  pub storage : Storage
  pub subchannel : Subchannel
  pub devices : List Device

-- Parts of a machine, and its changes.

-- a device's address at this channel
abbrev pub address_of : Machine → (device : ℕ) → ℕ
address_of m device = 256 * m.channel + device

-- the device of a low address byte
abbrev pub device_at : Machine → ℕ → Option Device
device_at m device = find (λ d. d.device == device) m.devices

-- the machine with this change of a device
abbrev pub with_device : ℕ → (Device → Device) → Machine → Machine
with_device device f m = record m { devices = map (λ d. if d.device == device then f d else d) m.devices }

-- the machine with a device's arm here
abbrev pub with_arm : Arm → ℕ → Machine → Machine
with_arm arm device m = with_device device (λ d. record d { arm = arm }) m

-- the machine with this subchannel
abbrev pub with_subchannel : Subchannel → Machine → Machine
with_subchannel s m = record m { subchannel = s }

-- the machine with this change of its storage
abbrev pub with_change : Change → Machine → Machine
with_change change m = record m { storage = changed change m.storage }

-- the machine with this CSW stored
abbrev pub with_csw : Csw → Machine → Machine
with_csw csw m = with_change (csw_stored csw) m

-- the machine with these two status bytes stored
abbrev pub with_status : UnitStatus → ChannelStatus → Machine → Machine
with_status unit channel m = with_change (status_stored unit.0 channel.0) m

-- a CSW in which only unit status is not zero
abbrev pub csw_of_unit : UnitStatus → Csw
csw_of_unit unit = record { key = 0; address = 0; unit = unit; channel = no_channel_status; count = 0 }

-- a start on a drive of the machine, with its storage
abbrev pub start_of : Machine → IdleDrive → Start
start_of m drive = record { caw = caw_word m.storage; storage = m.storage; drive = drive }

-- the run of a device's program over a script, if the device is there
abbrev pub run_of : Machine → (device : ℕ) → Script → Option Outcome
run_of m device script = option_map (λ d. run script (start_of m d.drive)) (device_at m device)

-- The end of a program.

-- where the arm is left by an ending
abbrev pub arm_after : Ending → Arm
arm_after e = if e.motion then InMotion else AtRest

-- storage and drive as a program leaves them
abbrev pub with_ending : (device : ℕ) → Storage → Ending → Machine → Machine
with_ending device s e m =
    with_device device (λ d. record d { arm = arm_after e; drive = e.drive }) (record m { storage = s })

-- its CSW pends
abbrev pub ended : (device : ℕ) → Storage → Ending → Machine → Machine
ended device s e m = with_subchannel (Pending device e.csw) (with_ending device s e m)

-- it ends where it is cut
abbrev pub cut : Option Fault → (device : ℕ) → Machine → Option Outcome → Machine
cut fault device m None = m
cut fault device m (Some (Ended used s e)) = ended device s e m
cut fault device m (Some (NotEnded seen)) = ended device seen.storage (seen.cut fault) m

-- Start I/O ('Start I/O').

-- Start I/O at a device whose arm is at rest, by the first unit of the program
abbrev pub started : (device : ℕ) → Machine → First → Answer × Machine
started device m BadStart = (StatusStored no_unit_status PROGRAM_CHECK, with_status no_unit_status PROGRAM_CHECK m)
started device m (RejectedStart drive) = (
  StatusStored UNIT_CHECK no_channel_status,
  with_status UNIT_CHECK no_channel_status (with_device device (λ d. record d { drive = drive }) m),
)
started device m (ImmediateStart e) =
    (StatusStored e.csw.unit e.csw.channel, with_status e.csw.unit e.csw.channel (with_ending device m.storage e m))
started device m AcceptedStart = (WithCode Zero, with_subchannel (Working device (units 1)) m)

-- Start I/O stores this status and starts nothing
abbrev pub refused : UnitStatus → Machine → Answer × Machine
refused unit m = (StatusStored unit no_channel_status, with_status unit no_channel_status m)

-- a drive whose arm moves is busy; where it has arrived, its device end is reported with busy
abbrev pub start_device : (device : ℕ) → Machine → Option Device → Answer × Machine
start_device device m None = (WithCode Three, m)
start_device device m (Some d) = elim d.arm [
  | InMotion ↦ refused BUSY m
  | Arrived ↦ refused busy_device_end (with_arm AtRest device m)
  | AtRest ↦ started device m (first (start_of m d.drive))
]

-- Start I/O, with the channel free or not
abbrev pub start_io : (device : ℕ) → Machine → Subchannel → Answer × Machine
start_io device m Idle = start_device device m (device_at m device)
start_io device m busy = (WithCode Two, m)

-- Test I/O and Test Channel ('Test I/O', 'Test Channel').

-- Test I/O stores a CSW
abbrev pub tested : Csw → Machine → Answer × Machine
tested csw m = (CswStored csw, with_csw csw m)

-- Test I/O at a device, by its arm
abbrev pub test_device : (device : ℕ) → Machine → Option Device → Answer × Machine
test_device device m None = (WithCode Three, m)
test_device device m (Some d) = elim d.arm [
  | InMotion ↦ tested (csw_of_unit BUSY) m
  | Arrived ↦ tested (csw_of_unit DEVICE_END) (with_arm AtRest device m)
  | AtRest ↦ (WithCode Zero, m)
]

-- Test I/O, with the channel free or not
abbrev pub test_io : (device : ℕ) → Machine → Subchannel → Answer × Machine
test_io device m Idle = test_device device m (device_at m device)
test_io device m (Working p script) = (WithCode Two, m)
test_io device m (Pending p csw) =
    if device == p then tested csw (with_subchannel Idle m) else (WithCode Two, m)

-- the condition code of Test Channel
abbrev pub test_channel : Subchannel → ConditionCode
test_channel Idle = Zero
test_channel (Working p script) = Two
test_channel (Pending p csw) = One

-- Halt I/O ('Halt I/O').

-- Halt I/O, with the channel free or not
abbrev pub halt_io : Option Fault → (device : ℕ) → Machine → Subchannel → Answer × Machine
halt_io fault device m Idle =
    if is_some (device_at m device)
    then (StatusStored no_unit_status no_channel_status, with_status no_unit_status no_channel_status m)
    else (WithCode Three, m)
halt_io fault device m (Working p script) = (WithCode Two, cut fault p m (run_of m p script))
halt_io fault device m (Pending p csw) = (WithCode Zero, m)

-- Units.

-- k units, of which the one behind so many others meets a fault
abbrev pub units_failing : (k after : ℕ) → Fault → Script
units_failing zero after fault = []
units_failing (suc k) zero fault = OneUnit (Some fault) ∷ units k
units_failing (suc k) (suc after) fault = OneUnit None ∷ units_failing k after fault

-- k units, one of which may meet a fault
abbrev pub units_with : ℕ → Option FaultAfter → Script
units_with k None = units k
units_with k (Some x) = units_failing k x.units x.fault

-- the program that runs, with this added to its script
abbrev pub goes_on : (device : ℕ) → Script → Script → Machine → Machine
goes_on device script more m = with_subchannel (Working device (script ++ more)) m

-- a program that goes on has met no fault, so the units of its script are plain ones
abbrev pub stepped : (device : ℕ) → Script → (k : ℕ) → Machine → Option Outcome → Answer × Machine
stepped device script k m None = (Stepped 0, m)
stepped device script k m (Some (Ended used s e)) = (Stepped (used - units_in script), ended device s e m)
stepped device script k m (Some (NotEnded seen)) = (Stepped k, goes_on device script (units k) m)

-- the units of a step; a channel with no program that runs does none
abbrev pub step : ℕ → Option FaultAfter → Machine → Subchannel → Answer × Machine
step k x m (Working device script) = stepped device script k m (run_of m device (script ++ units_with k x))
step k x m _ = (Stepped 0, m)

-- Arrivals and interruptions ('Input/Output Interruptions', 'Program-Controlled Interruption').

-- whether an arm moves
abbrev pub is_in_motion : Arm → Bool
is_in_motion InMotion = true
is_in_motion arm = false

-- the arm of a device arrives, where it moves
abbrev pub arrive : (device : ℕ) → Machine → Option Device → Answer × Machine
arrive device m None = (HasArrived false, m)
arrive device m (Some d) =
    if is_in_motion d.arm then (HasArrived true, with_arm Arrived device m) else (HasArrived false, m)

-- whether a device's arm has arrived and owes its device end
abbrev pub has_arrived : Device → Bool
has_arrived d = elim d.arm [ Arrived ↦ true | _ ↦ false ]

-- the lower of two numbers
abbrev pub lower : ℕ → Option ℕ → Option ℕ
lower a None = Some a
lower a (Some b) = if nat_lt a b then Some a else Some b

-- the lowest device
abbrev pub lowest : List Device → Option ℕ
lowest [] = None
lowest (d ∷ ds) = lower d.device (lowest ds)

-- the processor takes an interruption, and the CSW is stored
abbrev pub interrupted : (device : ℕ) → Csw → Machine → Answer × Machine
interrupted device csw m = (Interrupted (Some (address_of m device, csw)), with_csw csw m)

-- the device end that an arm owes interrupts
abbrev pub interrupt_device : Machine → Option ℕ → Answer × Machine
interrupt_device m None = (Interrupted None, m)
interrupt_device m (Some device) = interrupted device (csw_of_unit DEVICE_END) (with_arm AtRest device m)

-- the program-controlled interruption that a program asks for
abbrev pub asked_by : Option Outcome → Option Csw
asked_by (Some (NotEnded seen)) = seen.interruption
asked_by outcome = None

-- the program-controlled interruption of the program that runs interrupts
abbrev pub interrupt_program : (device : ℕ) → Script → Machine → Option Csw → Answer × Machine
interrupt_program device script m None = (Interrupted None, m)
interrupt_program device script m (Some csw) = (
  Interrupted (Some (address_of m device, csw)),
  goes_on device script (TakesInterruption ∷ Outside (csw_stored csw) ∷ []) m,
)

-- A pending CSW comes first, then the lowest device whose arm has arrived; in which order devices interrupt the manuals leave to the machine.
abbrev pub interrupt : Machine → Subchannel → Answer × Machine
interrupt m Idle = interrupt_device m (lowest (filter has_arrived m.devices))
interrupt m (Working device script) = interrupt_program device script m (asked_by (run_of m device script))
interrupt m (Pending p csw) = interrupted p csw (with_subchannel Idle m)

-- Reset.

-- a device behind a reset: its arm at rest, its sense zero
abbrev pub at_rest : Device → Device
at_rest d = record d { arm = AtRest; drive = record d.drive { sense = no_sense } }

-- every device behind a reset, with the channel free
abbrev pub all_at_rest : Machine → Machine
all_at_rest m = record m { subchannel = Idle; devices = map at_rest m.devices }

-- a track that a cut could not save, with its address
abbrev pub unsaved_at : (address : ℕ) → Option Fault → Option Outcome → Option (ℕ × ℕ × ℕ)
unsaved_at address fault (Some (NotEnded seen)) = option_map (λ t. (address, t.0, t.1)) (seen.cut fault).unsaved
unsaved_at address fault outcome = None

-- a program that runs is cut, and its CSW is lost
abbrev pub reset : Option Fault → Machine → Subchannel → Answer × Machine
reset fault m (Working device script) =
    let outcome = run_of m device script in
    (WasReset (unsaved_at (address_of m device) fault outcome), all_at_rest (cut fault device m outcome))
reset fault m _ = (WasReset None, all_at_rest m)

-- The processor and storage.

-- storage as the run of a program leaves it
abbrev pub storage_after : Machine → Option Outcome → Storage
storage_after m (Some (NotEnded seen)) = seen.storage
storage_after m outcome = m.storage

-- storage as it stands, with the program that runs or without one
abbrev pub storage_of : Machine → Subchannel → Storage
storage_of m (Working device script) = storage_after m (run_of m device script)
storage_of m _ = m.storage

-- the bytes of storage from an address on, if it has them
abbrev pub part_of : Storage → (at len : ℕ) → Option (List ℕ)
part_of s at len = if is_inside s at len then Some (slice_range s.bytes at (at + len)) else None

-- whether a program runs
abbrev pub is_working : Subchannel → Bool
is_working (Working device script) = true
is_working _ = false

-- while a program runs a change of storage is part of its script
abbrev pub change : Change → Machine → Subchannel → Machine
change c m (Working device script) = goes_on device script (Outside c ∷ []) m
change c m _ = with_change c m

-- the processor changes storage, where it is within storage
abbrev pub keep : Change → Machine → Answer × Machine
keep c m = if is_within c m.storage then (WasKept true, change c m m.subchannel) else (WasKept false, m)

-- Every event.

-- an address of another channel is that of no device
abbrev pub on_channel : (address : ℕ) → Machine → Answer × Machine → Answer × Machine
on_channel address m reaction = if address / 256 == m.channel then reaction else (WithCode Three, m)

-- the fault that an event may meet
abbrev pub fault_in : Option FaultAfter → Option Fault
fault_in x = option_map (λ x. x.fault) x

-- what an event answers and leaves, with the fault that it may meet
abbrev pub react : Event → Option FaultAfter → Machine → Answer × Machine
react (Sio a) x m = on_channel a m (start_io (a % 256) m m.subchannel)
react (Tio a) x m = on_channel a m (test_io (a % 256) m m.subchannel)
react (Hio a) x m = on_channel a m (halt_io (fault_in x) (a % 256) m m.subchannel)
react Tch x m = (WithCode (test_channel m.subchannel), m)
react (StepBy k) x m = step k x m m.subchannel
react (Arrive a) x m =
    if a / 256 == m.channel then arrive (a % 256) m (device_at m (a % 256)) else (HasArrived false, m)
react Interrupt x m = interrupt m m.subchannel
react Reset x m = reset (fault_in x) m m.subchannel
react (Store at bytes) x m = keep (Bytes at bytes) m
react (SetKey at key) x m = keep (KeyOf at key) m
react (Show at len) x m = (Shown (part_of (storage_of m m.subchannel) at len), m)

-- Lists of events.

-- the answers to a list of events
abbrev pub answers : List Input → Machine → List Answer
answers [] m = []
answers (e ∷ es) m = let r = react e.0 e.1 m in r.0 ∷ answers es r.1

-- the events, the faults that they may meet and their answers
abbrev pub exchanges : List Input → Machine → List Exchange
exchanges [] m = []
exchanges (e ∷ es) m = let r = react e.0 e.1 m in (e.0, e.1, r.0) ∷ exchanges es r.1

-- the machine behind a list of events
abbrev pub after_all : List Input → Machine → Machine
after_all [] m = m
after_all (e ∷ es) m = after_all es (react e.0 e.1 m).1

-- events that meet no fault
abbrev pub plain : List Event → List Input
plain events = map (λ e. (e, None)) events

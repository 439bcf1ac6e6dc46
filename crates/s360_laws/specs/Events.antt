-- The events of a channel and its answers (Principles of Operation, Input/Output Operations: 'Start I/O', 'Test I/O',
-- 'Halt I/O', 'Test Channel', 'Input/Output Interruptions').
use Rattle.std.specs.Prelude.{ℕ, List, Bool, Option}
use Rattle.s360_words.specs.declared.flags.ChannelStatus.{ChannelStatus}
use Rattle.s360_words.specs.declared.flags.UnitStatus.{UnitStatus}
use Rattle.s360_words.specs.declared.words.Csw.{Csw}
use Rattle.ckd_command.specs.Drive.{Fault}
use Rattle.s360_laws.specs.declared.condition.ConditionCode.{ConditionCode}

-- An address has the channel's number in its high byte, and that of a device in its low byte.
pub data Event : Type 0 where
  Sio : (address : ℕ) → Event
  Tio : (address : ℕ) → Event
  Hio : (address : ℕ) → Event
  Tch : Event
  -- the program that runs does so many units
  StepBy : (units : ℕ) → Event
  -- the arm of a drive arrives
  Arrive : (address : ℕ) → Event
  -- the processor takes an interruption
  Interrupt : Event
  Reset : Event
  -- the processor stores bytes, or sets the key of a block; and storage is looked at
  Store : (at : ℕ) → List ℕ → Event
  SetKey : (at key : ℕ) → Event
  Show : (at len : ℕ) → Event

-- what a channel answers to an event
pub data Answer : Type 0 where
  -- a condition code, where nothing is stored
  WithCode : ConditionCode → Answer
  -- condition code 1, where unit and channel status are stored, or the whole CSW
  StatusStored : UnitStatus → ChannelStatus → Answer
  CswStored : Csw → Answer
  -- how many units were done
  Stepped : (units : ℕ) → Answer
  -- whether an arm moved that could arrive
  HasArrived : Bool → Answer
  -- the address that interrupts, and the CSW
  Interrupted : Option (ℕ × Csw) → Answer
  -- the address, cylinder and head of a track that was not saved
  WasReset : (unsaved : Option (ℕ × ℕ × ℕ)) → Answer
  -- whether it was within storage
  WasKept : Bool → Answer
  Shown : Option (List ℕ) → Answer

-- the fault of the store that an event may meet: in a step, in the unit that comes after so many others of the step
pub record FaultAfter : Type 0 where
  pub units : ℕ
  pub fault : Fault

-- an event, with the fault that it may meet
abbrev pub Input : Type 0
Input = Event × Option FaultAfter

-- an event, the fault, and the answer
abbrev pub Exchange : Type 0
Exchange = Event × Option FaultAfter × Answer

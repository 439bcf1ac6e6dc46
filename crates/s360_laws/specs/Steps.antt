-- How the units of a program are cut into steps does not matter; and what a fault does in a step or at a cut.
use Rattle.std.specs.Prelude.{◌≡◌, ◌≤◌, ◌⊎◌, ℕ, suc, ◌+◌, Bool, false, List, [], ◌∷◌, map, true, Option, Some, None, sum}
use Rattle.s360_words.specs.declared.flags.TheConstants.UnitStatus.{UNIT_CHECK}
use Rattle.s360_words.specs.declared.words.Csw.{Csw}
use Rattle.ckd_command.specs.Drive.{tells_equipment_check}
use Rattle.s360_laws.specs.Scripts.{Script}
use Rattle.s360_laws.specs.Status.{tells}
use Rattle.s360_laws.specs.Events.{Answer, Stepped, FaultAfter, StepBy, Input, Hio, WithCode, Reset, WasReset, Event}
use Rattle.s360_laws.specs.History.{Runs}
use Rattle.s360_laws.specs.Machine.{Machine, react, is_working, after_all, answers, Pending, Device, device_at, Working, address_of}
use Rattle.s360_laws.specs.declared.condition.ConditionCode.TheVariants.{Two}

-- the units that an answer reports
abbrev pub units_of : Answer → ℕ
units_of (Stepped done) = done
units_of answer = 0

-- the units that answers report, in all
abbrev pub all_units : List Answer → ℕ
all_units [] = 0
all_units (a ∷ rest) = units_of a + all_units rest

-- A step does at most the units that it is asked for, and all of them where the program goes on.
abbrev pub StepsAtMost : Type 0
StepsAtMost = (m : Machine) (k : ℕ) (x : Option FaultAfter) → Runs m m.subchannel →
    (units_of (react (StepBy k) x m).0 ≤ k)
    × (is_working (react (StepBy k) x m).1.subchannel ≡ true → (react (StepBy k) x m).0 ≡ Stepped k)

-- a fault that may be met behind so many more units
abbrev pub after_units : ℕ → Option FaultAfter → Option FaultAfter
after_units j None = None
after_units j (Some x) = Some (record x { units = j + x.units })

-- Two steps do what one step of all their units does; a fault may be in the second.
abbrev pub StepsJoin : Type 0
StepsJoin = (m : Machine) (j k : ℕ) (x : Option FaultAfter) → Runs m m.subchannel →
    let first = react (StepBy j) None m in
    let second = react (StepBy k) x first.1 in
    let whole = react (StepBy (j + k)) (after_units j x) m in
    (second.1 ≡ whole.1) × (whole.0 ≡ Stepped (units_of first.0 + units_of second.0))

-- a list of steps, without faults
abbrev pub all_steps : List ℕ → List Input
all_steps ks = map (λ k. (StepBy k, None)) ks

-- And so do any number of steps.
abbrev pub StepsSplit : Type 0
StepsSplit = (m : Machine) (ks : List ℕ) → Runs m m.subchannel →
    let whole = react (StepBy (sum ks)) None m in
    (after_all (all_steps ks) m ≡ whole.1) × (whole.0 ≡ Stepped (all_units (answers (all_steps ks) m)))

-- Faults.

-- a program is over by a fault: its CSW pends with unit check, and the drive's sense has equipment check
pub record EndedByFault (r : Answer × Machine) (answer : Answer) : Type 0 where
  pub answers : r.0 ≡ answer
  pub device : ℕ
  pub csw : Csw
  pub pends : r.1.subchannel ≡ Pending device csw
  pub unit_check : tells csw.unit UNIT_CHECK ≡ true
  pub drive : Device
  pub is_there : device_at r.1 device ≡ Some drive
  pub equipment_check : tells_equipment_check drive.drive.sense ≡ true

-- A step meets the fault in its unit, where the program ends; or it is the step without the fault.
abbrev pub FaultEndsStep : Type 0
FaultEndsStep = (m : Machine) (k : ℕ) (x : FaultAfter) → Runs m m.subchannel →
    (react (StepBy k) (Some x) m ≡ react (StepBy k) None m)
    ⊎ EndedByFault (react (StepBy k) (Some x) m) (Stepped (suc x.units))

-- Halt I/O meets it as it ends the program; or it is Halt I/O without the fault.
abbrev pub FaultEndsHalt : Type 0
FaultEndsHalt = (m : Machine) (a : ℕ) (x : FaultAfter) → Runs m m.subchannel →
    (react (Hio a) (Some x) m ≡ react (Hio a) None m) ⊎ EndedByFault (react (Hio a) (Some x) m) (WithCode Two)

-- A reset that meets it reports the address of the drive that works, and the cylinder and head of its track.
pub record ToldByReset (m : Machine) (r : Answer × Machine) : Type 0 where
  pub device : ℕ
  pub script : Script
  pub worked : m.subchannel ≡ Working device script
  pub drive : Device
  pub is_there : device_at r.1 device ≡ Some drive
  pub told : r.0 ≡ WasReset (Some (address_of m device, drive.drive.cylinder, drive.drive.head))

-- a reset meets it as it cuts the program; or it is the reset without the fault
abbrev pub FaultToldByReset : Type 0
FaultToldByReset = (m : Machine) (x : FaultAfter) → Runs m m.subchannel →
    (react Reset (Some x) m ≡ react Reset None m) ⊎ ToldByReset m (react Reset (Some x) m)

-- No other event meets a fault.
abbrev pub meets_fault : Event → Bool
meets_fault (StepBy k) = true
meets_fault (Hio a) = true
meets_fault Reset = true
meets_fault _ = false

-- an event that is no step, halt or reset is the same with a fault and without
abbrev pub OthersMeetNone : Type 0
OthersMeetNone = (m : Machine) (e : Event) (x : Option FaultAfter)
    → meets_fault e ≡ false → react e x m ≡ react e None m

-- What a fault does to each event.
abbrev pub FaultDoes : Machine → Event → FaultAfter → Type 0
FaultDoes m (StepBy k) x =
    (react (StepBy k) (Some x) m ≡ react (StepBy k) None m)
    ⊎ EndedByFault (react (StepBy k) (Some x) m) (Stepped (suc x.units))
FaultDoes m (Hio a) x =
    (react (Hio a) (Some x) m ≡ react (Hio a) None m) ⊎ EndedByFault (react (Hio a) (Some x) m) (WithCode Two)
FaultDoes m Reset x = (react Reset (Some x) m ≡ react Reset None m) ⊎ ToldByReset m (react Reset (Some x) m)
FaultDoes m e x = react e (Some x) m ≡ react e None m

-- Sound machines, the only ones that a channel is ever in; what they owe.
use Rattle.std.specs.Prelude.{◌≡◌, ℕ, ◌+◌, ◌==◌, ◌&&◌, List, [], ◌∷◌, true, Option, Some, None, find, if◌then◌else◌}
use Rattle.s360_words.specs.declared.flags.TheConstants.UnitStatus.{CHANNEL_END, DEVICE_END}
use Rattle.s360_words.specs.declared.flags.UnitStatus.{UnitStatus}
use Rattle.s360_laws.specs.Endings.{Outcome, RunsOn}
use Rattle.s360_laws.specs.Status.{tells}
use Rattle.s360_laws.specs.Events.{Input}
use Rattle.s360_laws.specs.Machine.{Device, Machine, Subchannel, Idle, Working, run_of, address_of, device_at, Pending, after_all}
use Rattle.s360_laws.specs.declared.arm.Arm.{Arm}
use Rattle.s360_laws.specs.declared.arm.Arm.TheVariants.{AtRest, InMotion, Arrived}

-- a run that its script does not end
abbrev pub IsRunning : Option Outcome → Type 0
IsRunning None = ⊥
IsRunning (Some outcome) = RunsOn outcome

-- the device ends that a device owes for its arm
abbrev pub arm_owes : Arm → ℕ
arm_owes AtRest = 0
arm_owes InMotion = 1
arm_owes Arrived = 1

-- the device ends that a device owes
abbrev pub device_owes : Option Device → ℕ
device_owes None = 0
device_owes (Some d) = arm_owes d.arm

-- the device at an address
abbrev pub device_for : Machine → (address : ℕ) → Option Device
device_for m u = find (λ d. address_of m d.device == u) m.devices

-- how often the channel owes an end to an address: each end of a program that runs, and of one that ended what its CSW reports
abbrev pub channel_owes : (end : UnitStatus) → (address : ℕ) → Machine → Subchannel → ℕ
channel_owes end u m Idle = 0
channel_owes end u m (Working device script) = if address_of m device == u then 1 else 0
channel_owes end u m (Pending device csw) = if address_of m device == u && tells csw.unit end then 1 else 0

-- how often a machine owes channel end to an address
abbrev pub owes_channel_end : (address : ℕ) → Machine → ℕ
owes_channel_end u m = channel_owes CHANNEL_END u m m.subchannel

-- how often it owes device end, which its arm may owe too
abbrev pub owes_device_end : (address : ℕ) → Machine → ℕ
owes_device_end u m = channel_owes DEVICE_END u m m.subchannel + device_owes (device_for m u)

-- no two devices have one address
abbrev pub AreDistinct : List Device → Type 0
AreDistinct [] = Unit {0}
AreDistinct (d ∷ ds) = (find (λ other. other.device == d.device) ds ≡ None) × AreDistinct ds

-- A program that runs has not ended, and its device's arm is at rest. A CSW that pends has channel end; and either it has
-- the device end, or the arm owes it.
abbrev pub IsSoundIn : Machine → Subchannel → Type 0
IsSoundIn m Idle = Unit {0}
IsSoundIn m (Working device script) = IsRunning (run_of m device script) × (device_owes (device_at m device) ≡ 0)
IsSoundIn m (Pending device csw) =
    (tells csw.unit CHANNEL_END ≡ true)
    × ((if tells csw.unit DEVICE_END then 1 else 0) + device_owes (device_at m device) ≡ 1)

-- a sound machine: distinct addresses, and a subchannel that is sound in it
abbrev pub IsSound : Machine → Type 0
IsSound m = AreDistinct m.devices × IsSoundIn m m.subchannel

-- Every event keeps soundness, with or without a fault.
abbrev pub StaysSound : Type 0
StaysSound = (m : Machine) (es : List Input) → IsSound m → IsSound (after_all es m)

-- A machine with no program, whose devices have distinct addresses, is sound.
abbrev pub IdleIsSound : Type 0
IdleIsSound = (m : Machine) → m.subchannel ≡ Idle → AreDistinct m.devices → IsSound m

-- Device ends that arms owe: an arm that moves does so until it arrives; one that has arrived owes its device end until that is
-- stored; a reset takes both away.
use Rattle.std.specs.Prelude.{◌≡◌, ◌≤◌, ℕ, ◌/◌, List, [], ◌∷◌, Bool, true, false, ◌||◌, ◌==◌, Option, Some, None, option_map, if◌then◌else◌}
use Rattle.s360_words.specs.declared.flags.TheConstants.UnitStatus.{DEVICE_END}
use Rattle.s360_words.specs.declared.words.Csw.{Csw}
use Rattle.s360_laws.specs.Events.{Exchange, Arrive, HasArrived, Input, Interrupt, Interrupted, Hio, WithCode, FaultAfter}
use Rattle.s360_laws.specs.Ledger.{is_reset, stores_end}
use Rattle.s360_laws.specs.Machine.{Machine, Idle, Pending, address_of, after_all, csw_of_unit, device_at, exchanges, react}
use Rattle.s360_laws.specs.Soundness.{IsSound, arm_owes, device_for}
use Rattle.s360_laws.specs.declared.arm.Arm.{Arm}
use Rattle.s360_laws.specs.declared.arm.Arm.TheVariants.{AtRest, Arrived}
use Rattle.s360_laws.specs.declared.condition.ConditionCode.TheVariants.{Zero}

-- the arm at an address, if there is a device
abbrev pub arm_for : Machine → (address : ℕ) → Option Arm
arm_for m u = option_map (λ d. d.arm) (device_for m u)

-- whether an exchange is the arrival of this address
abbrev pub arrives : (address : ℕ) → Exchange → Bool
arrives u (Arrive a, x, HasArrived true) = a == u
arrives u _ = false

-- whether an exchange ends what an arm owes: its device end is stored, or a reset takes it away
abbrev pub ends_owing : (address : ℕ) → Exchange → Bool
ends_owing u t = is_reset t || stores_end DEVICE_END u t

-- what an exchange makes of an arm that owes a device end
abbrev pub arm_next : (address : ℕ) → Exchange → Arm → Arm
arm_next u t arm = if ends_owing u t then AtRest else (if arrives u t then Arrived else arm)

-- an arm that owes a device end is moved by an exchange as its answer says
abbrev pub ArmFollows : Type 0
ArmFollows = (m : Machine) (e : Input) (u : ℕ) (arm : Arm) → IsSound m → arm_for m u ≡ Some arm → arm_owes arm ≡ 1
    → arm_for (react e.0 e.1 m).1 u ≡ Some (arm_next u (e.0, e.1, (react e.0 e.1 m).0) arm)

-- Over lists of events: as long as it owes its device end an arm moves until it arrives, and stays so.
abbrev pub arm_along : (address : ℕ) → List Exchange → Arm → Option Arm
arm_along u [] arm = Some arm
arm_along u (t ∷ rest) arm = if ends_owing u t then None else arm_along u rest (arm_next u t arm)

-- an arm that owes a device end stays as the answers say, until it is stored or reset
abbrev pub ArmStays : Type 0
ArmStays = (m : Machine) (es : List Input) (u : ℕ) (arm arm_now : Arm) → IsSound m → arm_for m u ≡ Some arm
    → arm_owes arm ≡ 1
    → arm_along u (exchanges es m) arm ≡ Some arm_now → arm_for (after_all es m) u ≡ Some arm_now

-- Where nothing pends in the channel and no program runs the next interruption is that of the lowest device whose arm has
-- arrived.
pub record IsLowestArrived (m : Machine) (device : ℕ) : Type 0 where
  pub arrived : option_map (λ d. d.arm) (device_at m device) ≡ Some Arrived
  pub lowest : (other : ℕ) → option_map (λ d. d.arm) (device_at m other) ≡ Some Arrived → device ≤ other

-- where nothing pends and no program runs, the next interruption is that of the lowest device whose arm has arrived
abbrev pub ArrivedInterrupts : Type 0
ArrivedInterrupts = (m : Machine) (x : Option FaultAfter) (device : ℕ) → IsSound m → m.subchannel ≡ Idle
    → IsLowestArrived m device
    → (react Interrupt x m).0 ≡ Interrupted (Some (address_of m device, csw_of_unit DEVICE_END))

-- Halt I/O on a channel status word that pends changes nothing at all.
abbrev pub HaltOfPendingStays : Type 0
HaltOfPendingStays = (m : Machine) (a device : ℕ) (csw : Csw) (x : Option FaultAfter) → a / 256 ≡ m.channel
    → m.subchannel ≡ Pending device csw
    → react (Hio a) x m ≡ (WithCode Zero, m)

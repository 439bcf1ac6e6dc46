-- Which tracks a reset may report as not saved, and that without a fault no event reports one.
use Rattle.std.specs.Prelude.{◌≡◌, ℕ, true, Option, Some, None}
use Rattle.s360_words.specs.declared.words.Caw.{Caw}
use Rattle.s360_laws.specs.Runs.{start_point}
use Rattle.s360_laws.specs.Scripts.{Script}
use Rattle.s360_laws.specs.Units.{ProgramPhase, Between, walk, StandsIn}
use Rattle.s360_laws.specs.Unsaved.{GainsNoCheck, has_written}
use Rattle.s360_laws.specs.Events.{Answer, WasReset, Event, Reset, FaultAfter}
use Rattle.s360_laws.specs.History.{Runs}
use Rattle.s360_laws.specs.Machine.{Machine, Device, device_at, react, start_of, Working}

-- an answer reports no track as not saved
abbrev pub TellsNoTrack : Answer → Type 0
TellsNoTrack (WasReset unsaved) = unsaved ≡ None
TellsNoTrack answer = Unit {0}

-- no device's sense gains equipment check
abbrev pub NoneGainsCheck : (before after : Machine) → Type 0
NoneGainsCheck before after =
    (device : ℕ) (d e : Device) → device_at before device ≡ Some d → device_at after device ≡ Some e
    → GainsNoCheck d.drive e.drive

-- An event that comes with no fault reports no track as not saved, and no device's sense gains equipment check.
abbrev pub NoFaultNoneTold : Type 0
NoFaultNoneTold = (m : Machine) (e : Event) → Runs m m.subchannel →
    let r = react e None m in TellsNoTrack r.0 × NoneGainsCheck m r.1

-- the program that runs has written the track under the arm, and it is not saved since
pub record HadWritten (m : Machine) : Type 0 where
  pub device : ℕ
  pub script : Script
  pub worked : m.subchannel ≡ Working device script
  pub drive : Device
  pub is_there : device_at m device ≡ Some drive
  pub caw : Caw
  pub phase : ProgramPhase
  pub stands : walk script caw.key (Between (start_point caw (start_of m drive.drive))) ≡ StandsIn phase
  pub written : has_written phase ≡ true

-- A reset reports a track as not saved only where the program that it cuts had written it.
abbrev pub ResetTellsWritten : Type 0
ResetTellsWritten = (m : Machine) (x : Option FaultAfter) (track : ℕ × ℕ × ℕ)
    → (react Reset x m).0 ≡ WasReset (Some track) → HadWritten m

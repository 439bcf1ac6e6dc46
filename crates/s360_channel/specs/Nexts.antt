-- What the parts of a channel show after a call that makes no call of a store.
use Rattle.std.specs.Prelude.{◌≡◌, ℕ, ◌+◌, ◌*◌, List, map, Option, Some, None, slice_get, option_map}
use Rattle.s360_words.specs.Storage.{Storage, changed, csw_stored}
use Rattle.s360_words.specs.declared.words.Csw.{Csw}
use Rattle.ckd_drive.specs.Work.{DriveState}
use Rattle.s360_laws.specs.Scripts.{TakesInterruption}
use Rattle.s360_laws.specs.Units.{standing_in, phase_past}
use Rattle.s360_program.specs.Stands.{RunningState, Stands, phase_in}
use Rattle.s360_laws.specs.Events.{Answer}
use Rattle.s360_laws.specs.Machine as machine
use Rattle.s360_laws.specs.Machine.{Machine}
use Rattle.s360_laws.specs.Soundness.{AreDistinct}
use Rattle.s360_channel.specs.Channel.{ChannelState, Shows, machine_of}
use Rattle.attached_drives.specs.Drives.{AttachedState, AllRest, device_of}
use Rattle.s360_channel.specs.declared.subchannel.Subchannel.{Subchannel}
use Rattle.s360_channel.specs.declared.subchannel.Subchannel.TheVariants.{Idle}

-- The answer is the machine's, and the channel shows what it left.
pub record ShowsNext (r : Answer × Machine) (answer : Answer) (new : ChannelState) : Type 0 where
  pub answers : answer ≡ r.0
  pub shows : Shows new r.1 new.subchannel

-- a channel of these parts
abbrev pub of_parts : (number : ℕ) → Storage → Subchannel → List AttachedState → ChannelState
of_parts number s sub us = record { number = number; storage = s; subchannel = sub; drives = us }

-- the machine of an available channel
abbrev pub idle_machine : (number : ℕ) → Storage → List AttachedState → Machine
idle_machine number s us = machine_of (of_parts number s Idle us) machine.Idle

-- At an available channel of this number this is done.
abbrev pub DoesOn : (number : ℕ) → (Machine → Answer × Machine) → Answer → Storage → List AttachedState
    → (s' : Storage) (sub' : Subchannel) (us' : List AttachedState) → Type 0
DoesOn number next answer s us s' sub' us' = AllRest us → AreDistinct (map device_of us)
    → ShowsNext (next (idle_machine number s us)) answer (of_parts number s' sub' us')

-- This is done, whatever the number.
abbrev pub DoesIdle : (Machine → Answer × Machine) → Answer → Storage → List AttachedState
    → (s' : Storage) (sub' : Subchannel) (us' : List AttachedState) → Type 0
DoesIdle next answer s us s' sub' us' = (number : ℕ) → DoesOn number next answer s us s' sub' us'

-- This is done for the drive at a place.
abbrev pub DoesAt : (place : ℕ) → (AttachedState → Machine → Answer × Machine) → Answer → Storage → List AttachedState
    → (s' : Storage) (sub' : Subchannel) (us' : List AttachedState) → Type 0
DoesAt place next answer s us s' sub' us' =
    (attached : AttachedState) → slice_get us place ≡ Some attached → DoesIdle (next attached) answer s us s' sub' us'

-- storage after an interruption, if there was one
abbrev pub storage_told : Option (ℕ × Csw) → Storage → Storage
storage_told None s = s
storage_told (Some t) s = changed (csw_stored t.1) s

-- The interruption that a running program asked for is taken, if it asked for one: the address that interrupts and the
-- channel status word are reported, and the word is stored.
pub record TakesProgram (number device : ℕ) (answer : Option (ℕ × Csw)) (r r' : RunningState)
    (s s' : Storage) : Type 0 where
  pub told : (t : Storage) (d : DriveState)
      → answer ≡ option_map (λ csw. (256 * number + device, csw)) (standing_in r.key (phase_in r t d)).interruption
  pub storage : s' ≡ storage_told answer s
  pub taken : (t : Storage) (d : DriveState) → phase_in r' t d ≡ phase_past TakesInterruption (phase_in r t d)
  pub stands : (d : DriveState) → Stands r d → Stands r' d
  pub key : r'.key ≡ r.key

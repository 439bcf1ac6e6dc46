-- What the machine shows that a channel stands for while a program runs.
use Rattle.std.proofs.Common.{◌≡◌, ℕ, refl, ap, subst, ◌∙◌, cond, ◌==◌, List, map, Some}
use Rattle.std.proofs.lemmas.Bool.{eq-eqb}
use Rattle.std.specs.Prelude.{option_map}
use Rattle.s360_words.specs.Storage.{Storage}
use Rattle.s360_words.specs.declared.words.Ccw.{Ccw}
use Rattle.ckd_command.specs.Drive.{State}
use Rattle.ckd_command.specs.declared.begin.Opened.{Opened}
use Rattle.ckd_drive.specs.Work as work
use Rattle.s360_laws.specs.Endings.{NotEnded}
use Rattle.s360_laws.specs.Places.{Place}
use Rattle.s360_laws.specs.Runs.{run}
use Rattle.s360_laws.specs.Scripts.{Script}
use Rattle.s360_laws.specs.Units.{Between, Looking, Moving, ProgramPhase, standing_in}
use Rattle.s360_program.specs.Stands.{RunningState, phase_in, phase_by}
use Rattle.s360_program.specs.Stage.{Stage}
use Rattle.s360_program.specs.Stage as stage
use Rattle.s360_program.proofs.Ties.{seen}
use Rattle.s360_laws.specs.Machine as machine
use Rattle.s360_laws.specs.Machine.{Machine, device_at, run_of, start_of, storage_of}
use Rattle.s360_laws.specs.Soundness.{AreDistinct, IsSound}
use Rattle.s360_laws.proofs.FindDevices.{found_map, keeps_one, set_drive}
use Rattle.s360_channel.specs.Channel.{ChannelState, WorksFor}
use Rattle.attached_drives.specs.Drives.{device_of}
use Rattle.attached_drives.proofs.Places.{distinct_before, found_at}

-- The machine of a running program.

module _ (c : ChannelState) (place : ℕ) (r : RunningState) (m : Machine) (w : WorksFor c place r m) where
  pub subchannel_of : m.subchannel ≡ machine.Working w.attached.device w.script
  subchannel_of = ap (λ (m : Machine). m.subchannel) w.machine

  pub channel_of : m.channel ≡ c.number
  channel_of = ap (λ (m : Machine). m.channel) w.machine

  pub devices_of : m.devices ≡ map (λ d. cond (d.device == w.attached.device) (set_drive w.drive d) d) (map device_of c.drives)
  devices_of = ap (λ (m : Machine). m.devices) w.machine

  pub distinct_drives : IsSound m → AreDistinct (map device_of c.drives)
  distinct_drives sound = distinct_before _ (keeps_one w.attached.device (set_drive w.drive) (λ v. refl)) (map device_of c.drives)
      (subst AreDistinct devices_of sound.0)

  -- the device at its address has the arm of the drive, and the drive of the start
  pub device_there : IsSound m
      → device_at m w.attached.device ≡ Some (record { device = w.attached.device; arm = w.attached.arm; drive = w.drive })
  device_there sound = rw (
    devices_of,
    found_map (λ d. d == w.attached.device) (λ d. cond (d.device == w.attached.device)
        (set_drive w.drive d) d) (keeps_one w.attached.device (set_drive w.drive) (λ v. refl)) (map device_of c.drives),
    found_at c.drives place w.attached (distinct_drives sound) w.is_there,
    eq-eqb w.attached.device w.attached.device refl,
  ) refl

  pub run_at : IsSound m → (script : Script) → run_of m w.attached.device script ≡ Some (run script (start_of m w.drive))
  run_at sound script = ap (option_map (λ d. run script (start_of m d.drive))) (device_there sound)

  pub seen_there : IsSound m → run_of m w.attached.device w.script
      ≡ Some (NotEnded (standing_in r.key (phase_in r c.storage w.attached.drive)))
  seen_there sound = run_at sound w.script ∙ ap Some (seen (start_of m w.drive) w.script r c.storage w.attached.drive w.runs)

-- What is so of each phase with this place, this storage and this state of the drive.
pub record HoldsByPhase (P : ProgramPhase → Type 0) (p : Place) (s : Storage) (d : State) : Type 0 where
  pub between : P (Between (record { storage = s; place = p; state = d }))
  pub looking : (o : Opened) (ccw : Ccw) → P (Looking (record { opened = o; state = d }) (record { storage = s; ccw = ccw; place = p }))
  pub moving : (o : Opened) (ccw : Ccw) (at : ℕ) (bytes : List ℕ)
      → P (Moving (record { opened = o; state = d }) (record { storage = s; ccw = ccw; place = p; address = at; bytes = bytes }))

-- It is so of the one in which a running program stands.
pub by_phase : (P : ProgramPhase → Type 0) (g : Stage) (p : Place) (s : Storage) (d : State) (w : work.Work) → HoldsByPhase P p s d
    → P (phase_by g p s d w)
by_phase P stage.Between p s d w h = h.between
by_phase P (stage.Looking ccw) p s d work.Idle h = h.between
by_phase P (stage.Looking ccw) p s d (work.Over e) h = h.between
by_phase P (stage.Looking ccw) p s d (work.Looking o) h = h.looking o ccw
by_phase P (stage.Looking ccw) p s d (work.Passing o b left) h = h.between
by_phase P (stage.Moving ccw a) p s d work.Idle h = h.between
by_phase P (stage.Moving ccw a) p s d (work.Over e) h = h.between
by_phase P (stage.Moving ccw a) p s d (work.Looking o) h = h.between
by_phase P (stage.Moving ccw a) p s d (work.Passing o b left) h = h.moving o ccw a b

-- what is seen of storage in a phase is storage
pub storage_seen : (key : ℕ) (g : Stage) (p : Place) (s : Storage) (d : State) (w : work.Work)
    → (standing_in key (phase_by g p s d w)).storage ≡ s
storage_seen key g p s d w = by_phase (λ f. (standing_in key f).storage ≡ s) g p s d w (record {
  between = refl;
  looking = λ o ccw. refl;
  moving = λ o ccw at bytes. refl;
})

pub storage_there : (c : ChannelState) (place : ℕ) (r : RunningState) (m : Machine) → WorksFor c place r m → IsSound m
    → storage_of m m.subchannel ≡ c.storage
storage_there c place r m w sound =
    ap (storage_of m) (subchannel_of c place r m w) ∙ ap (machine.storage_after m) (seen_there c place r m w sound)
    ∙ storage_seen r.key r.stage r.place c.storage w.attached.drive.state w.attached.drive.work

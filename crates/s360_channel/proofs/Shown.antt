-- What a channel shows of itself, of its drives and of the program that runs is what the machine has that it stands for.
use Rattle.std.proofs.Common.{◌≡◌, ◌<◌, ℕ, refl, sym, ap, subst, ◌∙◌, true, false, Bool, cond, ◌==◌, List, [], ◌∷◌}
use Rattle.std.proofs.Common.{map, length, Option, Some, None}
use Rattle.std.proofs.lemmas.Bool.{eqb-true, eqb-false}
use Rattle.std.proofs.lemmas.List.{length-map}
use Rattle.std.proofs.lemmas.Option.{slice_get_within}
use Rattle.std.specs.Prelude.{is_some, option_map, slice_get, find, filter, position}
use Rattle.s360_words.specs.declared.words.Csw.{Csw}
use Rattle.s360_words.specs.Storage.{Storage}
use Rattle.ckd_image.specs.Image.{ImageState}
use Rattle.ckd_command.specs.Drive.{IdleDrive, is_written, State}
use Rattle.ckd_drive.specs.Work.{DriveState, is_idle, Work, command_of, passed_of}
use Rattle.ckd_drive.specs.Work as work
use Rattle.s360_laws.specs.Places.{Place}
use Rattle.s360_laws.specs.Units.{standing_in, state_in}
use Rattle.s360_program.specs.Advances.{Rests}
use Rattle.s360_program.specs.declared.view.ProgramView.{ProgramView}
use Rattle.s360_program.specs.Seen.{seen_in}
use Rattle.s360_program.specs.Stage.{Stage}
use Rattle.s360_program.specs.Stage as stage
use Rattle.s360_program.specs.Stands.{RunningState, phase_in, Stands, StageFits, phase_by}
use Rattle.s360_laws.specs.declared.arm.Arm.{Arm}
use Rattle.s360_laws.specs.Machine.{Machine, Device, asked_by, device_at, has_arrived, interrupt, interrupt_device, interrupt_program}
use Rattle.s360_laws.specs.Machine.{lowest}
use Rattle.s360_laws.specs.Soundness.{IsSound}
use Rattle.s360_laws.proofs.FindDevices.{set_drive, Has, different, has_found}
use Rattle.s360_channel.specs.Channel.{ChannelState, Shows, StandsFor, WorksFor}
use Rattle.attached_drives.specs.Drives.{AttachedState, device_of, is_at}
use Rattle.s360_channel.specs.declared.subchannel.Subchannel.{Subchannel}
use Rattle.s360_channel.specs.declared.subchannel.Subchannel.TheVariants.{Idle, Working, Pending}
use Rattle.s360_channel.specs.declared.subchannel.Subchannel.TheVariants as code
use Rattle.attached_drives.specs.declared.view.DriveView.{DriveView}
use Rattle.s360_channel.specs.declared.view.SubchannelView.{SubchannelView}
use Rattle.s360_channel.specs.declared.view.SubchannelView.TheVariants as shown
use Rattle.s360_channel.specs.declared.view.View.{View}
use Rattle.s360_channel.specs.Packs.{runs_at, volume_in}
use Rattle.s360_channel.specs.Views.{subchannel_seen, view_of, ShowsDrive, ShowsVolume, interrupts}
use Rattle.attached_drives.specs.Shown.{drives_seen, drive_seen}
use Rattle.s360_channel.specs.Views.{is_interruption, attached_in, attached_with}
use Rattle.s360_channel.specs.Watched.{StandsInPhase, SeesProgram, SeesDrive, command_in, moved_in}
use Rattle.s360_channel.proofs.Changing.{volume_given}
use Rattle.attached_drives.proofs.Places.{inside, devices, found_by, none_found}
use Rattle.s360_channel.proofs.Removing.{IsAttached, rests_there, same_runs, working_device}
use Rattle.s360_channel.proofs.Works.{seen_there, subchannel_of, devices_of, by_phase, device_there}

-- What a channel shows of itself is what the machine shows that it stands for.

-- The subchannel.

pub idle_shown : (c : ChannelState) (m : Machine) → StandsFor c m → c.subchannel ≡ code.Idle → shown.Idle ≡ subchannel_seen m m.subchannel
idle_shown c m h e = let k = subst (Shows c m) e h.shows in ap (λ (m : Machine). subchannel_seen m m.subchannel) (sym k.0)

pub pending_shown : (c : ChannelState) (m : Machine) (device : ℕ) (csw : Csw) → StandsFor c m → c.subchannel ≡ code.Pending device csw
    → shown.Pending device csw ≡ subchannel_seen m m.subchannel
pending_shown c m device csw h e = let k = subst (Shows c m) e h.shows in ap (λ (m : Machine). subchannel_seen m m.subchannel) (sym k.0)

-- by all that the answer clause of the code has at hand, a premise each
pub working_shown : (c : ChannelState) (m : Machine) (place : ℕ) (r : RunningState) (device : ℕ) (asked : Bool) → (h : StandsFor c m)
    → c.subchannel ≡ code.Working place r
    → Some device ≡ option_map (λ u. u.device) (slice_get c.drives place)
    → ((w : WorksFor c place r m) → asked ≡ is_some (standing_in r.key (phase_in r c.storage w.attached.drive)).interruption)
    → shown.Working device asked ≡ subchannel_seen m m.subchannel
working_shown c m place r device asked h e at told =
    ap (λ d. shown.Working d asked) (inside _ _ (at ∙ ap (option_map (λ u. u.device)) w.is_there))
    ∙ ap (shown.Working w.attached.device) (told w ∙ ap (λ o. is_some (asked_by o)) (sym (seen_there c place r m w h.sound)))
    ∙ ap (subchannel_seen m) (sym (subchannel_of c place r m w))
  where
    w : WorksFor c place r m
    w = subst (Shows c m) e h.shows

-- The drives: a change of a drive is not seen.

abbrev one : Device → Option (ℕ × Arm)
one d = Some (d.device, d.arm)

same_seen : (device : ℕ) (drive : IdleDrive) (ds : List Device) → map one (map (λ d. cond (d.device == device) (set_drive drive d) d) ds)
    ≡ map one ds
same_seen device drive [] = refl
same_seen device drive (d ∷ ds) = rw (go (d.device == device), same_seen device drive ds) refl
  where
    go : (b : Bool) → one (cond b (set_drive drive d) d) ≡ one d
    go true = refl
    go false = refl

pub drives_shown : (c : ChannelState) (m : Machine) → StandsFor c m → drives_seen (map device_of c.drives) ≡ drives_seen m.devices
drives_shown c m h = go c.subchannel h.shows
  where
    go : (s : Subchannel) → Shows c m s → drives_seen (map device_of c.drives) ≡ drives_seen m.devices
    go code.Idle k = rw k.0 refl
    go (code.Pending device csw) k = rw k.0 refl
    go (code.Working place r) w = sym (rw (
      devices_of c place r m w,
      same_seen w.attached.device w.drive (map device_of c.drives),
      length-map,
    ) refl)

pub view_from : (c : ChannelState) (m : Machine) → StandsFor c m → (s : SubchannelView) (drives : List (Option (ℕ × Arm)))
    → s ≡ subchannel_seen m m.subchannel → drives ≡ drives_seen (map device_of c.drives)
    → ◌≡◌ {A = View} (record { subchannel = s; drives = drives }) (view_of m)
view_from c m h s drives e f = rw (e, f, drives_shown c m h) refl

-- the place of the drive that works
pub place_there : (c : ChannelState) (m : Machine) (place : ℕ) (r : RunningState) → StandsFor c m → c.subchannel ≡ code.Working place r
    → place < length c.drives
place_there c m place r h e = let w = subst (Shows c m) e h.shows in slice_get_within c.drives place w.attached w.is_there

-- The places of the drives.

-- What is shown of a drive is what the machine has of it.

-- Drives.

pub device_with : (device : ℕ) (us : List AttachedState) → option_map device_of (attached_with device us) ≡ find (λ d. d.device ==
    device) (devices us)
device_with device us = go (position (is_at device) us) refl
  where
    go : (x : Option ℕ) → position (is_at device) us ≡ x → option_map device_of (attached_in x us) ≡ find (λ d. d.device ==
        device) (devices us)
    go None h = sym (none_found device us h)
    go (Some place) h = let f = found_by device us place h in rw (f.is_there, f.found) refl

-- a device whose program does not run is the drive with its address
pub device_is : (c : ChannelState) (m : Machine) (device : ℕ) → StandsFor c m → runs_at device m.subchannel ≡ false
    → device_at m device ≡ option_map device_of (attached_with device c.drives)
device_is c m device s off = go c.subchannel s.shows
  where
    through : (n : ℕ) (g : Device → Device) (x : Option Device) → Has (λ d. d.device == device) x → (n == device) ≡ false
        → option_map (λ d. cond (d.device == n) (g d) d) x ≡ x
    through n g None h o = refl
    through n g (Some d) h o = rw (different d.device n (λ e. eqb-false n device o (sym e ∙ eqb-true d.device device h))) refl

    go : (x : Subchannel) → Shows c m x → device_at m device ≡ option_map device_of (attached_with device c.drives)
    go Idle h = rw (h.0, device_with device c.drives) refl
    go (Pending d csw) h = rw (h.0, device_with device c.drives) refl
    go (Working p r) w =
        working_device c p r m w device
        ∙ through w.attached.device (set_drive w.drive) (find (λ d. d.device == device) (devices c.drives)) (has_found (λ d. d.device ==
        device) (devices c.drives)) (sym (ap (runs_at device) (subchannel_of c p r m w)) ∙ off)
        ∙ sym (device_with device c.drives)

pub shows_drive : (c : ChannelState) (m : Machine) (device : ℕ) (seen : Option DriveView)
    → seen ≡ option_map (λ u. drive_seen (device_of u)) (attached_with device c.drives) → StandsFor c m → ShowsDrive device m seen
shows_drive c m device seen e s off = e ∙ (both (attached_with device c.drives)
    ∙ ap (option_map drive_seen) (sym (device_is c m device s off)))
  where
    both : (x : Option AttachedState) → option_map (λ u. drive_seen (device_of u)) x ≡ option_map drive_seen (option_map device_of x)
    both None = refl
    both (Some u) = refl

-- the image of a drive holds its volume
pub shows_volume : (c : ChannelState) (m : Machine) (device : ℕ) (image : Option ImageState) → StandsFor c m
    → (runs_at device m.subchannel ≡ false → option_map volume_in image ≡ option_map (λ (u : AttachedState). u.drive.state.volume)
    (attached_with device c.drives)) → ShowsVolume device m image
shows_volume c m device image s e off = e off ∙ (both (attached_with device c.drives) ∙ ap (option_map (λ (d : Device). d.drive.volume))
    (sym (device_is c m device s off)))
  where
    both : (x : Option AttachedState) → option_map (λ (u : AttachedState). u.drive.state.volume) x
        ≡ option_map (λ (d : Device). d.drive.volume) (option_map device_of x)
    both None = refl
    both (Some u) = refl

-- the volume that is lent; by all that the answer clause of the code has at hand, a premise each
pub lends_volume : (c : ChannelState) (m : Machine) (device place : ℕ) (d : DriveState) (image : ImageState) → StandsFor c m
    → position (is_at device) c.drives ≡ Some place
    → Some d ≡ option_map (λ (u : AttachedState). u.drive) (slice_get c.drives place) → image ≡ d.image
    → d.image.geometry ≡ d.state.volume.geometry
    → (is_idle d.work ≡ true → is_written d.state ≡ false → d.image.slots ≡ d.state.volume.slots) → ShowsVolume device m (Some image)
lends_volume c m device place d image s h e same geometry slots =
    let f = found_by device c.drives place h in
    let attached : IsAttached device place c.drives f.attached = record { is_there = f.is_there; same_device = f.same_device } in
    let is : d ≡ f.attached.drive = inside d f.attached.drive (e ∙ ap (option_map (λ (u : AttachedState). u.drive)) f.is_there) in
    shows_volume c m device (Some image) s (λ off.
    let rests = subst Rests (sym is) (rests_there c m s device place f.attached attached
    (sym (same_runs c m s device place f.attached attached) ∙ off)) in
    rw (h, f.is_there, volume_given d image same geometry (slots rests.idle rests.unwritten), is) refl)

-- Interruptions.

interrupts_device : (m : Machine) (x : Option ℕ) → is_interruption (interrupt_device m x).0 ≡ is_some x
interrupts_device m None = refl
interrupts_device m (Some d) = refl

interrupts_program : (device : ℕ) (script : _) (m : Machine) (x : _) → is_interruption (interrupt_program device script m x).0 ≡ is_some x
interrupts_program device script m None = refl
interrupts_program device script m (Some csw) = refl

pub idle_interrupts : (c : ChannelState) (m : Machine) → StandsFor c m → c.subchannel ≡ Idle
    → is_some (lowest (filter has_arrived (devices c.drives))) ≡ interrupts m
idle_interrupts c m s e = let h = subst (Shows c m) e s.shows in
    sym (ap interrupts h.0 ∙ interrupts_device _ (lowest (filter has_arrived (devices c.drives))))

pub pending_interrupts : (c : ChannelState) (m : Machine) (device : ℕ) (csw : _) → StandsFor c m → c.subchannel ≡ Pending device csw
    → true ≡ interrupts m
pending_interrupts c m device csw s e = let h = subst (Shows c m) e s.shows in sym (ap interrupts h.0)

pub working_interrupts : (c : ChannelState) (m : Machine) (place : ℕ) (r : RunningState) (asked : Bool) → StandsFor c m
    → c.subchannel ≡ Working place r
    → ((w : WorksFor c place r m) → asked ≡ is_some (standing_in r.key (phase_in r c.storage w.attached.drive)).interruption)
    → asked ≡ interrupts m
working_interrupts c m place r asked s e told =
    let w = subst (Shows c m) e s.shows in
    told w ∙ sym (ap (λ x. is_interruption (interrupt m x).0) (subchannel_of c place r m w)
    ∙ rw (interrupts_program, seen_there c place r m w s.sound) refl)

-- What is seen of a program that runs is read off its run.

-- The drive's state is that of the phase, and so are its command, and the bytes that have passed in that.

state_there : (g : Stage) (p : Place) (s : Storage) (d : State) (w : Work) → d ≡ state_in (phase_by g p s d w)
state_there g p s d w = by_phase (λ f. d ≡ state_in f) g p s d w (record {
  between = refl;
  looking = λ o ccw. refl;
  moving = λ o ccw at bytes. refl;
})

work_there : (g : Stage) (p : Place) (s : Storage) (d : State) (w : Work) → StageFits g d w
    → (command_of w ≡ command_in (phase_by g p s d w)) × (passed_of w ≡ moved_in (phase_by g p s d w))
work_there stage.Between p s d work.Idle h = (refl, refl)
work_there stage.Between p s d (work.Over e) h = absurd h
work_there stage.Between p s d (work.Looking o) h = absurd h
work_there stage.Between p s d (work.Passing o b left) h = absurd h
work_there (stage.Looking ccw) p s d work.Idle h = absurd h
work_there (stage.Looking ccw) p s d (work.Over e) h = absurd h
work_there (stage.Looking ccw) p s d (work.Looking o) h = (refl, refl)
work_there (stage.Looking ccw) p s d (work.Passing o b left) h = absurd h
work_there (stage.Moving ccw a) p s d work.Idle h = absurd h
work_there (stage.Moving ccw a) p s d (work.Over e) h = absurd h
work_there (stage.Moving ccw a) p s d (work.Looking o) h = absurd h
work_there (stage.Moving ccw a) p s d (work.Passing o b left) h = (refl, refl)

-- the phase in which a program stands that works for a machine
pub phase_there : (c : ChannelState) (place : ℕ) (r : RunningState) (m : Machine) (w : WorksFor c place r m) → IsSound m
    → StandsInPhase m w.attached.device r.key (phase_in r c.storage w.attached.drive)
phase_there c place r m w sound = record {
  script = w.script;
  working = subchannel_of c place r m w;
  at = record { device = w.attached.device; arm = w.attached.arm; drive = w.drive };
  is_there = device_there c place r m w sound;
  stands = w.runs.run;
}

-- by all that the answer clause of the code has at hand, a premise each
pub sees_program : (c : ChannelState) (m : Machine) (place : ℕ) (r : RunningState) (device : ℕ) (seen : ProgramView) → StandsFor c m
    → c.subchannel ≡ code.Working place r
    → Some device ≡ option_map (λ u. u.device) (slice_get c.drives place)
    → ((s : Storage) (d : DriveState) → Stands r d → seen ≡ seen_in r.key (phase_in r s d))
    → SeesProgram m (record { device = device; program = seen })
sees_program c m place r device seen h e at told = record {
  key = r.key;
  phase = phase_in r c.storage w.attached.drive;
  stands = subst (λ n. StandsInPhase m n r.key (phase_in r c.storage w.attached.drive))
      (sym (inside _ _ (at ∙ ap (option_map (λ u. u.device)) w.is_there))) (phase_there c place r m w h.sound);
  program = told c.storage w.attached.drive w.runs.together;
}
  where
    w : WorksFor c place r m
    w = subst (Shows c m) e h.shows

pub sees_drive : (c : ChannelState) (m : Machine) (place : ℕ) (r : RunningState) (d : DriveState) → StandsFor c m
    → c.subchannel ≡ code.Working place r
    → Some d ≡ option_map (λ u. u.drive) (slice_get c.drives place) → SeesDrive m d
sees_drive c m place r d h e at = subst (SeesDrive m) (sym (inside _ _ (at ∙ ap (option_map (λ u. u.drive)) w.is_there))) (record {
  device = w.attached.device;
  key = r.key;
  phase = phase_in r c.storage w.attached.drive;
  stands = phase_there c place r m w h.sound;
  state = state_there r.stage r.place c.storage w.attached.drive.state w.attached.drive.work;
  command = (work_there r.stage r.place c.storage w.attached.drive.state w.attached.drive.work w.runs.together.fits).0;
  moved = (work_there r.stage r.place c.storage w.attached.drive.state w.attached.drive.work w.runs.together.fits).1;
})
  where
    w : WorksFor c place r m
    w = subst (Shows c m) e h.shows

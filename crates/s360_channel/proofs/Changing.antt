-- Drives that change between two units, and the devices of the machine, which change with them: arms, and a drive more.
use Rattle.std.proofs.Common.{◌≡◌, ℕ, ◌+◌, [], ◌∷◌, refl, sym, ap, ◌∙◌, subst, true, false, Bool, cond, ◌==◌, List, map, Some, Option, zero}
use Rattle.std.proofs.Common.{suc, ◌≤◌, ◌<◌, arith, ◌++◌, length, None}
use Rattle.std.proofs.lemmas.Bool.{eqb-true, eqb-false}
use Rattle.std.proofs.lemmas.List.{map-id, map-append, length_push}
use Rattle.std.proofs.lemmas.List.Folds.{find-append}
use Rattle.std.specs.Option.{option_or}
use Rattle.std.specs.Prelude.{find, option_map, slice_get, slice_set, is_some, position}
use Rattle.s360_words.specs.declared.flags.TheConstants.UnitStatus.{DEVICE_END}
use Rattle.ckd_image.specs.Image.{ImageState}
use Rattle.ckd_command.specs.Drive.{IdleDrive}
use Rattle.ckd_drive.specs.Work.{DriveState}
use Rattle.s360_laws.specs.Runs.{run}
use Rattle.s360_laws.specs.Status.{tells}
use Rattle.s360_program.specs.Advances.{Rests}
use Rattle.s360_program.specs.Laws.{StandsAtRun}
use Rattle.s360_program.specs.Stands.{RunningState}
use Rattle.s360_laws.specs.declared.arm.Arm.{Arm}
use Rattle.s360_laws.specs.Machine.{Device, Machine, run_of, start_of, device_at, with_arm}
use Rattle.s360_laws.specs.Machine as machine
use Rattle.s360_laws.specs.Soundness.{AreDistinct, IsRunning, IsSound, IsSoundIn, device_owes}
use Rattle.s360_laws.proofs.FindDevices.{Keeps, set_drive, found_map, keeps_one, set_arm, different}
use Rattle.s360_channel.specs.Attaches.{NotRefused}
use Rattle.s360_channel.specs.Channel.{ChannelState, WorksFor, machine_of, Shows, StandsFor, attached}
use Rattle.attached_drives.specs.Drives.{AllRest, AttachedState, OthersRest, device_of, is_at, new_attached}
use Rattle.s360_channel.specs.declared.subchannel.Subchannel.{Subchannel}
use Rattle.s360_channel.specs.declared.subchannel.Subchannel.TheVariants.{Idle, Working, Pending}
use Rattle.s360_channel.specs.Packs.{pends_for, runs_at, volume_in}
use Rattle.attached_drives.proofs.Places.{changes, devices, all_set, devices_set, distinct_before, get_other, get_set, inside, others_put}
use Rattle.attached_drives.proofs.Places.{rests_at, all_push, false_is_true, is_found, none_found, none_is_some, others_push, same_number}

-- Drives that change between two units, and the devices of the machine, which change with them.

-- what an image holds that has the volume of its drive
pub volume_given : (d : DriveState) (image : ImageState) → image ≡ d.image → d.image.geometry ≡ d.state.volume.geometry
    → d.image.slots ≡ d.state.volume.slots → volume_in image ≡ d.state.volume
volume_given d image same geometry slots = rw (same, geometry, slots) refl

-- A machine whose devices change stays sound, where they are still distinct and all but one are found as they were, whose program
-- doesn't run; where that one's channel status word pends, its arm owes what it owed.
pub sound_with : (m : Machine) (device : ℕ) (ds : List Device) → AreDistinct ds → ((n : ℕ) → (n == device) ≡ false
    → find (λ d. d.device == n) ds ≡ find (λ d. d.device == n) m.devices)
    → runs_at device m.subchannel ≡ false → (pends_for device m.subchannel ≡ true → device_owes (find (λ d. d.device == device) ds)
    ≡ device_owes (find (λ d. d.device == device) m.devices))
    → IsSound m → IsSound (record m { devices = ds })
sound_with m device ds distinct same off owes s = (distinct, go m.subchannel off owes s.1)
  where
    go : (x : machine.Subchannel) → runs_at device x ≡ false → (pends_for device x ≡ true → device_owes (find (λ d. d.device == device) ds)
        ≡ device_owes (find (λ d. d.device == device) m.devices))
        → IsSoundIn m x → IsSoundIn (record m { devices = ds }) x
    go machine.Idle a b h = tt
    go (machine.Working d script) a b h = (
      subst (λ x. IsRunning (option_map (λ (d : Device). run script (start_of m d.drive)) x)) (sym (same d a)) h.0,
      ap device_owes (same d a) ∙ h.1,
    )
    go (machine.Pending d csw) a b h = (h.0, ap (λ n. cond (tells csw.unit DEVICE_END) 1 0 + n) (owed (d == device) refl) ∙ h.1)
      where
        owed : (x : Bool) → (d == device) ≡ x → device_owes (find (λ o. o.device == d) ds) ≡ device_owes (find (λ o. o.device ==
            d) m.devices)
        owed true e = rw (eqb-true d device e) (b e)
        owed false e = ap device_owes (same d e)

-- changes of different devices, or of different parts of one, come to the same in either order
pub changes_apart : (a b : ℕ) (f g : Device → Device) → Keeps f → Keeps g → (a ≡ b → (d : Device) → f (g d) ≡ g (f d)) → (ds : List Device)
    → map (changes a f) (map (changes b g) ds) ≡ map (changes b g) (map (changes a f) ds)
changes_apart a b f g k l h [] = refl
changes_apart a b f g k l h (d ∷ ds) = rw (go (d.device == a) (d.device == b) refl refl, changes_apart a b f g k l h ds) refl
  where
    go : (x y : Bool) → (d.device == a) ≡ x → (d.device == b) ≡ y → changes a f (cond y (g d) d) ≡ changes b g (cond x (f d) d)
    go true true e i =
        ap (λ b. cond b (f (g d)) (g d)) (ap (λ n. n == a) (l d) ∙ e) ∙ (h (sym (eqb-true d.device a e) ∙ eqb-true d.device b i) d
        ∙ sym (ap (λ b. cond b (g (f d)) (f d)) (ap (λ n. n == b) (k d) ∙ i)))
    go true false e i = rw (k d, e, i) refl
    go false true e i = rw (l d, e, i) refl
    go false false e i = rw (e, i) refl

-- where the drive of a program that runs is then: its place and its arm may be others, and all else of it stays
pub record StillAt (place : ℕ) (us : List AttachedState) (w : AttachedState) : Type 0 where
  pub attached : AttachedState
  pub is_there : slice_get us place ≡ Some attached
  pub same_device : attached.device ≡ w.device
  pub same_drive : attached.drive ≡ w.drive
  pub others : OthersRest place us

module _ (c : ChannelState) (m : Machine) (us : List AttachedState) (change : List Device → List Device) (now : devices us
    ≡ change (devices c.drives)) where
  -- while no program runs
  pub rests_changed : (s : machine.Subchannel) → m ≡ machine_of c s → AllRest us
      → (record m { devices = change m.devices } ≡ machine_of (record c { drives = us }) s) × AllRest us
  rests_changed s h r = (rw (h, now) refl, r)

  -- and while one does, whose start the change doesn't concern
  pub works_changed : (sub : Subchannel) (p q : ℕ) (r : RunningState) (w : WorksFor c p r m) → StillAt q us w.attached
      → change (map (changes w.attached.device (set_drive w.drive)) (devices c.drives))
      ≡ map (changes w.attached.device (set_drive w.drive)) (change (devices c.drives))
      → WorksFor (record c { subchannel = sub; drives = us }) q r (record m { devices = change m.devices })
  works_changed sub p q r w k apart = record {
    attached = k.attached;
    is_there = k.is_there;
    storage = w.storage;
    drive = w.drive;
    script = w.script;
    machine = ap (λ (m : Machine). record m { devices = change m.devices }) w.machine ∙ rw (apart, now, k.same_device) refl;
    runs = subst (StandsAtRun (start_of m w.drive) w.script r c.storage) (sym k.same_drive) w.runs;
    others = k.others;
  }

-- Arms that change, while the channel is in any state.

-- What the machine has of the drives.

-- the machine's devices are the drives, but for one that works, which is that of its start
pub record SeenBy (c : ChannelState) (m : Machine) : Type 0 where
  pub through : Device → Device
  pub keeps : Keeps through
  pub arm : (d : Device) → (through d).arm ≡ d.arm
  pub devices : m.devices ≡ map through (map device_of c.drives)
  pub channel : m.channel ≡ c.number

same_arm : (b : Bool) (d : Device) (drive : IdleDrive) → (cond b (set_drive drive d) d).arm ≡ d.arm
same_arm true d drive = refl
same_arm false d drive = refl

seen_calm : (c : ChannelState) (m : Machine) (s : machine.Subchannel) → m ≡ machine_of c s → SeenBy c m
seen_calm c m s h = record {
  through = λ d. d;
  keeps = λ d. refl;
  arm = λ d. refl;
  devices = ap (λ (m : Machine). m.devices) h ∙ sym (map-id (map device_of c.drives));
  channel = ap (λ (m : Machine). m.channel) h;
}

pub seen_by : (c : ChannelState) (m : Machine) (sub : Subchannel) → Shows c m sub → SeenBy c m
seen_by c m Idle h = seen_calm c m machine.Idle h.0
seen_by c m (Pending device csw) h = seen_calm c m (machine.Pending device csw) h.0
seen_by c m (Working place r) w = record {
  through = changes w.attached.device (set_drive w.drive);
  keeps = keeps_one w.attached.device (set_drive w.drive) (λ d. refl);
  arm = λ d. same_arm (d.device == w.attached.device) d w.drive;
  devices = ap (λ (m : Machine). m.devices) w.machine;
  channel = ap (λ (m : Machine). m.channel) w.machine;
}

pub distinct_drives : (c : ChannelState) (m : Machine) → SeenBy c m → IsSound m → AreDistinct (map device_of c.drives)
distinct_drives c m b sound = distinct_before b.through b.keeps (map device_of c.drives) (subst AreDistinct b.devices sound.0)

-- the device at an address is the drive's there
pub device_seen : (c : ChannelState) (m : Machine) (b : SeenBy c m) (device : ℕ) (x : Option Device)
    → find (λ d. d.device == device) (map device_of c.drives) ≡ x → device_at m device ≡ option_map b.through x
device_seen c m b device x h = rw (b.devices, found_map (λ d. d == device) b.through b.keeps (map device_of c.drives), h) refl

-- The arm of a drive.

-- the drive of a program that runs is where it was, also where its own arm changes
still_armed : (us : List AttachedState) (place p : ℕ) (u w : AttachedState) (arm : Arm) → slice_get us place ≡ Some u
    → slice_get us p ≡ Some w → OthersRest p us → StillAt p (slice_set us place (record u { arm = arm })) w
still_armed us place p u w arm h k r = go (p == place) refl
  where
    others : OthersRest p (slice_set us place (record u { arm = arm }))
    others = others_put us place p u (record u { arm = arm }) h (λ n r. r) r

    go : (b : Bool) → (p == place) ≡ b → StillAt p (slice_set us place (record u { arm = arm })) w
    go true e =
        let is = eqb-true p place e in
        let same : u ≡ w = inside u w (sym h ∙ (ap (slice_get us) (sym is) ∙ k)) in record {
          attached = record u { arm = arm };
          is_there = rw is (get_set us place u (record u { arm = arm }) h);
          same_device = rw same refl;
          same_drive = rw same refl;
          others = others;
        }
    go false e = record {
      attached = w;
      is_there = get_other us place p (record u { arm = arm }) (eqb-false p place e) ∙ k;
      same_device = refl;
      same_drive = refl;
      others = others;
    }

abbrev pub armed : (c : ChannelState) (place : ℕ) (u : AttachedState) → Arm → ChannelState
armed c place u arm = record c { drives = slice_set c.drives place (record u { arm = arm }) }

-- The arm of the drive at a place does something else from now on, and so does that of the machine's device.
module _ (c : ChannelState) (m : Machine) (place : ℕ) (u : AttachedState) (arm : Arm) (distinct : AreDistinct (devices c.drives))
    (there : slice_get c.drives place ≡ Some u) where
  abbrev drives_then : List AttachedState
  drives_then = slice_set c.drives place (record u { arm = arm })

  abbrev change : List Device → List Device
  change = map (changes u.device (set_arm arm))

  now : devices drives_then ≡ change (devices c.drives)
  now = devices_set c.drives place u (record u { arm = arm }) (set_arm arm) distinct there refl

  pub shows_armed : (sub : Subchannel) → Shows c m sub → Shows (armed c place u arm) (with_arm arm u.device m) sub
  shows_armed Idle h = rests_changed c m drives_then change now machine.Idle h.0 (all_set _ place _ h.1 (rests_at _ place u h.1 there))
  shows_armed (Pending device csw) h = rests_changed c m drives_then change now _ h.0 (all_set _ place _ h.1 (rests_at _ place u h.1 there))
  shows_armed (Working p r) w = works_changed c m drives_then change now c.subchannel p p r w
      (still_armed c.drives place p u w.attached arm there w.is_there w.others)
      (changes_apart u.device w.attached.device (set_arm arm) (set_drive w.drive) (λ d. refl) (λ d. refl) (λ e d. refl) (devices c.drives))

-- A channel with one drive more.

abbrev new_device : ℕ → ImageState → Device
new_device device image = device_of (new_attached device image)

pub new_rests : (device : ℕ) (image : ImageState) → Rests (new_attached device image).drive
new_rests device image = record { idle = refl; unwritten = refl }

-- Lists of devices.

-- another device is found as it was
found_other : (n : ℕ) (ds : List Device) (d : Device) → (n == d.device) ≡ false → find (λ o. o.device == n) (ds ++ d ∷ [])
    ≡ find (λ o. o.device == n) ds
found_other n ds d e = find-append (λ o. o.device == n) ds (d ∷ []) ∙ go (find (λ o. o.device == n) ds)
  where
    go : (x : Option Device) → option_or x (cond (d.device == n) (Some d) None) ≡ x
    go None = ap (λ b. cond b (Some d) None) (different d.device n (λ same. eqb-false n d.device e (sym same)))
    go (Some x) = refl

distinct_push : (ds : List Device) (d : Device) → AreDistinct ds → find (λ o. o.device == d.device) ds ≡ None → AreDistinct (ds ++ d ∷ [])
distinct_push [] d a h = (refl, tt)
distinct_push (x ∷ ds) d a h = go (x.device == d.device) refl h (distinct_push ds d a.1)
  where
    go : (b : Bool) → (x.device == d.device) ≡ b → cond b (Some x) (find (λ o. o.device == d.device) ds) ≡ None
        → (find (λ o. o.device == d.device) ds ≡ None → AreDistinct (ds ++ d ∷ [])) → AreDistinct (x ∷ ds ++ d ∷ [])
    go true e h k = none_is_some (sym h)
    go false e h k = (found_other x.device ds d e ∙ a.0, k h)

-- an address that no device has is not that of a program that runs
not_running : (device : ℕ) (m : Machine) (x : machine.Subchannel) → find (λ o. o.device == device) m.devices ≡ None → IsSoundIn m x
    → runs_at device x ≡ false
not_running device m machine.Idle none s = refl
not_running device m (machine.Pending d csw) none s = refl
not_running device m (machine.Working d script) none s =
    different d device (λ e. subst (λ x. IsRunning (option_map (λ (d : Device). run script (start_of m d.drive)) x))
    (ap (λ n. find (λ o. o.device == n) m.devices) e ∙ none) s.0)

sound_push : (device : ℕ) (image : ImageState) (m : Machine) → IsSound m → find (λ o. o.device == device) m.devices ≡ None
    → IsSound (attached device image m)
sound_push device image m s none =
    sound_with m device (m.devices ++ new_device device image ∷ []) (distinct_push m.devices (new_device device image) s.0 none)
    (λ n e. found_other n m.devices (new_device device image) e)
    (not_running device m m.subchannel none s.1) (λ p. owes) s
  where
    owes : device_owes (find (λ o. o.device == device) (m.devices ++ new_device device image ∷ [])) ≡ device_owes (find (λ o. o.device ==
        device) m.devices)
    owes = rw (find-append, none, same_number device) refl

-- The channel.

get_push : {A : Type 0} (us : List A) (place : ℕ) (u v : A) → slice_get us place ≡ Some u → slice_get (us ++ v ∷ []) place ≡ Some u
get_push [] place u v h = none_is_some h
get_push (w ∷ us) zero u v h = h
get_push (w ∷ us) (suc place) u v h = get_push us place u v h

module _ (device : ℕ) (image : ImageState) (c : ChannelState) (m : Machine) (free : find (λ o. o.device == device) (devices c.drives)
    ≡ None) where
  abbrev drives_more : List AttachedState
  drives_more = c.drives ++ new_attached device image ∷ []

  abbrev with_this : List Device → List Device
  with_this ds = ds ++ new_device device image ∷ []

  now_more : devices drives_more ≡ with_this (devices c.drives)
  now_more = map-append device_of c.drives (new_attached device image ∷ [])

  shows_push : (s : Subchannel) → Shows c m s → Shows (record c { drives = drives_more }) (attached device image m) s
  shows_push Idle h = rests_changed c m drives_more with_this now_more machine.Idle h.0 (all_push c.drives _ h.1 (new_rests device image))
  shows_push (Pending d csw) h = rests_changed c m drives_more with_this now_more _ h.0 (all_push c.drives _ h.1 (new_rests device image))
  shows_push (Working place r) w = works_changed c m drives_more with_this now_more c.subchannel place place r w (record {
    attached = w.attached;
    is_there = get_push c.drives place w.attached (new_attached device image) w.is_there;
    same_device = refl;
    same_drive = refl;
    others = others_push c.drives place w.attached (new_attached device image) w.is_there w.others (new_rests device image);
  }) (rw (map-append, other) refl)
    where
      other : (device == w.attached.device) ≡ false
      other = different device w.attached.device (λ e. false_is_true (sym (ap is_some free)
          ∙ (ap (λ n. is_some (find (λ o. o.device == n) (devices c.drives))) e ∙ is_found c.drives place w.attached w.is_there)))

-- The channel's parts, after a drive was added.
pub stands_push : (device : ℕ) (image : ImageState) (c : ChannelState) (m : Machine) (drives : List AttachedState) → NotRefused device c
    → drives ≡ c.drives ++ new_attached device image ∷ [] → StandsFor c m
    → StandsFor (record c { drives = drives }) (attached device image m)
stands_push device image c m drives n e s = rw e (record {
  number = s.number;
  few = let h = eqb-false (length c.drives) 8 n.1 in rw length_push (grind (arith, s.few, h));
  shows = shows_push device image c m free c.subchannel s.shows;
  sound = sound_push device image m s.sound (device_seen c m (seen_by c m c.subchannel s.shows) device None free);
})
  where
    none : (x : Option ℕ) → is_some x ≡ false → x ≡ None
    none None h = refl
    none (Some k) h = false_is_true (sym h)

    free : find (λ o. o.device == device) (devices c.drives) ≡ None
    free = none_found device c.drives (none (position (is_at device) c.drives) n.0)

-- what the code asks of the place and the number
pub may_attach : (device : ℕ) (c : ChannelState) (place : Option ℕ) (n : ℕ) → place ≡ position (is_at device) c.drives
    → is_some place ≡ false → n ≡ length c.drives → (n ≡ 8 → ⊥) → NotRefused device c
may_attach device c place n e h l k = (sym (ap is_some e) ∙ h, different (length c.drives) 8 (λ q. k (l ∙ q)))

pub has_place : (n u : ℕ) → n ≡ u → (n ≡ 8 → ⊥) → u ≤ 8 → u < 8
has_place n u e h l = grind (arith, e, h, l)

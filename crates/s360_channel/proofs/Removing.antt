-- A channel without one of its drives, and one whose drive has another pack.
use Rattle.std.proofs.Common.{◌≡◌, ℕ, zero, suc, ◌-◌, ◌≤◌, ◌<◌, refl, sym, ap, ◌∙◌, subst, arith, true, false, Bool, cond, ◌==◌, List, []}
use Rattle.std.proofs.Common.{◌∷◌, map, Option, Some, None}
use Rattle.std.proofs.lemmas.Bool.{and_parts, eq-eqb, eqb-true, eqb-false, ltb-true, ltb-false}
use Rattle.std.proofs.lemmas.List.{length-set}
use Rattle.std.proofs.lemmas.List.Edits.{length-remove}
use Rattle.std.proofs.lemmas.Option.{slice_get_within}
use Rattle.std.specs.List.{position_or_len, remove}
use Rattle.std.specs.Prelude.{find, filter, not, nat_lt, option_map, position, slice_get, slice_set}
use Rattle.ckd_track.specs.declared.geometries.Geometry.{Geometry}
use Rattle.ckd_image.specs.Image.{ImageState}
use Rattle.ckd_command.specs.Drive.{first_drive}
use Rattle.s360_program.specs.Advances.{Rests}
use Rattle.s360_program.specs.Stands.{RunningState}
use Rattle.s360_laws.specs.declared.arm.Arm.{Arm}
use Rattle.s360_laws.specs.declared.arm.Arm.TheVariants.{AtRest}
use Rattle.s360_laws.specs.Machine.{Device, Machine, device_at, with_device}
use Rattle.s360_laws.specs.Machine as machine
use Rattle.s360_laws.specs.Soundness.{AreDistinct}
use Rattle.s360_laws.proofs.FindDevices.{Keeps, different, found_map, keeps_one, set_drive, distinct_map}
use Rattle.s360_channel.specs.Channel.{ChannelState, Shows, StandsFor, WorksFor}
use Rattle.attached_drives.specs.Drives.{AttachedState, AllRest, OthersRest, device_of, is_at, new_attached, fits_drive}
use Rattle.s360_channel.specs.declared.faults.DetachFault.{DetachFault}
use Rattle.s360_channel.specs.declared.faults.DetachFault.TheVariants.{NoDrive, ProgramRuns, EndingPends, DeviceEndOwed}
use Rattle.s360_channel.specs.declared.subchannel.Subchannel.{Subchannel}
use Rattle.s360_channel.specs.declared.subchannel.Subchannel.TheVariants.{Idle, Working, Pending}
use Rattle.attached_drives.specs.DriveCalls.{DriveIs, Removes, ExchangesPack, MayExchange}
use Rattle.s360_channel.specs.Packs.{Detaches, IsFree, GivesBack, is_at_rest, moved_up, pends_for, runs_at, waits_for, why_of, why_stays}
use Rattle.s360_channel.specs.Packs.{without_device, without_place, works_at, Exchanges, fits_at, volume_in, with_pack}
use Rattle.s360_channel.proofs.Changing.{SeenBy, seen_by, distinct_drives, device_seen, new_rests, rests_changed, sound_with, volume_given}
use Rattle.s360_channel.proofs.Changing.{works_changed, changes_apart}
use Rattle.attached_drives.proofs.Places.{arm_there, changes, devices, false_is_true, found_at, found_by, inside, is_other, none_found}
use Rattle.attached_drives.proofs.Places.{none_is_some, place_at, rests_at, same_number, all_set, devices_set, get_other, others_put}
use Rattle.s360_channel.proofs.Works.{devices_of, subchannel_of}

-- A channel without one of its drives.

abbrev other_than : ℕ → Device → Bool
other_than device d = not (d.device == device)

-- Lists of devices without one.

none_left_out : (device : ℕ) (ds : List Device) → find (λ d. d.device == device) ds ≡ None → filter (other_than device) ds ≡ ds
none_left_out device [] h = refl
none_left_out device (d ∷ ds) h = go (d.device == device) h (none_left_out device ds)
  where
    go : (b : Bool) → cond b (Some d) (find (λ d. d.device == device) ds) ≡ None → (find (λ d. d.device == device) ds ≡ None
        → filter (other_than device) ds ≡ ds)
        → cond (not b) (d ∷ filter (other_than device) ds) (filter (other_than device) ds) ≡ d ∷ ds
    go true h k = none_is_some (sym h)
    go false h k = ap (λ r. d ∷ r) (k h)

devices_left : (us : List AttachedState) (place : ℕ) (u : AttachedState) → AreDistinct (devices us) → slice_get us place ≡ Some u
    → devices (remove us place) ≡ filter (other_than u.device) (devices us)
devices_left [] place u a h = none_is_some h
devices_left (w ∷ us) zero u a h = subst (λ (x : AttachedState). devices us ≡ filter (other_than x.device) (devices (w ∷ us)))
    (inside w u h) (rw (same_number w.device) (sym (none_left_out w.device (devices us) a.0)))
devices_left (w ∷ us) (suc place) u a h = rw (is_other w us place u a h) (ap (λ r. device_of w ∷ r) (devices_left us place u a.1 h))

-- another device is found as it was
found_left : (device n : ℕ) (ds : List Device) → (n == device) ≡ false → find (λ d. d.device == n) (filter (other_than device) ds)
    ≡ find (λ d. d.device == n) ds
found_left device n [] h = refl
found_left device n (d ∷ ds) h = go (d.device == device) refl (found_left device n ds h)
  where
    go : (b : Bool) → (d.device == device) ≡ b → find (λ d. d.device == n) (filter (other_than device) ds) ≡ find (λ d. d.device == n) ds
        → find (λ d. d.device == n) (cond (not b) (d ∷ filter (other_than device) ds) (filter (other_than device) ds)) ≡ cond (d.device ==
        n) (Some d) (find (λ d. d.device == n) ds)
    go true e k = rw (different d.device n (λ same. eqb-false n device h (sym same ∙ eqb-true d.device device e))) k
    go false e k = rw k refl

distinct_left : (device : ℕ) (ds : List Device) → AreDistinct ds → AreDistinct (filter (other_than device) ds)
distinct_left device [] h = tt
distinct_left device (d ∷ ds) h = go (d.device == device) refl (distinct_left device ds h.1)
  where
    go : (b : Bool) → (d.device == device) ≡ b → AreDistinct (filter (other_than device) ds)
        → AreDistinct (cond (not b) (d ∷ filter (other_than device) ds) (filter (other_than device) ds))
    go true e k = k
    go false e k = (found_left device d.device ds e ∙ h.0, k)

left_through : (device : ℕ) (g : Device → Device) → Keeps g → (ds : List Device) → filter (other_than device) (map g ds)
    ≡ map g (filter (other_than device) ds)
left_through device g k [] = refl
left_through device g k (d ∷ ds) = ap (λ n. cond (not (n == device)) (g d ∷ filter (other_than device) (map g ds))
    (filter (other_than device) (map g ds))) (k d) ∙ go (d.device == device) (left_through device g k ds)
  where
    go : (b : Bool) → filter (other_than device) (map g ds) ≡ map g (filter (other_than device) ds)
        → cond (not b) (g d ∷ filter (other_than device) (map g ds)) (filter (other_than device) (map g ds))
        ≡ map g (cond (not b) (d ∷ filter (other_than device) ds) (filter (other_than device) ds))
    go true h = h
    go false h = rw h refl

-- Lists of drives without the one at a place.

all_left : (us : List AttachedState) (place : ℕ) → AllRest us → AllRest (remove us place)
all_left [] zero r = tt
all_left [] (suc place) r = tt
all_left (w ∷ us) zero r = r.1
all_left (w ∷ us) (suc place) r = (r.0, all_left us place r.1)

-- the place of a program's drive among those that are left
record StaysAt (us : List AttachedState) (place q : ℕ) (u : AttachedState) : Type 0 where
  is_there : slice_get (remove us place) q ≡ Some u
  others : OthersRest q (remove us place)

before : (us : List AttachedState) (place p : ℕ) (u : AttachedState) → p < place → slice_get us p ≡ Some u → OthersRest p us
    → StaysAt us place p u
before [] place p u l h r = none_is_some h
before (w ∷ us) zero p u l h r = absurd (omega (arith, l))
before (w ∷ us) (suc place) zero u l h r = record { is_there = h; others = all_left us place r }
before (w ∷ us) (suc place) (suc p) u l h r = let k = before us place p u (omega (arith, l)) h r.1 in
    record { is_there = k.is_there; others = (r.0, k.others) }

behind : (us : List AttachedState) (place p : ℕ) (u : AttachedState) → place ≤ p → slice_get us (suc p) ≡ Some u → OthersRest (suc p) us
    → StaysAt us place p u
behind [] place p u l h r = none_is_some h
behind (w ∷ us) zero p u l h r = record { is_there = h; others = r.1 }
behind (w ∷ us) (suc place) zero u l h r = absurd (omega (arith, l))
behind (w ∷ us) (suc place) (suc p) u l h r = let k = behind us place p u (omega (arith, l)) h r.1 in
    record { is_there = k.is_there; others = (r.0, k.others) }

stays_at : (us : List AttachedState) (place p : ℕ) (u : AttachedState) → (p == place) ≡ false → slice_get us p ≡ Some u → OthersRest p us
    → StaysAt us place (cond (nat_lt place p) (p - 1) p) u
stays_at us place p u e h r = go (nat_lt place p) refl
  where
    go : (b : Bool) → nat_lt place p ≡ b → StaysAt us place (cond b (p - 1) p) u
    go true k =
        let l = ltb-true place p k in
        let e : p ≡ suc (p - 1) = omega arith in
        behind us place (p - 1) u (omega arith) (ap (slice_get us) (sym e) ∙ h) (subst (λ p. OthersRest p us) e r)
    go false k = before us place p u (grind (arith, ltb-false place p k, eqb-false p place e)) h r

-- Which program runs, and which word pends, at the channel and at the machine.

pub same_places : (us : List AttachedState) (p place : ℕ) (w u : AttachedState) → AreDistinct (devices us) → slice_get us p ≡ Some w
    → slice_get us place ≡ Some u → (w.device == u.device) ≡ (p == place)
same_places us p place w u a h k = go (p == place) refl
  where
    go : (b : Bool) → (p == place) ≡ b → (w.device == u.device) ≡ b
    go true e = rw (inside w u (sym h ∙ ap (slice_get us) (eqb-true p place e) ∙ k)) (same_number u.device)
    go false e = different w.device u.device (λ same. eqb-false p place e (sym (place_at us p w a h)
        ∙ ap (λ n. position_or_len (is_at n) us) same ∙ place_at us place u a k))

-- the device at an address, while a program runs
pub working_device : (c : ChannelState) (p : ℕ) (r : RunningState) (m : Machine) (w : WorksFor c p r m) (device : ℕ)
    → device_at m device ≡ option_map (changes w.attached.device (set_drive w.drive)) (find (λ d. d.device == device) (devices c.drives))
working_device c p r m w device =
    ap (find (λ d. d.device == device)) (devices_of c p r m w)
    ∙ found_map (λ d. d == device) (changes w.attached.device (set_drive w.drive)) (keeps_one w.attached.device (set_drive w.drive)
    (λ d. refl)) (devices c.drives)

-- what is known of the drive at a place
pub record IsAttached (device place : ℕ) (us : List AttachedState) (u : AttachedState) : Type 0 where
  pub is_there : slice_get us place ≡ Some u
  pub same_device : u.device ≡ device

-- why it stays, by what is known of the subchannel and of its arm
abbrev why_by : (runs pends : Bool) → Arm → Option DetachFault
why_by runs pends arm = cond runs (Some ProgramRuns) (cond pends (Some EndingPends) (cond (is_at_rest arm) None (Some DeviceEndOwed)))

module _ (c : ChannelState) (m : Machine) (s : StandsFor c m) (device place : ℕ) (u : AttachedState)
    (f : IsAttached device place c.drives u) where
  here : SeenBy c m
  here = seen_by c m c.subchannel s.shows

  pub distinct : AreDistinct (devices c.drives)
  distinct = distinct_drives c m here s.sound

  found : find (λ d. d.device == device) (devices c.drives) ≡ Some (device_of u)
  found = ap (λ n. find (λ d. d.device == n) (devices c.drives)) (sym f.same_device) ∙ found_at c.drives place u distinct f.is_there

  pub same_runs : runs_at device m.subchannel ≡ works_at place c.subchannel
  same_runs = go c.subchannel s.shows
    where
      go : (x : Subchannel) → Shows c m x → runs_at device m.subchannel ≡ works_at place x
      go Idle h = rw h.0 refl
      go (Working p r) w = ap (runs_at device) (subchannel_of c p r m w)
          ∙ rw (← f.same_device) (same_places c.drives p place w.attached u distinct w.is_there f.is_there)
      go (Pending d csw) h = rw h.0 refl

  pub same_pends : pends_for device m.subchannel ≡ waits_for device c.subchannel
  same_pends = go c.subchannel s.shows
    where
      go : (x : Subchannel) → Shows c m x → pends_for device m.subchannel ≡ waits_for device x
      go Idle h = rw h.0 refl
      go (Working p r) w = ap (pends_for device) (subchannel_of c p r m w)
      go (Pending d csw) h = rw h.0 refl

  pub why_is : why_stays device m ≡ why_by (works_at place c.subchannel) (waits_for device c.subchannel) u.arm
  why_is = rw (device_seen c m here device (Some (device_of u)) found, same_runs, same_pends, here.arm (device_of u)) refl

  -- a device whose program does not run is the drive
  pub device_there : works_at place c.subchannel ≡ false → device_at m device ≡ Some (device_of u)
  device_there off = go c.subchannel s.shows off
    where
      go : (x : Subchannel) → Shows c m x → works_at place x ≡ false → device_at m device ≡ Some (device_of u)
      go Idle h o = ap (λ (m : Machine). device_at m device) h.0 ∙ found
      go (Pending d csw) h o = ap (λ (m : Machine). device_at m device) h.0 ∙ found
      go (Working p r) w o = rw (
        working_device c p r m w device,
        found,
        different u.device w.attached.device (λ e. eqb-false p place o
            (eqb-true p place (sym (same_places c.drives p place w.attached u distinct w.is_there f.is_there)
            ∙ eq-eqb w.attached.device u.device (sym e)))),
      ) refl

  -- and its drive rests
  pub rests_there : works_at place c.subchannel ≡ false → Rests u.drive
  rests_there off = go c.subchannel s.shows off
    where
      one : (us : List AttachedState) (p place : ℕ) → (p ≡ place → ⊥) → OthersRest p us → slice_get us place ≡ Some u → Rests u.drive
      one [] p place n r h = none_is_some h
      one (w ∷ us) zero zero n r h = absurd (n refl)
      one (w ∷ us) zero (suc place) n r h = rests_at us place u r h
      one (w ∷ us) (suc p) zero n r h = subst (λ (u : AttachedState). Rests u.drive) (inside w u h) r.0
      one (w ∷ us) (suc p) (suc place) n r h = one us p place (λ e. n (ap suc e)) r.1 h

      go : (x : Subchannel) → Shows c m x → works_at place x ≡ false → Rests u.drive
      go Idle h o = rests_at c.drives place u h.1 f.is_there
      go (Pending d csw) h o = rests_at c.drives place u h.1 f.is_there
      go (Working p r) w o = one c.drives p place (eqb-false p place o) w.others f.is_there

-- A free drive is taken out.

module _ (c : ChannelState) (m : Machine) (s : StandsFor c m) (device place : ℕ) (f : IsFree device place c) where
  pub attached : IsAttached device place c.drives f.attached
  attached = record { is_there = f.is_there; same_device = f.same_device }

  pub off : runs_at device m.subchannel ≡ false
  off = same_runs c m s device place f.attached attached ∙ f.runs

  pub quiet : pends_for device m.subchannel ≡ false
  quiet = same_pends c m s device place f.attached attached ∙ f.pends

  pub is_free : why_stays device m ≡ None
  is_free = rw (f.runs, f.pends, f.arm) at (why_is c m s device place f.attached attached)

  pub rests_free : DriveIs place Rests c.drives
  rests_free = record { attached = f.attached; is_there = f.is_there; holds = rests_there c m s device place f.attached attached f.runs }

  -- the image that is given back
  pub gives_back : (image : ImageState) → image ≡ f.attached.drive.image → f.attached.drive.image.geometry
      ≡ f.attached.drive.state.volume.geometry → f.attached.drive.image.slots ≡ f.attached.drive.state.volume.slots
      → GivesBack device image m
  gives_back image same geometry slots = record {
    attached = device_of f.attached;
    is_there = device_there c m s device place f.attached attached f.runs;
    volume = sym (volume_given f.attached.drive image same geometry slots);
  }

  left : devices (remove c.drives place) ≡ filter (other_than device) (devices c.drives)
  left = devices_left c.drives place f.attached (distinct c m s device place f.attached attached) f.is_there
      ∙ ap (λ n. filter (other_than n) (devices c.drives)) f.same_device

  shows_left : (x : Subchannel) → Shows c m x → works_at place x ≡ false → Shows (without_place place c) (without_device device m)
      (moved_up place x)
  shows_left Idle h o = rests_changed c m _ (filter (other_than device)) left machine.Idle h.0 (all_left c.drives place h.1)
  shows_left (Pending d csw) h o = rests_changed c m _ (filter (other_than device)) left _ h.0 (all_left c.drives place h.1)
  shows_left (Working p r) w o =
      let stays = stays_at c.drives place p w.attached o w.is_there w.others in
      works_changed c m (remove c.drives place) (filter (other_than device)) left (moved_up place c.subchannel) p _ r w
      (record { attached = w.attached; is_there = stays.is_there; same_device = refl; same_drive = refl; others = stays.others })
      (left_through device (changes w.attached.device (set_drive w.drive)) (keeps_one w.attached.device (set_drive w.drive) (λ d. refl))
      (devices c.drives))

  stands_left : StandsFor (without_place place c) (without_device device m)
  stands_left = record {
    number = s.number;
    few = omega (arith, length-remove c.drives place (slice_get_within c.drives place f.attached f.is_there), s.few);
    shows = shows_left c.subchannel s.shows f.runs;
    sound = sound_with m device (filter (other_than device) m.devices) (distinct_left device m.devices s.sound.0)
        (λ n e. found_left device n m.devices e) off (λ p. false_is_true (sym quiet ∙ p)) s.sound;
  }

  pub detaches : (subchannel : Subchannel) (drives : List AttachedState) (image : ImageState)
      → subchannel ≡ moved_up place c.subchannel → Removes place image c.drives drives
      → Detaches device m image c (record c { subchannel = subchannel; drives = drives })
  detaches subchannel drives image sub r =
      let same : r.attached ≡ f.attached = inside r.attached f.attached (sym r.was ∙ f.is_there) in
      let now : record c { subchannel = subchannel; drives = drives } ≡ without_place place c = rw (sub, r.becomes) refl in
      record {
        free = is_free;
        place = place;
        is_free = f;
        becomes = now;
        stands = subst (λ x. StandsFor x (without_device device m)) (sym now) stands_left;
        same_image = r.gives ∙ ap (λ (u : AttachedState). u.drive.image) same;
        gives_back = gives_back image (rw same at r.gives) (rw same at r.geometry) (rw same at r.volume);
      }

-- Why a drive stays, by what the code asks.

module _ (c : ChannelState) (m : Machine) (s : StandsFor c m) (device : ℕ) where
  pub why_none : position (is_at device) c.drives ≡ None → why_stays device m ≡ Some NoDrive
  why_none h = ap (why_of device m.subchannel) (device_seen c m (seen_by c m c.subchannel s.shows) device None
      (none_found device c.drives h))

  module _ (place : ℕ) (h : position (is_at device) c.drives ≡ Some place) where
    why : why_stays device m ≡ why_by (works_at place c.subchannel) (waits_for device c.subchannel)
        (found_by device c.drives place h).attached.arm
    why = let f = found_by device c.drives place h in
        why_is c m s device place f.attached (record { is_there = f.is_there; same_device = f.same_device })

    pub why_runs : works_at place c.subchannel ≡ true → why_stays device m ≡ Some ProgramRuns
    why_runs a = rw a at why

    pub why_pends : works_at place c.subchannel ≡ false → waits_for device c.subchannel ≡ true → why_stays device m ≡ Some EndingPends
    why_pends a b = rw (a, b) at why

    pub why_owes : (arm : Arm) → works_at place c.subchannel ≡ false → waits_for device c.subchannel ≡ false
        → Some arm ≡ option_map (λ (u : AttachedState). u.arm) (slice_get c.drives place) → is_at_rest arm ≡ false
        → why_stays device m ≡ Some DeviceEndOwed
    why_owes arm a b e k = rw (a, b, arm_there c.drives place _ arm (found_by device c.drives place h).is_there e, k) at why

pub free_at : (c : ChannelState) (device place : ℕ) → position (is_at device) c.drives ≡ Some place → works_at place c.subchannel ≡ false
    → waits_for device c.subchannel ≡ false
    → Some AtRest ≡ option_map (λ (u : AttachedState). u.arm) (slice_get c.drives place) → IsFree device place c
free_at c device place h a b e = let f = found_by device c.drives place h in record {
  attached = f.attached;
  is_there = f.is_there;
  same_device = f.same_device;
  runs = a;
  pends = b;
  arm = arm_there c.drives place f.attached AtRest f.is_there e;
}

-- A channel one of whose drives has another pack.

-- the device with another pack
abbrev packed : ImageState → Device → Device
packed image d = record d { arm = AtRest; drive = first_drive (volume_in image) }

-- another device is found as it was
found_other : (device n : ℕ) (f : Device → Device) → Keeps f → (ds : List Device) → (n == device) ≡ false
    → find (λ d. d.device == n) (map (changes device f) ds) ≡ find (λ d. d.device == n) ds
found_other device n f k [] h = refl
found_other device n f k (d ∷ ds) h = go (d.device == device) refl (found_other device n f k ds h)
  where
    go : (b : Bool) → (d.device == device) ≡ b → find (λ d. d.device == n) (map (changes device f) ds) ≡ find (λ d. d.device == n) ds
        → cond ((cond b (f d) d).device == n) (Some (cond b (f d) d)) (find (λ d. d.device == n) (map (changes device f) ds))
        ≡ cond (d.device == n) (Some d) (find (λ d. d.device == n) ds)
    go true e r = rw (k d, different d.device n (λ same. eqb-false n device h (sym same ∙ eqb-true d.device device e))) r
    go false e r = rw r refl

-- a pack that fits has slots as large
same_size : (held other : Geometry) → true ≡ fits_drive held other → other.track_size ≡ held.track_size
same_size held other h = sym (eqb-true held.track_size other.track_size (and_parts _ _ (sym h)).1)

-- A channel one of whose drives, which was free, is another, of the same address.

module _ (c : ChannelState) (m : Machine) (s : StandsFor c m) (device place : ℕ) (f : IsFree device place c) (this : AttachedState)
    (g : Device → Device) (keeps : Keeps g) (same : device_of this ≡ g (device_of f.attached)) (rests : Rests this.drive) where
  distinct_now : AreDistinct (devices c.drives)
  distinct_now = distinct c m s device place f.attached (attached c m s device place f)

  abbrev drives_now : List AttachedState
  drives_now = slice_set c.drives place this

  abbrev change : List Device → List Device
  change = map (changes device g)

  now : devices drives_now ≡ change (devices c.drives)
  now = devices_set c.drives place f.attached this g distinct_now f.is_there same
      ∙ ap (λ n. map (changes n g) (devices c.drives)) f.same_device

  shows_changed : (x : Subchannel) → Shows c m x → works_at place x ≡ false
      → Shows (record c { drives = drives_now }) (with_device device g m) x
  shows_changed Idle h o = rests_changed c m drives_now change now machine.Idle h.0 (all_set c.drives place this h.1 rests)
  shows_changed (Pending d csw) h o = rests_changed c m drives_now change now _ h.0 (all_set c.drives place this h.1 rests)
  shows_changed (Working p r) w o = works_changed c m drives_now change now c.subchannel p p r w (record {
    attached = w.attached;
    is_there = get_other c.drives place p this (eqb-false p place o) ∙ w.is_there;
    same_device = refl;
    same_drive = refl;
    others = others_put c.drives place p f.attached this f.is_there (λ n r. rests) w.others;
  }) (changes_apart device w.attached.device g (set_drive w.drive) keeps (λ d. refl) (λ e. absurd (other e)) (devices c.drives))
    where
      other : device ≡ w.attached.device → ⊥
      other e = eqb-false w.attached.device f.attached.device (same_places c.drives p place w.attached f.attached distinct_now w.is_there
          f.is_there ∙ o) (sym (f.same_device ∙ e))

  pub stands_changed : StandsFor (record c { drives = drives_now }) (with_device device g m)
  stands_changed = record {
    number = s.number;
    few = rw length-set s.few;
    shows = shows_changed c.subchannel s.shows f.runs;
    sound = sound_with m device (change m.devices) (distinct_map (changes device g) (keeps_one device g keeps) m.devices s.sound.0)
        (λ n. found_other device n g keeps m.devices) (off c m s device place f)
        (λ p. false_is_true (sym (quiet c m s device place f) ∙ p)) s.sound;
  }

module _ (c : ChannelState) (m : Machine) (s : StandsFor c m) (device place : ℕ) (f : IsFree device place c) (image : ImageState) where
  abbrev this : AttachedState
  this = new_attached device image

  stands_packed : StandsFor (record c { drives = slice_set c.drives place this }) (with_pack device image m)
  stands_packed = stands_changed c m s device place f this (packed image) (λ d. refl)
      (ap (λ n. device_of (new_attached n image)) (sym f.same_device)) (new_rests device image)

  -- the drive may have the pack that fits
  pub may_exchange : (geometry : Geometry) → geometry ≡ image.geometry
      → Some true ≡ option_map (λ (u : AttachedState). fits_drive u.drive.image.geometry geometry) (slice_get c.drives place)
      → DriveIs place (MayExchange image.geometry.track_size) c.drives
  may_exchange geometry e h = record {
    attached = f.attached;
    is_there = f.is_there;
    holds = (
      rests_there c m s device place f.attached (attached c m s device place f) f.runs,
      ap (λ (g : Geometry). g.track_size) (sym e)
          ∙ same_size f.attached.drive.image.geometry geometry (inside true _ (h
          ∙ ap (option_map (λ (u : AttachedState). fits_drive u.drive.image.geometry geometry)) f.is_there)),
    );
  }

  -- whether the pack fits, by what the code asks of the drive
  pub fits_is : (b : Bool) (geometry : Geometry) → geometry ≡ image.geometry
      → Some b ≡ option_map (λ (u : AttachedState). fits_drive u.drive.state.volume.geometry geometry) (slice_get c.drives place)
      → fits_at device image m ≡ Some b
  fits_is b geometry e h = rw (device_there c m s device place f.attached (attached c m s device place f) f.runs)
      (sym (rw (f.is_there, e) at h))

  pub exchanges : (drives : List AttachedState) (before : ImageState) → fits_at device image m ≡ Some true
      → ExchangesPack place image before c.drives drives → Exchanges device m image before c (record c { drives = drives })
  exchanges drives before fits r =
      let same : r.attached ≡ f.attached = inside r.attached f.attached (sym r.was ∙ f.is_there) in
      let placed : drives ≡ slice_set c.drives place this = rw (r.becomes, same, f.same_device, f.arm) refl in
      record {
        free = is_free c m s device place f;
        fits = fits;
        place = place;
        is_free = f;
        becomes = ap (λ us. record c { drives = us }) placed;
        stands = subst (λ us. StandsFor (record c { drives = us }) (with_pack device image m)) (sym placed) stands_packed;
        same_image = r.gives ∙ ap (λ (u : AttachedState). u.drive.image) same;
        gives_back = gives_back c m s device place f before (rw same at r.gives) (rw same at r.geometry) (rw same at r.volume);
      }

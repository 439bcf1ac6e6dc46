-- Steps of a program that runs: a drive that changed and a program that is over, where it goes on, and where it ends.
use Rattle.std.proofs.Common.{◌≡◌, ℕ, ◌+◌, ◌≤◌, ◌<◌, ◌⊎◌, inl, inr, refl, sym, ap, subst, ◌∙◌, arith, true, false, Bool, cond, ◌==◌, map}
use Rattle.std.proofs.Common.{length, Option, Some, None, zero, suc, ◌-◌, ◌∷◌, ◌++◌}
use Rattle.std.proofs.lemmas.List.{length-set}
use Rattle.std.proofs.lemmas.Simd.{map-map}
use Rattle.std.specs.Prelude.{slice_get, slice_set}
use Rattle.s360_words.specs.declared.words.Csw.{Csw}
use Rattle.s360_words.specs.Storage.{Storage}
use Rattle.ckd_command.specs.Drive.{Fault}
use Rattle.ckd_drive.specs.Work.{DriveState, CallsStore}
use Rattle.s360_laws.proofs.Standing.{goes_by, ends_by}
use Rattle.s360_laws.proofs.Walks.{ended_stays}
use Rattle.s360_laws.specs.Endings.{Ending}
use Rattle.s360_laws.specs.Runs.{run}
use Rattle.s360_laws.specs.Scripts.{units, units_in, OneUnit}
use Rattle.s360_program.proofs.Ties.{after_units, ends_after, seen}
use Rattle.s360_program.specs.Advances.{IsEnding, TellsOf, EndsWithFault, WentOn, CameToEnd}
use Rattle.s360_program.specs.Advances as program
use Rattle.s360_program.specs.Laws.{StandsAtRun}
use Rattle.s360_program.specs.Stands.{RunningState, phase_in}
use Rattle.s360_laws.specs.Events.{Answer, Event, FaultAfter, StepBy, Stepped}
use Rattle.s360_laws.specs.History.{Runs}
use Rattle.s360_laws.specs.Machine.{Machine, Device, react, ended, arm_after, stepped, step, goes_on, units_with, start_of, with_subchannel}
use Rattle.s360_laws.specs.Machine as machine
use Rattle.s360_laws.specs.Soundness.{IsSound}
use Rattle.s360_laws.specs.Steps.{EndedByFault}
use Rattle.s360_laws.proofs.FindDevices.{found_map, keeps_one, set_both, set_drive}
use Rattle.s360_laws.proofs.LedgerLists.{stays, sound_parts}
use Rattle.s360_laws.proofs.NoFaultTold.{no_fault_none_told}
use Rattle.s360_channel.specs.Calls.{CallsAtMost, Does, IsMet, Reports}
use Rattle.s360_channel.specs.Channel.{ChannelState, Shows, StandsFor, WorksFor, machine_of, failures_of}
use Rattle.attached_drives.specs.Drives.{AttachedState, device_of, AllRest}
use Rattle.s360_channel.specs.declared.subchannel.Subchannel.{Subchannel}
use Rattle.s360_channel.specs.declared.subchannel.Subchannel.TheVariants.{Pending, Working}
use Rattle.s360_channel.specs.Ends.{arm_told}
use Rattle.s360_channel.specs.Nexts.{of_parts}
use Rattle.attached_drives.proofs.Places.{map_same, sum_set, all_of_others, devices, changes, devices_set, changes_twice}
use Rattle.attached_drives.proofs.Places.{same_number, get_set, others_set}
use Rattle.s360_channel.proofs.Works.{channel_of, devices_of, distinct_drives, device_there, subchannel_of, run_at}

-- Drives in which the drive and the arm of one of them changed, and a program that is over there.

-- Behind an event a channel has the number that it had, no more drives than a channel may have, and shows this machine.
pub record ShowsThen (old new : ChannelState) (after : Machine) : Type 0 where
  pub number : new.number ≡ old.number
  pub few : length new.drives ≤ 8
  pub shows : Shows new after new.subchannel

-- What an event that meets this fault does at a channel, from what the machine comes to and what the channel shows then.
pub does_this : (e : Event) (m : Machine) (answer : Answer) (old new : ChannelState) (fault : Option FaultAfter) (after : Machine)
    → StandsFor old m → react e fault m ≡ (answer, after) → ShowsThen old new after → IsMet fault answer old new → Reports e m fault
    → Does e m answer old new
does_this e m answer old new fault after s is then met reports = record {
  fault = fault;
  met = met;
  answers = sym (ap (λ (a : Answer × Machine). a.0) is);
  stands = record {
    number = subst (λ n. n < 7) (sym then.number) s.number;
    few = then.few;
    shows = subst (λ n. Shows new n new.subchannel) (sym (ap (λ (a : Answer × Machine). a.1) is)) then.shows;
    sound = stays m e fault s.sound;
  };
  reports = reports;
}

-- the fault of a step or of a cut
abbrev pub met_in : (earlier : ℕ) → Option Fault → Option FaultAfter
met_in earlier None = None
met_in earlier (Some f) = Some (record { units = earlier; fault = f })

-- A drive that changed, and its arm.

abbrev pub with_drive : AttachedState → DriveState → AttachedState
with_drive u d = record u { drive = d }

abbrev pub with_both : AttachedState → (motion : Bool) → DriveState → AttachedState
with_both u motion d = record { device = u.device; arm = arm_told motion; drive = d }

-- a channel with this storage and subchannel, and another drive at a place
abbrev pub channel_with : ChannelState → Storage → Subchannel → (place : ℕ) → AttachedState → ChannelState
channel_with c s subchannel place u = of_parts c.number s subchannel (slice_set c.drives place u)

-- What the images count.

module _ (c : ChannelState) (s : Storage) (subchannel : Subchannel) (place : ℕ) (u v : AttachedState) (at : slice_get c.drives place
    ≡ Some u) where
  pub same_failures : v.drive.image.failures ≡ u.drive.image.failures → failures_of (channel_with c s subchannel place v) ≡ failures_of c
  same_failures h = omega (arith, sum_set (λ (u : AttachedState). u.drive.image.failures) c.drives place u v at, h)

  pub one_failure : v.drive.image.failures ≡ u.drive.image.failures + 1 → failures_of (channel_with c s subchannel place v) ≡ failures_of c
      + 1
  one_failure h = omega (arith, sum_set (λ (u : AttachedState). u.drive.image.failures) c.drives place u v at, h)

  pub few_drives : length c.drives ≤ 8 → length (slice_set c.drives place v) ≤ 8
  few_drives h = rw length-set h

  pub calls_at_most : (most : ℕ) → program.CallsAtMost most u.drive v.drive → (v.drive.image.failures ≡ u.drive.image.failures)
      ⊎ (v.drive.image.failures ≡ u.drive.image.failures + 1)
      → CallsAtMost most c (channel_with c s subchannel place v)
  calls_at_most most h f = record {
    calls = omega (arith, sum_set (λ (u : AttachedState). u.drive.image.loads + u.drive.image.saves) c.drives place u v at, h.calls);
    failures = either f;
    lasting = map_same (λ u. u.drive.image.lasting) c.drives place u v at h.lasting;
    geometries = map_same (λ u. u.drive.image.geometry) c.drives place u v at h.geometry;
  }
    where
      either : (v.drive.image.failures ≡ u.drive.image.failures) ⊎ (v.drive.image.failures ≡ u.drive.image.failures + 1)
          → (failures_of (channel_with c s subchannel place v) ≡ failures_of c)
          ⊎ (failures_of (channel_with c s subchannel place v) ≡ failures_of c + 1)
      either (inl h) = inl (same_failures h)
      either (inr h) = inr (one_failure h)

pub failures_told : (told : Option (Csw × Bool)) (old new : DriveState) → TellsOf told old new → (new.image.failures ≡ old.image.failures)
    ⊎ (new.image.failures ≡ old.image.failures + 1)
failures_told told old new t = go t.failed
  where
    go : ((new.image.failures ≡ old.image.failures) ⊎ ((new.image.failures ≡ old.image.failures + 1) × EndsWithFault told new))
        → (new.image.failures ≡ old.image.failures) ⊎ (new.image.failures ≡ old.image.failures + 1)
    go (inl h) = inl h
    go (inr h) = inr h.0

-- where one failed it is reported
pub fault_told : (told : Csw × Bool) (old new : DriveState) → TellsOf (Some told) old new → new.image.failures ≡ old.image.failures + 1
    → program.TellsFault told.0 new
fault_told told old new t rose = go t.failed
  where
    go : ((new.image.failures ≡ old.image.failures) ⊎ ((new.image.failures ≡ old.image.failures + 1) × EndsWithFault (Some told) new))
        → program.TellsFault told.0 new
    go (inl h) = absurd (omega (arith, h, rose))
    go (inr h) = h.1

-- a cut saves at most
pub cut_calls : (written : Bool) (old new : DriveState) → CallsStore false written old new → program.CallsAtMost 1 old new
cut_calls written old new h = record { calls = omega (arith, saved written, loaded h.loads); lasting = h.lasting; geometry = h.geometry }
  where
    saved : (b : Bool) → cond b 1 0 ≤ 1
    saved true = omega arith
    saved false = omega arith

    loaded : ((new.image.loads ≡ old.image.loads) ⊎ ((false ≡ true) × (written ≡ false) × (new.image.loads ≡ old.image.loads + 1)))
        → new.image.loads ≡ old.image.loads
    loaded (inl h) = h
    loaded (inr h) = absurd (cc)

-- A program that is over.

abbrev pub over : ChannelState → (place : ℕ) → AttachedState → Storage → Csw → (motion : Bool) → DriveState → ChannelState
over c place u s csw motion new = channel_with c s (Pending u.device csw) place (with_both u motion new)

module _ (c : ChannelState) (place : ℕ) (r : RunningState) (m : Machine) (w : WorksFor c place r m) (sound : IsSound m) (s : Storage)
    (told : Csw × Bool) (new : DriveState) (e : Ending) (is : IsEnding e told new) where
  told_device : device_of (with_both w.attached told.1 new) ≡ set_both (arm_after e) e.drive (device_of w.attached)
  told_device = rw (is.motion, is.drive.drive) refl

  over_devices : map (changes w.attached.device (set_both (arm_after e) e.drive)) m.devices
      ≡ devices (slice_set c.drives place (with_both w.attached told.1 new))
  over_devices = rw (
    devices_of c place r m w,
    changes_twice w.attached.device (set_drive w.drive) (set_both (arm_after e) e.drive)
        (λ d. refl),
  )
      (sym (devices_set c.drives place w.attached (with_both w.attached told.1 new) (set_both (arm_after e) e.drive)
      (distinct_drives c place r m w sound) w.is_there told_device))

  -- the machine of the channel then
  pub over_machine : ended w.attached.device s e m ≡ machine_of (over c place w.attached s told.0 told.1 new)
      (machine.Pending w.attached.device told.0)
  over_machine = simp (channel_of c place r m w, over_devices, is.csw) refl

  pub over_rest : AllRest (slice_set c.drives place (with_both w.attached told.1 new))
  over_rest = all_of_others c.drives place (with_both w.attached told.1 new) w.others is.drive.rests

  -- a fault that was met is reported
  pub over_fault : (answer : Answer) → program.TellsFault told.0 new → EndedByFault (answer, ended w.attached.device s e m) answer
  over_fault answer t = record {
    answers = refl;
    device = w.attached.device;
    csw = e.csw;
    pends = refl;
    unit_check = rw (← is.csw) t.unit_check;
    drive = set_both (arm_after e) e.drive first;
    is_there = rw (
      found_map (λ n. n == w.attached.device) (changes w.attached.device (set_both (arm_after e) e.drive))
          (keeps_one w.attached.device (set_both (arm_after e) e.drive) (λ d. refl)) m.devices,
      device_there c place r m w sound,
      same_number w.attached.device,
    ) refl;
    equipment_check = rw (← is.drive.drive) t.equipment_check;
  }
    where
      first : Device
      first = record { device = w.attached.device; arm = w.attached.arm; drive = w.drive }

-- Steps of a program that runs: where it goes on, and where it ends.

-- a sound machine's program runs
pub runs_of : (m : Machine) → IsSound m → Runs m m.subchannel
runs_of m sound = (sound_parts m m.subchannel sound.1).0

-- the units of a step, up to the one in which the program ended
split : (k earlier : ℕ) (f : Option Fault) → earlier < k → (n : ℕ) × (units_with k (met_in earlier f) ≡ units earlier ++ OneUnit f
    ∷ units n)
split zero earlier f h = let never : ⊥ = omega arith in absurd never
split (suc k) zero None h = (k, refl)
split (suc k) zero (Some f) h = (k, refl)
split (suc k) (suc earlier) None h = let y = split k earlier None (omega arith) in (y.0, ap (λ l. OneUnit None ∷ l) y.1)
split (suc k) (suc earlier) (Some f) h = let y = split k earlier (Some f) (omega arith) in (y.0, ap (λ l. OneUnit None ∷ l) y.1)

module _ (c : ChannelState) (place : ℕ) (r : RunningState) (m : Machine) (w : WorksFor c place r m) (stands : StandsFor c m) (k done : ℕ)
    (s : Storage) (new : DriveState) where
  -- the step is read off the run
  stepped_at : (x : Option FaultAfter) → react (StepBy k) x m ≡ stepped w.attached.device w.script k m
      (Some (run (w.script ++ units_with k x) (start_of m w.drive)))
  stepped_at x = ap (step k x m) (subchannel_of c place r m w)
      ∙ ap (stepped w.attached.device w.script k m) (run_at c place r m w stands.sound (w.script ++ units_with k x))

  -- It goes on.

  module _ (r' : RunningState) (how : WentOn r.key (phase_in r c.storage w.attached.drive) k done r' s w.attached.drive new) where
    abbrev now : ChannelState
    now = channel_with c s (Working place r') place (with_drive w.attached new)

    runs_on : StandsAtRun (start_of m w.drive) (w.script ++ units k) r' s new
    runs_on = subst (λ n. StandsAtRun (start_of m w.drive) (w.script ++ units n) r' s new) how.done
        (after_units goes_by (start_of m w.drive) w.script r r' c.storage s w.attached.drive new k done w.runs how)

    went : react (StepBy k) None m ≡ (Stepped done, goes_on w.attached.device w.script (units k) m)
    went = stepped_at None ∙ rw (seen (start_of m w.drive) (w.script ++ units k) r' s new runs_on, how.done) refl

    same_devices : map (changes w.attached.device (set_drive w.drive)) (devices c.drives)
        ≡ map (changes w.attached.device (set_drive w.drive)) (devices now.drives)
    same_devices = rw (map-map, map-map) (sym (map_same (λ u. changes w.attached.device (set_drive w.drive) (device_of u)) c.drives place
        w.attached (with_drive w.attached new) w.is_there (rw (same_number w.attached.device) refl)))

    works_on : WorksFor now place r' (goes_on w.attached.device w.script (units k) m)
    works_on = record {
      attached = with_drive w.attached new;
      is_there = get_set c.drives place w.attached (with_drive w.attached new) w.is_there;
      storage = w.storage;
      drive = w.drive;
      script = w.script ++ units k;
      machine = ap (with_subchannel (machine.Working w.attached.device (w.script ++ units k))) w.machine ∙ rw same_devices refl;
      runs = runs_on;
      others = others_set c.drives place w.attached (with_drive w.attached new) w.is_there w.others;
    }

    pub goes_on_does : Does (StepBy k) m (Stepped done) c now
    goes_on_does = does_this (StepBy k) m (Stepped done) c now None (goes_on w.attached.device w.script (units k) m) stands went
        (record {
          number = refl;
          few = few_drives c s (Working place r') place w.attached (with_drive w.attached new) w.is_there stands.few;
          shows = works_on;
        })
        (same_failures c s (Working place r') place w.attached (with_drive w.attached new) w.is_there how.failures)
        (no_fault_none_told m (StepBy k) (runs_of m stands.sound))

  -- It ends.

  module _ (told : Csw × Bool) (tells : TellsOf (Some told) w.attached.drive new)
      (how : CameToEnd r.key (phase_in r c.storage w.attached.drive) k done told s w.attached.drive new) where
    abbrev now_over : ChannelState
    now_over = over c place w.attached s told.0 told.1 new

    came : (f : Option Fault) → how.fault ≡ f → react (StepBy k) (met_in how.earlier f) m ≡ (
      Stepped done,
      ended w.attached.device s how.ending m,
    )
    came f is =
        let y = split k how.earlier f (omega (arith, how.last, how.done)) in
        let less : (a b : ℕ) → a + b - a ≡ b = λ a b. omega arith in
        stepped_at (met_in how.earlier f)
        ∙ ap (λ l. stepped w.attached.device w.script k m (Some (run (w.script ++ l) (start_of m w.drive)))) (y.1 ∙ rw is refl)
        ∙ ap (λ o. stepped w.attached.device w.script k m (Some o)) (ends_after ends_by ended_stays (start_of m w.drive) w.script r
        c.storage s w.attached.drive new k done told w.runs how (units y.0)) ∙ rw (less (units_in w.script) done) refl

    one_more : done ≡ suc how.earlier
    one_more = omega (arith, how.last)

    is_met : (f : Option Fault) → program.IsMet f w.attached.drive new → IsMet (met_in how.earlier f) (Stepped done) c now_over
    is_met None h = same_failures c s (Pending w.attached.device told.0) place w.attached (with_both w.attached told.1 new) w.is_there h
    is_met (Some f) h = (
      one_failure c s (Pending w.attached.device told.0) place w.attached (with_both w.attached told.1 new) w.is_there h,
      one_more,
    )

    is_told : (f : Option Fault) → how.fault ≡ f → program.IsMet f w.attached.drive new → Reports (StepBy k) m (met_in how.earlier f)
    is_told None is h = no_fault_none_told m (StepBy k) (runs_of m stands.sound)
    is_told (Some f) is h = subst (λ a. EndedByFault a (Stepped (suc how.earlier))) (sym (came (Some f) is
        ∙ ap (λ n. (Stepped n, ended w.attached.device s how.ending m)) one_more))
        (over_fault c place r m w stands.sound s told new how.ending how.is_ending (Stepped (suc how.earlier))
        (fault_told told w.attached.drive new tells h))

    pub ends_does : Does (StepBy k) m (Stepped done) c now_over
    ends_does = does_this (StepBy k) m (Stepped done) c now_over (met_in how.earlier how.fault) (ended w.attached.device s how.ending m)
        stands (came how.fault refl)
        (record {
          number = refl;
          few = few_drives c s (Pending w.attached.device told.0) place w.attached (with_both w.attached told.1 new) w.is_there stands.few;
          shows = (
            over_machine c place r m w stands.sound s told new how.ending how.is_ending,
            over_rest c place r m w stands.sound s told new how.ending how.is_ending,
          );
        })
        (is_met how.fault how.met) (is_told how.fault refl how.met)

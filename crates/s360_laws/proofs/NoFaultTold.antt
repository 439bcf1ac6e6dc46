-- Without a fault no event reports one; and a reset reports a track only where the program had written it.
use Rattle.std.proofs.Common.{arith, ◌%◌, ◌≡◌, ℕ, refl, sym, ap, subst, ◌∙◌, true, false, cond, ◌==◌, [], ◌∷◌, ◌++◌, map, Option, Some}
use Rattle.std.proofs.Common.{None, append-nil}
use Rattle.std.proofs.lemmas.Bool.{cond_both, eqb-true}
use Rattle.std.proofs.lemmas.Option.{same_Some}
use Rattle.std.specs.Prelude.{find, option_map, is_some}
use Rattle.s360_words.specs.Storage.{Storage}
use Rattle.ckd_command.specs.Drive.{tells_equipment_check}
use Rattle.s360_laws.specs.Endings.{Ended, Ending, NotEnded, Outcome}
use Rattle.s360_laws.specs.Faults.{without_faults}
use Rattle.s360_laws.specs.Runs.{run}
use Rattle.s360_laws.specs.Scripts.{Script, OneUnit, units}
use Rattle.s360_laws.specs.Starts.{First, RejectedStart, ImmediateStart}
use Rattle.s360_laws.specs.Units.{standing_in}
use Rattle.s360_laws.specs.Unsaved.{GainsNoCheck, TellsNoFault, OutcomeTellsNoFault, FirstTellsNoFault}
use Rattle.s360_laws.proofs.FaultsMet.{goes_on_without_faults}
use Rattle.s360_laws.proofs.UnsavedTracks.{no_fault_nothing_told, unsaved_was_written}
use Rattle.s360_laws.proofs.Standing.{stands_by_walk}
use Rattle.s360_laws.specs.Events.{Answer, Event, WasReset, Reset}
use Rattle.s360_laws.specs.Machine.{ended, Device, Machine, device_at, arm_after, started, with_arm, with_ending, start_of, react}
use Rattle.s360_laws.specs.Machine.{Subchannel, Working, unsaved_at, address_of, all_at_rest, at_rest, fault_in}
use Rattle.s360_laws.specs.NothingTold.{TellsNoTrack, NoneGainsCheck, NoFaultNoneTold, HadWritten, ResetTellsWritten}
use Rattle.s360_laws.specs.declared.arm.Arm.{Arm}
use Rattle.s360_laws.specs.declared.arm.Arm.TheVariants.{AtRest, Arrived}
use Rattle.s360_laws.proofs.FindDevices.{Keeps, found_map, keeps_one, set_arm, set_both, set_drive, idle, found_is}
use Rattle.s360_laws.proofs.Reactions.{Reacts, Same, Arrives, Clears, EndAtStart, EndAtTest, EndInterrupts, Starts, Halts, Cuts, StepEnds}
use Rattle.s360_laws.proofs.Reactions.{Stands, reacts}
use Rattle.s360_laws.proofs.StepUnits.{plain_step}

-- Changes of devices.

abbrev Quietly : Option Device → Option Device → Type 0
Quietly x y = (d e : Device) → x ≡ Some d → y ≡ Some e → GainsNoCheck d.drive e.drive

same_devices : (x : Option Device) → Quietly x x
same_devices x d e h k = grind arith

-- where one device is changed, and gains nothing
one_changed : (m : Machine) (d : ℕ) (f : Device → Device) → Keeps f → ((v : Device) → device_at m d ≡ Some v
    → GainsNoCheck v.drive (f v).drive)
    → (n : ℕ) → Quietly (device_at m n) (find (λ w. w.device == n) (map (λ w. cond (w.device == d) (f w) w) m.devices))
one_changed m d f k h n v e at after = subst (λ e. GainsNoCheck v.drive e.drive) changed
    (cond_both (v.device == d) (f v) v (λ w. GainsNoCheck v.drive w.drive)
    (λ e. h v (subst (λ n. device_at m n ≡ Some v) (sym (eqb-true v.device n is_n) ∙ eqb-true v.device d e) at)) (λ e q. q))
  where
    changed : cond (v.device == d) (f v) v ≡ e
    changed = same_Some _ _ (sym (ap (option_map (λ w. cond (w.device == d) (f w) w)) at)
        ∙ sym (found_map (λ b. b == n) _ (keeps_one d f k) m.devices) ∙ after)

    is_n : (v.device == n) ≡ true
    is_n = found_is (λ w. w.device == n) m.devices v at

abbrev Calm : Machine → Answer × Machine → Type 0
Calm m r = TellsNoTrack r.0 × NoneGainsCheck m r.1

none_changed : (m : Machine) → NoneGainsCheck m m
none_changed m n = same_devices (device_at m n)

armed : (m : Machine) (arm : Arm) (d : ℕ) → NoneGainsCheck m (with_arm arm d m)
armed m arm d = one_changed m d (set_arm arm) (λ v. refl) (λ v at q. q)

ending_calm : (m : Machine) (d : ℕ) (st : Storage) (e : Ending) (v : Device) → device_at m d ≡ Some v → TellsNoFault v.drive e
    → NoneGainsCheck m (with_ending d st e m)
ending_calm m d st e v at h = one_changed m d (set_both (arm_after e) e.drive) (λ w. refl)
    (λ w there. subst (λ w. GainsNoCheck w.drive e.drive) (same_Some v w (sym at ∙ there)) h.no_check)

-- Runs that have not ended.

without_append : (script : Script) (k : ℕ) → without_faults script ++ units k ≡ without_faults (script ++ units k)
without_append [] k = sym (plain_step k None)
without_append (OneUnit f ∷ rest) k = ap (λ l. OneUnit None ∷ l) (without_append rest k)
without_append (turn ∷ rest) k = ap (λ l. turn ∷ l) (without_append rest k)

-- over further units without a fault
runs_calm : (m : Machine) (d : ℕ) (s : Script) (w : Stands m d s) (k : ℕ)
    → OutcomeTellsNoFault w.drive.drive (run (s ++ units k) (start_of m w.drive.drive))
runs_calm m d s w k = subst (OutcomeTellsNoFault w.drive.drive)
    (ap (λ l. run l (start_of m w.drive.drive)) (sym (without_append s k))
    ∙ goes_on_without_faults (start_of m w.drive.drive) s w.seen w.stands (units k))
    (no_fault_nothing_told (start_of m w.drive.drive) (s ++ units k)).0

-- Events.

begun_calm : (m : Machine) (d : ℕ) (v : Device) (f : First) → device_at m d ≡ Some v → FirstTellsNoFault v.drive f
    → Calm m (started d (idle m) f)
begun_calm m d v (RejectedStart drive) at h = (
  tt,
  one_changed m d (set_drive drive) (λ w. refl) (λ w there. subst (λ w. GainsNoCheck w.drive drive) (same_Some v w (sym at
      ∙ there)) h),
)
begun_calm m d v (ImmediateStart e) at h = (tt, ending_calm m d m.storage e v at h)
begun_calm m d v f at h = (tt, none_changed m)

-- at rest no sense reports anything
rests_calm : (m n : Machine) → NoneGainsCheck m (all_at_rest n)
rests_calm m n d v e at after = λ q. go (device_at n d) (sym (found_map (λ b. b == d) at_rest (λ w. refl) n.devices) ∙ after)
  where
    go : (y : Option Device) → option_map at_rest y ≡ Some e → tells_equipment_check e.drive.sense ≡ false
    go y h = grind arith

-- a program that runs is cut with no fault
cut_calm : (m : Machine) (d : ℕ) (s : Script) (w : Stands m d s) → TellsNoFault w.drive.drive (w.seen.cut None)
cut_calm m d s w = subst (OutcomeTellsNoFault w.drive.drive) (ap (λ l. run l (start_of m w.drive.drive)) (append-nil s)
    ∙ w.stands) (runs_calm m d s w 0)

calm : (m : Machine) {c : Subchannel} {e : Event} {r : Answer × Machine} → Reacts m None c e r → Calm m r
calm m (Same c e a h k) = (k, none_changed m)
calm m (Arrives c a d v at k) = (tt, armed m Arrived d)
calm m (Clears c k) = (refl, rests_calm m m)
calm m (EndAtStart a d v at k) = (tt, armed m AtRest d)
calm m (EndAtTest a d v at k) = (tt, armed m AtRest d)
calm m (EndInterrupts d k) = (tt, armed m AtRest d)
calm m (Starts a v at k f h) =
    begun_calm m (a % 256) v f at.is_there (subst (FirstTellsNoFault v.drive) h (no_fault_nothing_told (start_of m v.drive) []).1)
calm m (Halts d s a w) = (tt, ending_calm m d w.seen.storage (w.seen.cut None) w.drive w.is_there (cut_calm m d s w))
calm m (Cuts d s w) = (
  ap (option_map (λ t. (address_of m d, t.0, t.1))) (cut_calm m d s w).saved,
  rests_calm m (ended d w.seen.storage (w.seen.cut None) m),
)
calm m (StepEnds d s k w used st e h) =
    (tt, ending_calm m d st e w.drive w.is_there (subst (OutcomeTellsNoFault w.drive.drive) h (runs_calm m d s w k)))
calm m r = (tt, none_changed m)

pub no_fault_none_told : NoFaultNoneTold
no_fault_none_told m e r = calm m (reacts m None m.subchannel e r)

-- Resets that report a track.

told_some : (address : ℕ) (y : Option (ℕ × ℕ)) (track : ℕ × ℕ × ℕ) → WasReset (option_map (λ t. (address, t.0, t.1)) y)
    ≡ WasReset (Some track) → is_some y ≡ true
told_some address y track h = grind arith

pub reset_tells_written : ResetTellsWritten
reset_tells_written m x track h = go m.subchannel refl h
  where
    by_run : (d : ℕ) (s : Script) (v : Device) → m.subchannel ≡ Working d s → device_at m d ≡ Some v → (o : Outcome)
        → run s (start_of m v.drive) ≡ o
        → WasReset (unsaved_at (address_of m d) (fault_in x) (Some o)) ≡ WasReset (Some track) → HadWritten m
    by_run d s v is at (Ended used st e) k h = absurd (cc)
    by_run d s v is at (NotEnded seen) k h =
        let y = stands_by_walk (start_of m v.drive) s seen k in
        let told : is_some ((standing_in y.caw.key y.phase).cut (fault_in x)).unsaved ≡ true =
        rw (← y.seen_is) (told_some (address_of m d) (seen.cut (fault_in x)).unsaved track h) in
        record {
          device = d;
          script = s;
          worked = is;
          drive = v;
          is_there = at;
          caw = y.caw;
          phase = y.phase;
          stands = y.walks;
          written = (unsaved_was_written (start_of m v.drive) y.caw s y.phase (fault_in x) y.walks).1 told;
        }

    by_device : (d : ℕ) (s : Script) → m.subchannel ≡ Working d s → (y : Option Device) → device_at m d ≡ y
        → WasReset (unsaved_at (address_of m d) (fault_in x) (option_map (λ v. run s (start_of m v.drive)) y)) ≡ WasReset (Some track)
        → HadWritten m
    by_device d s is None at h = absurd (cc)
    by_device d s is (Some v) at h = by_run d s v is at (run s (start_of m v.drive)) refl h

    go : (c : Subchannel) → m.subchannel ≡ c → (react Reset x (record m { subchannel = c })).0 ≡ WasReset (Some track) → HadWritten m
    go (Working d s) is h = by_device d s is (device_at m d) refl h
    go c is h = absurd (cc)

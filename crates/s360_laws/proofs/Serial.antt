-- Event by event, the machine does what its acts do.
use Rattle.std.proofs.Common.{arith, ◌≡◌, ℕ, refl, sym, ap, ◌∙◌, true, false, cond, ◌==◌, List, [], ◌∷◌, ◌++◌, map, Option, ◌%◌, subst}
use Rattle.std.proofs.Common.{Some, zero, suc, ◌-◌, append_assoc, append-nil}
use Rattle.std.proofs.lemmas.Bool.{cond_both}
use Rattle.std.proofs.lemmas.List.{map-id}
use Rattle.std.specs.Prelude.{find, option_map}
use Rattle.s360_words.specs.Storage.{Change, status_stored, csw_stored, Storage, changed}
use Rattle.s360_words.specs.declared.flags.TheConstants.UnitStatus.{DEVICE_END, UNIT_CHECK}
use Rattle.ckd_command.specs.Drive.{IdleDrive, no_sense, Fault}
use Rattle.s360_laws.specs.Endings.{Outcome, Ending, Ended, NotEnded, Standing}
use Rattle.s360_laws.specs.Laws.{IsFirstUnit}
use Rattle.s360_laws.specs.Runs.{run, Start}
use Rattle.s360_laws.specs.Scripts.{units, Script, units_in, Outside, TakesInterruption}
use Rattle.s360_laws.specs.Starts.{First, first, BadStart, AcceptedStart, RejectedStart, ImmediateStart}
use Rattle.s360_laws.specs.Status.{no_channel_status, busy_device_end}
use Rattle.s360_laws.specs.Units.{ProgramPhase, walk, StandsIn, standing_in, Between, phase_past, StandsAt}
use Rattle.s360_laws.proofs.FirstUnits.{first_is_unit}
use Rattle.s360_laws.proofs.Standing.{seen_there, goes_by, stands_somewhere}
use Rattle.s360_laws.specs.Events.{Exchange, Event, FaultAfter, Answer, Arrive, Sio, StepBy, Input, HasArrived, Stepped}
use Rattle.s360_laws.specs.History.{with_drive, units_ahead, history, world_of, all_acts, acts, Runs, World, does, Changes, own_change}
use Rattle.s360_laws.specs.History.{where_over, drive_in, after_first, after_rejection, Program, ByItself, after_run, after_program}
use Rattle.s360_laws.specs.History.{start_acts, ClearsSense, Fate, after_end, script_ahead, fate_ahead, IsCut, begun_act, IsSerial}
use Rattle.s360_laws.specs.Ledger.{later}
use Rattle.s360_laws.specs.Machine.{Device, at_rest, Machine, is_working, with_csw, csw_of_unit, with_status, device_at, start_of, started}
use Rattle.s360_laws.specs.Machine.{with_ending, arm_after, react, run_of, fault_in, units_with, with_arm, Working, Subchannel, exchanges}
use Rattle.s360_laws.specs.Machine.{with_subchannel, ended, goes_on}
use Rattle.s360_laws.specs.Soundness.{IsRunning}
use Rattle.s360_laws.specs.declared.arm.Arm.{Arm}
use Rattle.s360_laws.specs.declared.arm.Arm.TheVariants.{AtRest, Arrived}
use Rattle.s360_laws.proofs.AlikeLists.{unmoved, Alike, arrival_gone}
use Rattle.s360_laws.proofs.FindDevices.{found_map, keeps_one, find_map, idle, working, set_arm, set_both, set_drive, run_at}
use Rattle.s360_laws.proofs.Reactions.{Reacts, Same, Arrives, Changed, Starts, Clears, Halts, Cuts, StepEnds, StepGoes, Asks, Within}
use Rattle.s360_laws.proofs.Reactions.{reacts, EndAtStart, EndAtTest, EndInterrupts, InterruptTakes, Stands}
use Rattle.s360_laws.proofs.StepUnits.{step_script, quiet_script, unmet, ended_there}

-- Devices as the history sees them.

abbrev pub seen : Device → ℕ × IdleDrive
seen u = (u.device, u.drive)

seen_map : (f : Device → Device) (g : ℕ × IdleDrive → ℕ × IdleDrive) → ((u : Device) → seen (f u) ≡ g (seen u)) → (us : List Device)
    → map seen (map f us) ≡ map g (map seen us)
seen_map f g h [] = refl
seen_map f g h (u ∷ us) = ap (λ x. x ∷ map seen (map f us)) (h u) ∙ ap (λ r. g (seen u) ∷ r) (seen_map f g h us)

arms : (arm : Arm) (device : ℕ) (us : List Device) → map seen (map (λ u. cond (u.device == device) (set_arm arm u) u) us) ≡ map seen us
arms arm device us = seen_map _ (λ p. p) (λ u. cond_both (u.device == device) (set_arm arm u) u (λ v. seen v ≡ seen u) (λ e. refl)
    (λ e. refl)) us ∙ map-id (map seen us)

drives : (f : Device → Device) (d : IdleDrive) → ((u : Device) → seen (f u) ≡ (u.device, d)) → (device : ℕ) (us : List Device)
    → map seen (map (λ u. cond (u.device == device) (f u) u) us) ≡ with_drive device d (map seen us)
drives f d k device us = seen_map _ _ (λ u. let changed = k u in grind arith) us

found : (device : ℕ) (us : List Device) → find (λ p. p.0 == device) (map seen us) ≡ option_map seen (find (λ u. u.device == device) us)
found device us = find_map (λ p. p.0 == device) (λ u. u.device == device) seen (λ u. refl) us

look_up : (m : Machine) (device : ℕ) (u : Device) → device_at m device ≡ Some u → drive_in (world_of m) device ≡ Some (seen u)
look_up m device u h = found device m.devices ∙ ap (option_map seen) h

-- a run is that of the drive that is seen, so an arm does not change it
still_runs : (m : Machine) (c : Subchannel) (arm : Arm) (device : ℕ) → Runs m c → Runs (with_arm arm device m) c
still_runs m (Working d s) arm device r = rw (found_map (λ n. n == d) (λ u. cond (u.device == device) (set_arm arm u) u)
    (keeps_one device (set_arm arm) (λ u. refl)) m.devices) (same_run (device_at m d) r)
  where
    same_run : (y : Option Device) → IsRunning (option_map (λ u. run s (start_of m u.drive)) y)
        → IsRunning (option_map (λ u. run s (start_of m u.drive)) (option_map (λ u. cond (u.device == device) (set_arm arm u) u) y))
    same_run y r = grind arith
still_runs m c arm device r = tt

-- What each event owes.

abbrev pub Quiet : Machine → List Exchange → Type 0
Quiet m ahead = is_working m.subchannel ≡ false → units_ahead ahead ≡ 0

abbrev pub Follows : Machine → Event → Option FaultAfter → Answer → Machine → Type 0
Follows m e x a m_two = (ahead : List Exchange) → Quiet m_two ahead → history (world_of m_two) (all_acts m_two ahead) ≡ history (world_of m)
    (all_acts m ((e, x, a) ∷ ahead))

pub record Good (m : Machine) (e : Event) (x : Option FaultAfter) (r : Answer × Machine) : Type 0 where
  pub runs : Runs r.1 r.1.subchannel
  pub follows : Follows m e x r.0 r.1

-- where the world changes by equal steps
abbrev with_world : World → List (ℕ × IdleDrive) → World
with_world w ds = record w { drives = ds }

same_after : (ahead : List Exchange) (w w_two : World) → w ≡ w_two → history w (acts ahead) ≡ history w_two (acts ahead)
same_after ahead w w_two h = ap (λ w. history w (acts ahead)) h

-- where no unit follows, a change is an act of its own
own : (ahead : List Exchange) (c : Change) (w : World) → units_ahead ahead ≡ 0 → history (does w (Changes c)) (acts ahead)
    ≡ history w (own_change ahead c ++ acts ahead)
own ahead c w h = sym (ap (λ n. history w (where_over n (Changes c ∷ []) [] ++ acts ahead)) h)

-- what is alike has the same acts, also where a program runs
alike : (c : Subchannel) (w : World) {y z : List Exchange} → Alike y z → history w (begun_act c z ++ acts z)
    ≡ history w (begun_act c y ++ acts y)
alike c w k = grind arith

-- a reset clears what is seen of the sense
clear : (m : Machine) (ahead : List Exchange) → history (record (world_of m) { drives = map seen (map at_rest m.devices) }) (acts ahead)
    ≡ history (does (world_of m) ClearsSense) (acts ahead)
clear m ahead = ap (λ ds. history (record (world_of m) { drives = ds }) (acts ahead))
    (seen_map at_rest (λ p. (p.0, record p.1 { sense = no_sense })) (λ u. refl) m.devices)

-- Programs.

program_world : (m : Machine) (device : ℕ) (script : Script) (fate : Fate) (u : Device) (o : Outcome) → device_at m device ≡ Some u
    → run script (start_of m u.drive) ≡ o
    → does (world_of m) (Program device script fate) ≡ after_run (world_of m) device fate o
program_world m device script fate u o at h = ap (after_program (world_of m) device script fate) (look_up m device u at)
    ∙ ap (after_run (world_of m) device fate) h

end_world : (m : Machine) (device : ℕ) (st : Storage) (e : Ending) → world_of (with_ending device st e m)
    ≡ after_end (world_of m) device st e.drive
end_world m device st e = ap (λ ds. record (world_of m) { storage = st; drives = ds }) (drives (set_both (arm_after e) e.drive) e.drive
    (λ u. refl) device m.devices)

runs_at : (m : Machine) (d : ℕ) (script : Script) (u : Device) (seen : Standing) → device_at m d ≡ Some u → run script (start_of m u.drive)
    ≡ NotEnded seen → IsRunning (run_of m d script)
runs_at m d script u seen at h = subst IsRunning (sym (run_at m d u script at ∙ ap Some h)) tt

-- a first unit
begin_good : (a : ℕ) (x : Option FaultAfter) (m : Machine) (u : Device) (f : First) → device_at m (a % 256) ≡ Some u
    → first (start_of m u.drive) ≡ f → IsFirstUnit (start_of m u.drive) f (run (units 1) (start_of m u.drive))
    → Good (idle m) (Sio a) x (started (a % 256) (idle m) f)
begin_good a x m u BadStart at h r = record { runs = tt; follows = λ ahead q. refl }
begin_good a x m u AcceptedStart at h r = record {
  runs = subst IsRunning (sym (run_at m (a % 256) u (units 1) at)) r;
  follows =
      λ ahead q. refl;
}
begin_good a x m u (RejectedStart d) at h r = record {
  runs = tt;
  follows = λ ahead q. same_after ahead _ _
      (ap (λ ds. record (world_of (with_status UNIT_CHECK no_channel_status m)) { drives = ds }) (drives (set_drive d) d (λ u. refl)
      (a % 256) m.devices)
      ∙ ap (λ f. does (after_first (world_of m) (a % 256) f) (Changes (status_stored UNIT_CHECK.0 no_channel_status.0))) (sym h)
      ∙ ap (λ y. does (after_rejection (world_of m) (a % 256) y) (Changes (status_stored UNIT_CHECK.0 no_channel_status.0)))
      (sym (look_up m (a % 256) u at)));
}
begin_good a x m u (ImmediateStart e) at h r = let at_once : start_acts (a % 256) e.csw.unit ≡ Program (a % 256) (units 1) ByItself ∷ [] =
    grind arith in record {
      runs = tt;
      follows = λ ahead q. same_after ahead _ _
          (ap (λ w. does w (Changes (status_stored e.csw.unit.0 e.csw.channel.0)))
          (end_world m (a % 256) m.storage e ∙ sym (program_world m (a % 256) (units 1) ByItself u (Ended 1 m.storage e) at r.0)))
          ∙ ap (λ l. history (world_of m) ((l ++ Changes (status_stored e.csw.unit.0 e.csw.channel.0) ∷ []) ++ acts ahead)) (sym at_once);
    }

-- a program that runs
module _ (m : Machine) (x : Option FaultAfter) (d : ℕ) (s : Script) (w : Stands m d s) where
  abbrev start : Start
  start = start_of m w.drive.drive

  cut_world : world_of (ended d w.seen.storage (w.seen.cut (fault_in x)) m) ≡ does (world_of m) (Program d (s ++ []) (IsCut (fault_in x)))
  cut_world = end_world m d w.seen.storage (w.seen.cut (fault_in x))
      ∙ sym (program_world m d (s ++ []) (IsCut (fault_in x)) w.drive (NotEnded w.seen) w.is_there (ap (λ l. run l start) (append-nil s)
      ∙ w.stands))

  step_goes : (k : ℕ) (seen : Standing) → run (s ++ units_with k x) start ≡ NotEnded seen → Good (working m d s) (StepBy k) x (
    Stepped k,
    goes_on d s (units k) m,
  )
  step_goes k seen h =
      let y = stands_somewhere start s w.seen w.stands in
      let plain = unmet start s y.0 y.1 k x seen y.2 h in
      record {
        runs = runs_at m d (s ++ units k) w.drive seen w.is_there (ap (λ l. run l start) (sym (append-nil (s ++ units k))) ∙ plain []
            ∙ ap (λ l. run l start) (append-nil (s ++ units_with k x)) ∙ h);
        follows = λ ahead q. same_after ahead _ _
            (program_world m d ((s ++ units k) ++ script_ahead ahead) (fate_ahead ahead) w.drive _ w.is_there (plain (script_ahead ahead))
            ∙ sym (program_world m d ((s ++ units_with k x) ++ script_ahead ahead) (fate_ahead ahead) w.drive _ w.is_there refl))
            ∙ ap (λ l. history (world_of m) (Program d l (fate_ahead ahead) ∷ acts ahead)) (append_assoc s (units_with k x)
            (script_ahead ahead) ∙ ap (λ l. s ++ l) (step_script k x ahead));
      }

  step_ends : (k used : ℕ) (st : Storage) (e : Ending) → run (s ++ units_with k x) start ≡ Ended used st e
      → Good (working m d s) (StepBy k) x (Stepped (used - units_in s), ended d st e m)
  step_ends k used st e h =
      let y = stands_somewhere start s w.seen w.stands in
      let done = units_with (used - units_in s) x in
      record {
        runs = tt;
        follows = λ ahead q. same_after ahead _ _
            (end_world m d st e ∙ sym (program_world m d (s ++ done) (fate_ahead ahead) w.drive (Ended used st e) w.is_there
            (ended_there start s y.0 y.1 k used x st e y.2 h)))
            ∙ ap (λ l. history (world_of m) (Program d (s ++ l) (fate_ahead ahead) ∷ acts ahead))
            (sym (ap (λ l. done ++ l) (quiet_script ahead (q refl)) ∙ append-nil done) ∙ step_script (used - units_in s) x ahead);
      }

-- what comes between two units

abbrev Later : ℕ → Script → Change → ProgramPhase → Type 0
Later key more c g = (h : ProgramPhase) × (walk more key g ≡ StandsIn h)
    × ((standing_in key h).storage ≡ changed c (standing_in key g).storage)
    × ((f : Option Fault) → ((standing_in key h).cut f).drive ≡ ((standing_in key g).cut f).drive)

later_change : (c : Change) (key : ℕ) (g : ProgramPhase) → Later key (Outside c ∷ []) c g
later_change c key (Between p) = (phase_past (Outside c) (Between p), refl, refl, λ f. refl)
later_change c key g = (phase_past (Outside c) g, refl, refl, λ f. refl)

later_mark : (c : Change) (key : ℕ) (g : ProgramPhase) → Later key (TakesInterruption ∷ Outside c ∷ []) c g
later_mark c key (Between p) = (phase_past (Outside c) (phase_past TakesInterruption (Between p)), refl, refl, λ f. refl)
later_mark c key g = (phase_past (Outside c) (phase_past TakesInterruption g), refl, refl, λ f. refl)

changed_run : (w : World) (d : ℕ) (fate : Fate) (c : Change) (a b : Standing) → b.storage ≡ changed c a.storage
    → ((f : Option Fault) → (b.cut f).drive ≡ (a.cut f).drive)
    → after_run w d fate (NotEnded b) ≡ does (after_run w d fate (NotEnded a)) (Changes c)
changed_run w d ByItself c a b s e = ap (λ s. record w { storage = s }) s
changed_run w d (IsCut f) c a b s e = ap (λ s. after_end w d s (b.cut f).drive) s ∙ ap (λ v. after_end w d (changed c a.storage) v) (e f)

between_good : (m : Machine) (d : ℕ) (s more : Script) (c : Change) (w : Stands m d s) → ((key : ℕ) (g : ProgramPhase) → Later key more c g)
    → IsRunning (run_of m d (s ++ more))
    × ((ahead : List Exchange) → history (world_of m) (Program d ((s ++ more) ++ script_ahead ahead) (fate_ahead ahead) ∷ acts ahead)
    ≡ history (world_of m) (Program d (s ++ where_over (units_ahead ahead) [] (more ++ script_ahead ahead)) (fate_ahead ahead)
    ∷ (own_change ahead c ++ acts ahead)))
between_good m d s more c w later = (
  runs_at m d (s ++ more) w.drive (standing_in y.0 l.0) w.is_there there,
  λ ahead. go ahead (units_ahead ahead) refl,
)
  where
    start : Start
    start = start_of m w.drive.drive

    y : (key : ℕ) × (g : ProgramPhase) × StandsAt start s key g
    y = let y = stands_somewhere start s w.seen w.stands in (y.0, y.1, y.2)

    l : Later y.0 more c y.1
    l = later y.0 y.1

    there : run (s ++ more) start ≡ NotEnded (standing_in y.0 l.0)
    there = seen_there start (s ++ more) y.0 l.0 (goes_by start s more y.0 y.1 l.0 y.2 l.1)

    go : (ahead : List Exchange) (n : ℕ) → units_ahead ahead ≡ n
        → history (world_of m) (Program d ((s ++ more) ++ script_ahead ahead) (fate_ahead ahead) ∷ acts ahead)
        ≡ history (world_of m) (Program d (s ++ where_over n [] (more ++ script_ahead ahead)) (fate_ahead ahead)
        ∷ (where_over n (Changes c ∷ []) [] ++ acts ahead))
    go ahead (suc n) e = ap (λ l. history (world_of m) (Program d l (fate_ahead ahead) ∷ acts ahead))
        (append_assoc s more (script_ahead ahead))
    go ahead zero e =
        ap (λ x. history (world_of m) (Program d ((s ++ more) ++ x) (fate_ahead ahead) ∷ acts ahead)) (quiet_script ahead e)
        ∙ same_after ahead _ _
        (program_world m d ((s ++ more) ++ []) (fate_ahead ahead) w.drive (NotEnded (standing_in y.0 l.0)) w.is_there
        (ap (λ x. run x start) (append-nil (s ++ more)) ∙ there)
        ∙ changed_run (world_of m) d (fate_ahead ahead) c (standing_in y.0 y.1) (standing_in y.0 l.0) l.2 l.3
        ∙ ap (λ w. does w (Changes c)) (sym (program_world m d (s ++ []) (fate_ahead ahead) w.drive (NotEnded (standing_in y.0 y.1))
        w.is_there (ap (λ x. run x start) (append-nil s) ∙ seen_there start s y.0 y.1 y.2))))

-- Every event.

good_by : (m : Machine) (x : Option FaultAfter) {c : Subchannel} {e : Event} {r : Answer × Machine} → Reacts m x c e r
    → Runs (with_subchannel c m) c → Good (with_subchannel c m) e x r
good_by m x (Same c e a h k) r = record { runs = r; follows = λ ahead q. alike c (world_of m) ((unmoved (e, x, a) h).1 ahead) }
good_by m x (Arrives c a d v at k) r = record {
  runs = still_runs (with_subchannel c m) c Arrived d r;
  follows = λ ahead q. ap (λ ds. history (with_world (world_of m) ds) (begun_act c ahead ++ acts ahead)) (arms Arrived d m.devices)
      ∙ alike c (world_of m) (arrival_gone (Arrive a, x, HasArrived true) ahead refl);
}
good_by m x (Changed c made k) r = record {
  runs = grind arith;
  follows = λ ahead q. let own_act = own ahead made (world_of m) (q k) in
      grind arith;
}
good_by m x (Clears c k) r = record { runs = tt; follows = λ ahead q. let cleared = clear m ahead in grind arith }
good_by m x (EndAtStart a d v at k) r =
    record {
      runs = tt;
      follows = λ ahead q. ap (λ ds. history (with_world (world_of (with_status busy_device_end no_channel_status m)) ds)
          (acts ahead)) (arms AtRest d m.devices);
    }
good_by m x (EndAtTest a d v at k) r =
    record {
      runs = tt;
      follows = λ ahead q. ap (λ ds. history (with_world (world_of (with_csw (csw_of_unit DEVICE_END) m)) ds)
          (acts ahead)) (arms AtRest d m.devices);
    }
good_by m x (EndInterrupts d k) r = record {
  runs = tt;
  follows = λ ahead q. ap (λ ds. history (with_world (world_of (with_csw (csw_of_unit DEVICE_END) m)) ds) (acts ahead))
      (arms AtRest d m.devices) ∙ own ahead (csw_stored (csw_of_unit DEVICE_END)) (world_of m) (q refl);
}
good_by m x (Starts a v at k f h) r =
    begin_good a x m v f at.is_there h (subst (λ f. IsFirstUnit (start_of m v.drive) f (run (units 1) (start_of m v.drive))) h
    (first_is_unit (start_of m v.drive)).unit_is)
good_by m x (InterruptTakes p csw) r = record { runs = tt; follows = λ ahead q. own ahead (csw_stored csw) (world_of m) (q refl) }
good_by m x (Halts d s a w) r = record { runs = tt; follows = λ ahead q. same_after ahead _ _ (cut_world m x d s w) }
good_by m x (Cuts d s w) r = record {
  runs = tt;
  follows = λ ahead q. clear (with_ending d w.seen.storage (w.seen.cut (fault_in x)) m) ahead
      ∙ same_after ahead _ _ (ap (λ w. does w ClearsSense) (cut_world m x d s w));
}
good_by m x (StepEnds d s k w used st e h) r = step_ends m x d s w k used st e h
good_by m x (StepGoes d s k w seen h) r = step_goes m x d s w k seen h
good_by m x (Asks d s w csw h) r = let g = between_good m d s (TakesInterruption ∷ Outside (csw_stored csw) ∷ []) (csw_stored csw) w
    (later_mark (csw_stored csw)) in record { runs = g.0; follows = λ ahead q. g.1 ahead }
good_by m x (Within d s w made) r = let g = between_good m d s (Outside made ∷ []) made w (later_change made) in
    record { runs = g.0; follows = λ ahead q. let same = g.1 ahead in grind arith }
good_by m x y r = record { runs = tt; follows = λ ahead q. refl }

pub good : (m : Machine) (e : Event) (x : Option FaultAfter) → Runs m m.subchannel → Good m e x (react e x m)
good m e x r = good_by m x (reacts m x m.subchannel e r) r

-- Where no program runs, no units are done before the next acceptance.

calm : {m : Machine} {x : Option FaultAfter} {c : Subchannel} {e : Event} {r : Answer × Machine} → Reacts m x c e r → is_working c ≡ false
    → (rest : List Exchange) → (is_working r.1.subchannel ≡ false → units_ahead rest ≡ 0) → units_ahead ((e, x, r.0) ∷ rest) ≡ 0
calm (Same c e a h k) w rest q = ((unmoved (e, _, a) h).1 rest).ahead ∙ q w
calm (Arrives c a d v at k) w rest q = q w
calm (Changed c made k) w rest q = let none = q w in grind arith
calm (Starts a v at k AcceptedStart h) w rest q = refl
calm (Clears c k) w rest q = refl
calm (Halts d s a y) w rest q = absurd (cc)
calm (Cuts d s y) w rest q = absurd (cc)
calm (StepEnds d s k y used st e h) w rest q = absurd (cc)
calm (StepGoes d s k y seen h) w rest q = absurd (cc)
calm (Asks d s y csw h) w rest q = absurd (cc)
calm (Within d s y made) w rest q = absurd (cc)
calm r w rest q = q refl

quiet : (es : List Input) (m : Machine) → Runs m m.subchannel → is_working m.subchannel ≡ false → units_ahead (exchanges es m) ≡ 0
quiet [] m r w = refl
quiet (e ∷ es) m r w = calm (reacts m e.1 m.subchannel e.0 r) w (exchanges es (react e.0 e.1 m).1)
    (quiet es (react e.0 e.1 m).1 (good m e.0 e.1 r).runs)

pub serial : IsSerial
serial m [] r w = grind arith
serial m (e ∷ es) r w =
    let g = good m e.0 e.1 r in
    serial (react e.0 e.1 m).1 es g.runs w ∙ g.follows (exchanges es (react e.0 e.1 m).1) (quiet es (react e.0 e.1 m).1 g.runs)

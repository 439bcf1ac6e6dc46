-- So many steps of one unit are one step.
use Rattle.std.proofs.Common.{◌≡◌, ℕ, zero, suc, ◌+◌, ◌-◌, ◌*◌, ◌≤◌, ◌<◌, refl, sym, ap, subst, ◌∙◌, arith, [], ◌∷◌, ◌++◌, true, false}
use Rattle.std.proofs.Common.{Option, Some, None, add-zero, suc-add, append_assoc, ◌⊎◌, inl}
use Rattle.ckd_command.specs.Drive.{Fault}
use Rattle.s360_words.specs.declared.words.Csw.{Csw}
use Rattle.s360_laws.specs.Endings.{Outcome, Ended, NotEnded}
use Rattle.s360_laws.specs.Runs.{run}
use Rattle.s360_laws.specs.Scripts.{Script, units, OneUnit}
use Rattle.s360_laws.proofs.Walks.{ended_stays}
use Rattle.s360_laws.specs.Events.{Answer, FaultAfter, StepBy, Stepped}
use Rattle.s360_laws.specs.History.{Runs}
use Rattle.s360_laws.specs.Machine.{Machine, Device, Subchannel, Idle, Working, Pending, react, is_working, units_with, units_failing}
use Rattle.s360_laws.specs.Machine.{device_at, start_of, stepped}
use Rattle.s360_laws.specs.Soundness.{IsSound}
use Rattle.s360_laws.specs.Steps.{after_units, units_of, EndedByFault}
use Rattle.s360_laws.proofs.StepLaws.{joins, splits, steps_at_most, plain_two, working_device, run_at}
use Rattle.s360_laws.proofs.NoFaultTold.{no_fault_none_told}
use Rattle.s360_channel.specs.Calls.{CallsAtMost, Does, IsMet, Reports}
use Rattle.s360_channel.specs.Channel.{ChannelState, StandsFor, failures_of}
use Rattle.s360_channel.proofs.Stepping.{runs_of}
use Rattle.s360_trace.specs.Happens.{Happens}

-- A program that is over works no more.

stops : (m : Machine) (device : ℕ) (csw : Csw) → m.subchannel ≡ Pending device csw → is_working m.subchannel ≡ true → ⊥
stops m device csw p w = no (sym (ap is_working p) ∙ w)
  where
    no : false ≡ true → ⊥
    no h = cc

-- a fault that was met in a step has ended the program
no_fault : (m : Machine) (k done : ℕ) (old new : ChannelState) (d : Does (StepBy k) m (Stepped done) old new)
    → is_working (react (StepBy k) d.fault m).1.subchannel ≡ true → d.fault ≡ None
no_fault m k done old new d w = go d.fault refl d.reports w
  where
    go : (x : Option FaultAfter) → d.fault ≡ x → Reports (StepBy k) m x → is_working (react (StepBy k) x m).1.subchannel ≡ true
        → d.fault ≡ None
    go None is r w = is
    go (Some x) is r w = absurd (stops (react (StepBy k) (Some x) m).1 r.device r.csw r.pends w)

-- Two steps, the program of which has not ended in the first.

module _ (m : Machine) (k done more : ℕ) (old mid new : ChannelState) (sound : IsSound m) where
  abbrev whole : Option FaultAfter → Answer × Machine
  whole x = react (StepBy (k + 1)) (after_units k x) m

  abbrev first : Machine
  first = (react (StepBy k) None m).1

  met_both : (x : Option FaultAfter) → done ≡ k → failures_of mid ≡ failures_of old → IsMet x (Stepped more) mid new
      → IsMet (after_units k x) (Stepped (done + more)) old new
  met_both None e p h = h ∙ p
  met_both (Some x) e p h = (h.0 ∙ ap (λ n. n + 1) p, counts done k more x.units e h.1)
    where
      counts : (d k a u : ℕ) → d ≡ k → a ≡ suc u → d + a ≡ suc (k + u)
      counts d k a u e h = omega arith

  reports_both : (x : Option FaultAfter) → done ≡ k → IsMet x (Stepped more) mid new → Reports (StepBy 1) first x
      → (react (StepBy 1) x first).1 ≡ (whole x).1 → (whole x).0 ≡ Stepped (done + more)
      → Reports (StepBy (k + 1)) m (after_units k x)
  reports_both None e h r same answer = no_fault_none_told m (StepBy (k + 1)) (runs_of m sound)
  reports_both (Some x) e h r same answer = record {
    answers = answer ∙ ap Stepped (counts done k more x.units e h.1);
    device = r.device;
    csw = r.csw;
    pends = ap (λ (m : Machine). m.subchannel) (sym same) ∙ r.pends;
    unit_check = r.unit_check;
    drive = r.drive;
    is_there = ap (λ (m : Machine). device_at m r.device) (sym same) ∙ r.is_there;
    equipment_check = r.equipment_check;
  }
    where
      counts : (d k a u : ℕ) → d ≡ k → a ≡ suc u → d + a ≡ suc (k + u)
      counts d k a u e h = omega arith

  both : (x : Option FaultAfter) → done ≡ k → failures_of mid ≡ failures_of old → Stepped done ≡ (react (StepBy k) None m).0
      → IsMet x (Stepped more) mid new → Stepped more ≡ (react (StepBy 1) x first).0 → StandsFor new (react (StepBy 1) x first).1
      → Reports (StepBy 1) first x
      → Does (StepBy (k + 1)) m (Stepped (done + more)) old new
  both x e p a h b s r =
      let j = joins m k 1 x (runs_of m sound) in
      let answer : (whole x).0 ≡ Stepped (done + more) = j.1 ∙ ap (λ n. Stepped (units_of n + units_of (react (StepBy 1) x first).0))
      (sym a) ∙ ap (λ n. Stepped (done + units_of n)) (sym b) in
      record {
        fault = after_units k x;
        met = met_both x e p h;
        answers = sym answer;
        stands = subst (StandsFor new) j.0 s;
        reports = reports_both x e h r j.0 answer;
      }

-- The calls of two steps, in the first of which none failed.
calls_both : (a b : ℕ) (old mid new : ChannelState) → failures_of mid ≡ failures_of old → CallsAtMost (2 * a) old mid
    → CallsAtMost (2 * b) mid new → CallsAtMost (2 * (a + b)) old new
calls_both a b old mid new p c d = record {
  calls = adds _ _ _ a b c.calls d.calls;
  failures = subst (λ n. (failures_of new ≡ n) ⊎ (failures_of new ≡ n + 1)) p d.failures;
  lasting = d.lasting ∙ c.lasting;
  geometries = d.geometries ∙ c.geometries;
}
  where
    adds : (x y z a b : ℕ) → y ≤ x + 2 * a → z ≤ y + 2 * b → z ≤ x + 2 * (a + b)
    adds x y z a b p q = omega arith

same_count : (k done : ℕ) (a : Answer) → Stepped done ≡ a → a ≡ Stepped k → done ≡ k
same_count k done a p q = ap units_of (p ∙ q)

-- One unit more of a program that still runs.
pub one_more : (m : Machine) (k done more : ℕ) (old mid new : ChannelState) → IsSound m
    → Happens (StepBy k) m (Stepped done) old mid
    → ((now : Machine) → StandsFor mid now → is_working now.subchannel ≡ true)
    → ((now : Machine) → StandsFor mid now → Happens (StepBy 1) now (Stepped more) mid new)
    → Happens (StepBy (k + 1)) m (Stepped (done + more)) old new
one_more m k done more old mid new sound h works next =
    go h.does.fault (no_fault m k done old mid h.does (works _ h.does.stands)) h.does.met h.does.answers h.does.stands
  where
    go : (x : Option FaultAfter) → x ≡ None → IsMet x (Stepped done) old mid → Stepped done ≡ (react (StepBy k) x m).0
        → StandsFor mid (react (StepBy k) x m).1
        → Happens (StepBy (k + 1)) m (Stepped (done + more)) old new
    go (Some x) e met answers stands = absurd (no e)
      where
        no : Some x ≡ None → ⊥
        no h = cc
    go None e met answers stands =
        let then = next (react (StepBy k) None m).1 stands in
        let whole_step = (steps_at_most m k None (runs_of m sound)).1 (works (react (StepBy k) None m).1 stands) in
        record {
          does = both m k done more old mid new sound then.does.fault (same_count k done _ answers whole_step) met answers then.does.met
              then.does.answers then.does.stands then.does.reports;
          calls = calls_both done more old mid new met h.calls then.calls;
        }

-- Where the program is over before, a longer step is the same.

rests : (m : Machine) (c : Subchannel) (n : ℕ) (x : Option FaultAfter) → is_working c ≡ false
    → react (StepBy n) x (record m { subchannel = c }) ≡ (Stepped 0, record m { subchannel = c })
rests m Idle n x h = refl
rests m (Pending d csw) n x h = refl
rests m (Working d s) n x h = absurd (no h)
  where
    no : true ≡ false → ⊥
    no h = cc

longer_failing : (k n u : ℕ) (f : Fault) → u < k → units_failing (k + n) u f ≡ units_failing k u f ++ units n
longer_failing zero n u f h = absurd (omega (arith, h))
longer_failing (suc k) n zero f h = ap (λ j. units_failing j zero f) (suc-add k n) ∙ ap (λ l. OneUnit (Some f) ∷ l) (sym (plain_two k n))
longer_failing (suc k) n (suc u) f h = ap (λ j. units_failing j (suc u) f) (suc-add k n)
    ∙ ap (λ l. OneUnit None ∷ l) (longer_failing k n u f (omega (arith, h)))

-- a channel status word of a device pends
record Pends (c : Subchannel) : Type 0 where
  device : ℕ
  csw : Csw
  pends : c ≡ Pending device csw

over : (m : Machine) (d : ℕ) (s : Script) (k n : ℕ) (x : FaultAfter) (v : Device) → x.units < k → (o : Outcome)
    → run (s ++ units_with k (Some x)) (start_of m v.drive) ≡ o
    → Pends (stepped d s k (record m { subchannel = Working d s }) (Some o)).1.subchannel
    → stepped d s (k + n) (record m { subchannel = Working d s }) (Some (run (s ++ units_with (k + n) (Some x)) (start_of m v.drive)))
    ≡ stepped d s k (record m { subchannel = Working d s }) (Some o)
over m d s k n x v less (NotEnded seen) h p = absurd (no p.pends)
  where
    no : Working d (s ++ units k) ≡ Pending p.device p.csw → ⊥
    no h = cc
over m d s k n x v less (Ended u st e) h p =
    ap (λ o. stepped d s (k + n) (record m { subchannel = Working d s }) (Some o))
    (ap (λ l. run (s ++ l) (start_of m v.drive)) (longer_failing k n x.units x.fault less)
    ∙ ap (λ l. run l (start_of m v.drive)) (sym (append_assoc s (units_with k (Some x)) (units n)))
    ∙ ended_stays (start_of m v.drive) (s ++ units_with k (Some x)) (units n) u st e h)

longer : (m : Machine) (c : Subchannel) (k n : ℕ) (x : FaultAfter) → Runs m c → x.units < k
    → Pends (react (StepBy k) (Some x) (record m { subchannel = c })).1.subchannel
    → react (StepBy (k + n)) (Some x) (record m { subchannel = c }) ≡ react (StepBy k) (Some x) (record m { subchannel = c })
longer m Idle k n x r less p = refl
longer m (Pending d w) k n x r less p = refl
longer m (Working d s) k n x r less p =
    let v = working_device m d s (device_at m d) refl r in
    let w = record m { subchannel = Working d s } in
    ap (stepped d s (k + n) w) (run_at m d v.0 (s ++ units_with (k + n) (Some x)) v.1)
    ∙ over m d s k n x v.0 less (run (s ++ units_with k (Some x)) (start_of m v.0.drive)) refl
    (record {
      device = p.device;
      csw = p.csw;
      pends = ap (λ o. (stepped d s k w o).1.subchannel) (sym (run_at m d v.0 (s ++ units_with k (Some x)) v.1)) ∙ p.pends;
    })
    ∙ ap (stepped d s k w) (sym (run_at m d v.0 (s ++ units_with k (Some x)) v.1))

-- A step whose program is over before its last unit.
pub over_before : (m : Machine) (k n done : ℕ) (old new : ChannelState) → IsSound m
    → Happens (StepBy k) m (Stepped done) old new
    → ((now : Machine) → StandsFor new now → is_working now.subchannel ≡ false)
    → Happens (StepBy (k + n)) m (Stepped done) old new
over_before m k n done old new sound h rest = record {
  does = go h.does.fault h.does.met h.does.answers h.does.stands h.does.reports;
  calls = h.calls;
}
  where
    less_than : (u : ℕ) (a : Answer) → done ≡ suc u → Stepped done ≡ a → units_of a ≤ k → u < k
    less_than u a p q r = let e = ap units_of q in omega (arith, p, e, r)

    go : (x : Option FaultAfter) → IsMet x (Stepped done) old new → Stepped done ≡ (react (StepBy k) x m).0
        → StandsFor new (react (StepBy k) x m).1 → Reports (StepBy k) m x
        → Does (StepBy (k + n)) m (Stepped done) old new
    go None met answers stands reports =
        let j = joins m k n None (runs_of m sound) in
        let q = rests (react (StepBy k) None m).1 (react (StepBy k) None m).1.subchannel n None (rest _ stands) in
        record {
          fault = None;
          met = met;
          answers = answers ∙ sym (j.1 ∙ ap (λ (r : Answer × Machine). Stepped (units_of (react (StepBy k) None m).0 + units_of r.0)) q
              ∙ ap Stepped (add-zero _) ∙ ap (λ a. Stepped (units_of a)) (sym answers) ∙ answers);
          stands = subst (StandsFor new) (sym (ap (λ (r : Answer × Machine). r.1) q) ∙ j.0) stands;
          reports = no_fault_none_told m (StepBy (k + n)) (runs_of m sound);
        }
    go (Some x) met answers stands reports =
        let less = less_than x.units _ met.1 answers (steps_at_most m k (Some x) (runs_of m sound)).0 in
        let same = longer m m.subchannel k n x (runs_of m sound) less (record {
          device = reports.device;
          csw = reports.csw;
          pends = reports.pends;
        }) in
        record {
          fault = Some x;
          met = met;
          answers = answers ∙ ap (λ (r : Answer × Machine). r.0) (sym same);
          stands = subst (λ (r : Answer × Machine). StandsFor new r.1) (sym same) stands;
          reports = subst (λ r. EndedByFault r (Stepped (suc x.units))) (sym same) reports;
        }

-- No unit yet.
pub none_yet : (m : Machine) (c : ChannelState) → StandsFor c m → Happens (StepBy 0) m (Stepped 0) c c
none_yet m c stands =
    let y = splits m [] (runs_of m stands.sound) in
    record {
      does = record {
        fault = None;
        met = refl;
        answers = sym y.1;
        stands = subst (StandsFor c) y.0 stands;
        reports = no_fault_none_told m (StepBy 0) (runs_of m stands.sound);
      };
      calls = record { calls = more _; failures = inl refl; lasting = refl; geometries = refl };
    }
  where
    more : (n : ℕ) → n ≤ n + 2 * 0
    more n = omega arith

-- The units of a loop.

pub rest_of : (counter units : ℕ) → counter < units → counter + (units - counter) ≡ units
rest_of counter units h = omega arith

pub all_of : (counter units : ℕ) → counter ≤ units → units ≤ counter → counter ≡ units
all_of counter units h k = omega arith

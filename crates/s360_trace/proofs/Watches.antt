-- What a watcher is told, one look more.
use Rattle.std.proofs.Common.{◌≡◌, ℕ, suc, ◌+◌, ◌≤◌, refl, sym, ap, subst, ◌∙◌, arith, true, Option, Some, None}
use Rattle.std.proofs.Common.{List, [], ◌∷◌, ◌++◌, length}
use Rattle.s360_words.specs.Storage.{Storage}
use Rattle.s360_laws.specs.Endings.{Outcome, Ended, NotEnded, Ending}
use Rattle.s360_laws.specs.Runs.{Start, run}
use Rattle.s360_laws.specs.Scripts.{Script, units_in}
use Rattle.s360_laws.specs.Units.{ProgramPhase, walk, EndsWith}
use Rattle.s360_laws.proofs.Standing.{stands_somewhere}
use Rattle.s360_laws.specs.Events as machine
use Rattle.s360_laws.specs.Events.{Answer, FaultAfter, StepBy, Stepped}
use Rattle.s360_laws.specs.History.{Runs}
use Rattle.s360_laws.specs.Machine.{Machine, Subchannel, Idle, Working, Pending}
use Rattle.s360_laws.specs.Machine.{react, is_working, start_of, stepped, units_with, with_subchannel}
use Rattle.s360_laws.specs.Soundness.{IsSound}
use Rattle.s360_laws.specs.Steps.{units_of}
use Rattle.s360_laws.proofs.FindDevices.{by_device, working}
use Rattle.s360_laws.proofs.Reactions.{Stands, stands_in}
use Rattle.s360_laws.proofs.StepUnits.{ended_in, units_count, units_front}
use Rattle.s360_laws.specs.declared.events.Event.{Event}
use Rattle.s360_laws.specs.declared.answers.Answer.{Answer as Answered}
use Rattle.s360_channel.specs.Calls.{Does, IsMet}
use Rattle.s360_channel.specs.Channel.{ChannelState}
use Rattle.s360_channel.proofs.Stepping.{runs_of}
use Rattle.s360_trace.specs.Looks.{AllWatched, AtUnit, IsDone, IsWatched, Sees, SeesUnits}

-- A step of a program that runs does a unit.

-- a program that ended behind one unit more used it
used_one : (front rest : Script) (key : ℕ) (g : ProgramPhase) (st : Storage) (e : Ending)
    → units_with 1 None ≡ front ++ rest → walk front key g ≡ EndsWith [] st e → 1 ≤ units_in front
used_one [] rest key g st e p w = absurd (cc)
used_one (t ∷ front) rest key g st e p w =
    let counted = units_count (length (t ∷ front)) None in
    let count = ap units_in (sym (units_front 1 None (t ∷ front) rest p)) ∙ counted in
    omega (arith, count)

module _ (m : Machine) where
  abbrev one_of : Subchannel → Answer × Machine
  one_of c = react (StepBy 1) None (with_subchannel c m)

  module _ (d : ℕ) (s : Script) (w : Stands m d s) where
    abbrev start : Start
    start = start_of m w.drive.drive

    by_run : (o : Outcome) → run (s ++ units_with 1 None) start ≡ o
        → 1 ≤ units_of (stepped d s 1 (working m d s) (Some o)).0
    by_run (NotEnded seen) h = omega arith
    by_run (Ended used st e) h =
        let y = stands_somewhere start s w.seen w.stands in
        let z = ended_in start s (units_with 1 None) y.0 y.1 used st e y.2 h in
        let some = used_one z.front z.rest y.0 y.1 st e z.parts z.walked in
        omega (arith, z.all_used, some)

    at_work : 1 ≤ units_of (one_of (Working d s)).0
    at_work =
        by_device m d (s ++ units_with 1 None) w.drive (λ o. 1 ≤ units_of (stepped d s 1 (working m d s) o).0) w.is_there
        (by_run (run (s ++ units_with 1 None) start) refl)

  least : (c : Subchannel) → Runs m c → is_working c ≡ true → 1 ≤ units_of (one_of c).0
  least (Working d s) r w = at_work d s (stands_in m d s r)
  least Idle r w = absurd (cc)
  least (Pending d csw) r w = absurd (cc)

pub does_one : (m : Machine) (done : ℕ) (old new : ChannelState) → IsSound m → is_working m.subchannel ≡ true
    → Does (StepBy 1) m (Stepped done) old new → done ≤ 1 → done ≡ 1
does_one m done old new sound works d most = go d.fault d.met d.answers
  where
    go : (x : Option FaultAfter) → IsMet x (Stepped done) old new → Stepped done ≡ (react (StepBy 1) x m).0 → done ≡ 1
    go (Some x) met answers = let count = met.1 in omega (arith, count, most)
    go None met answers =
        let some = least m m.subchannel (runs_of m sound) works in
        let count = ap units_of answers in
        omega (arith, some, count, most)

-- The watcher is told of one more.

module _ {W : Type 0} (sees : Sees W) (mid new : ChannelState) (told now : W) where
  -- unit
  pub one_unit_more : (done more : ℕ) (old : ChannelState) (watcher : W)
      → SeesUnits sees done old mid watcher told → more ≡ 1 → IsDone (machine.StepBy 1) (machine.Stepped more) mid new
      → sees told AtUnit new now → SeesUnits sees (done + more) old new watcher now
  one_unit_more done more old watcher seen one is_done sees_it =
      let count : suc done ≡ done + more = omega (arith, one) in
      let is_one = subst (λ n. IsDone (machine.StepBy 1) (machine.Stepped n) mid new) one is_done in
      subst (λ n. SeesUnits sees n old new watcher now) count (mid, told, seen, is_one, sees_it)

  module _ (e : Event) (a : Answered) (w : IsWatched sees e a mid new told now) where
    -- event, and from the channel and the watcher before the whole list
    the_first : (old : ChannelState) (watcher : W) → mid ≡ old → told ≡ watcher → IsWatched sees e a old new watcher now
    the_first old watcher p q =
        subst (λ c. IsWatched sees e a c new watcher now) p (subst (λ t. IsWatched sees e a mid new t now) q w)

    pub watched_one_more : (events : List Event) (answers : List Answered) (old : ChannelState) (watcher : W)
        → AllWatched sees events answers old mid watcher told
        → AllWatched sees (events ++ e ∷ []) (answers ++ a ∷ []) old new watcher now
    watched_one_more [] [] old watcher h = (new, now, the_first old watcher h.0 h.1, (refl, refl))
    watched_one_more [] (b ∷ answers) old watcher h = absurd h
    watched_one_more (d ∷ events) [] old watcher h = absurd h
    watched_one_more (d ∷ events) (b ∷ answers) old watcher h =
        (h.0, h.1, h.2, watched_one_more events answers h.0 h.1 h.3)

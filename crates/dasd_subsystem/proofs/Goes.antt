-- Units of a program that go on, one behind another.
use Rattle.std.proofs.Common.{◌≡◌, ◌∙◌, ◌+◌, ℕ, suc, refl, ap, arith, subst, sym, true, false, List, [], ◌∷◌}
use Rattle.s360_laws.specs.Events.{StepBy, Stepped}
use Rattle.s360_laws.specs.Machine.{Machine, Subchannel, Idle, Pending, Working, is_working}
use Rattle.s360_channel.specs.Channel.{ChannelState, StandsFor}
use Rattle.s360_channel.specs.Views.{subchannel_seen}
use Rattle.s360_trace.specs.Happens.{Happens}
use Rattle.s360_trace.proofs.Joins.{none_yet, one_more}
use Rattle.s360_trace.proofs.Watches.{does_one}
use Rattle.dasd_subsystem.specs.Glances.{IsUnit, Sees, runs}
use Rattle.dasd_subsystem.specs.Until.{AreDone, AreSeen, GoOn, came_to, happened, is_any, last_happened, no_counts, nothing}
use Rattle.dasd_subsystem.specs.Until.{with_unit}
use Rattle.dasd_subsystem.specs.declared.glances.Glance.{Glance}
use Rattle.dasd_subsystem.specs.declared.until.Counts.{Counts}
use Rattle.dasd_subsystem.specs.declared.until.Until.{Until}

-- So many units were done, and what is seen behind them is this; none before the last was one to stop behind.
pub record Goes (until : Until) (units : ℕ) (counts : Counts) (last : Glance) (stopped : Until) (old new : ChannelState) : Type 0 where
  pub before : List Glance
  pub done : AreDone (last ∷ before) units old new
  pub go_on : GoOn until before
  pub stopped_so : stopped ≡ last_happened until (last ∷ before)
  pub counts_so : counts ≡ came_to (last ∷ before)

-- none yet
pub sets_out : (until : Until) (first : Glance) (c : ChannelState) → Sees first c → Goes until 0 no_counts first nothing c c
sets_out until first c sees = record {
  before = [];
  done = record { steps = λ m stands. none_yet m c stands; seen = (refl, sees); many = refl };
  go_on = tt;
  stopped_so = refl;
  counts_so = refl;
}

-- What is seen last is the channel as it is.
sees_last : (last : Glance) (before : List Glance) (old new : ChannelState) → AreSeen (last ∷ before) old new → Sees last new
sees_last last [] old new h = h.1
sees_last last (b ∷ before) old new h = h.3

-- A program that is seen to run works.
works_seen : (m : Machine) (s : Subchannel) → runs (subchannel_seen m s) ≡ true → is_working s ≡ true
works_seen m Idle h = h
works_seen m (Working device script) h = refl
works_seen m (Pending device csw) h = h

-- None of the units was one to stop behind, where the last was not.
all_go_on : (until : Until) (last : Glance) (before : List Glance) → GoOn until before
    → is_any (last_happened until (last ∷ before)) ≡ false → GoOn until (last ∷ before)
all_go_on until last [] h f = tt
all_go_on until last (b ∷ before) h f = (f, h)

-- one unit more of a program that runs
module _ (until : Until) (last behind : Glance) where
  pub goes_on : (units : ℕ) (counts : Counts) (stopped : Until) (old mid new : ChannelState) → runs last.subchannel ≡ true
      → is_any stopped ≡ false → Goes until units counts last stopped old mid → IsUnit behind mid new
      → Goes until (units + 1) (with_unit counts last behind) behind (happened until last behind) old new
  goes_on units counts stopped old mid new run none g u = record {
    before = last ∷ g.before;
    done = record {
      steps = λ m stands. one_more m units units 1 old mid new stands.sound (g.done.steps m stands) works one;
      seen = (mid, g.done.seen, one, u.sees);
      many = ap suc g.done.many ∙ next units;
    };
    go_on = all_go_on until last g.before g.go_on (sym (ap is_any g.stopped_so) ∙ none);
    stopped_so = refl;
    counts_so = ap (λ c. with_unit c last behind) g.counts_so;
  }
    where
      next : (n : ℕ) → suc (suc n) ≡ suc (n + 1)
      next n = omega arith

      works : (now : Machine) → StandsFor mid now → is_working now.subchannel ≡ true
      works now is =
          works_seen now now.subchannel (sym (ap runs ((sees_last last g.before old mid g.done.seen).subchannel now is)) ∙ run)

      one : (now : Machine) → StandsFor mid now → Happens (StepBy 1) now (Stepped 1) mid new
      one now is =
          let does = u.steps.does now is in
          subst (λ n. Happens (StepBy 1) now (Stepped n) mid new)
          (does_one now u.done mid new is.sound (works now is) does u.most)
          (record { does = does; calls = u.steps.calls })

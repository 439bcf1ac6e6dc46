-- A channel that is available does no unit.
use Rattle.std.proofs.Common.{◌≡◌, ◌∙◌, ◌≤◌, ℕ, zero, suc, refl, ap, arith, subst, sym, List, [], ◌∷◌, Option, Some, None}
use Rattle.std.specs.Prelude.{slice_set}
use Rattle.s360_words.specs.Storage.{Storage}
use Rattle.s360_laws.specs.Seen.{answer_seen}
use Rattle.s360_laws.specs.declared.answers.Answer.TheVariants as answer
use Rattle.s360_laws.specs.declared.status.Condition.{Condition}
use Rattle.s360_laws.specs.declared.status.Condition.TheVariants as code
use Rattle.s360_laws.specs.Events.{StepBy, Stepped, Tch, WithCode}
use Rattle.s360_laws.specs.Machine.{Machine, Subchannel, Idle, Pending, Working, react, step, test_channel}
use Rattle.s360_laws.specs.declared.condition.ConditionCode.TheVariants.{Zero}
use Rattle.attached_drives.proofs.Places.{none_is_some}
use Rattle.s360_channel.proofs.Quiet.{none_calls, nothing_does}
use Rattle.s360_channel.specs.Calls.{DoesQuietly}
use Rattle.s360_channel.specs.Channel.{StandsFor}
use Rattle.s360_channel.specs.Selector.{SelectorState, over}
use Rattle.s360_channel.specs.Views.{subchannel_seen}
use Rattle.s360_channel.specs.declared.view.SubchannelView.TheVariants as seen
use Rattle.s360_channels.specs.Channels.{OnChannel, OnFound, Runs, RunsTo, numbered}
use Rattle.s360_channels.specs.Selectors.{SelectorsState, across}

no_step : (m : Machine) (k : ℕ) (s : Subchannel) → m.subchannel ≡ s → WithCode (test_channel s) ≡ WithCode Zero
    → react (StepBy k) None m ≡ (Stepped 0, m)
no_step m k Idle is h = ap (step k None m) is
no_step m k (Working p script) is h = absurd (cc)
no_step m k (Pending p csw) is h = absurd (cc)

is_idle : (m : Machine) (s : Subchannel) → WithCode (test_channel s) ≡ WithCode Zero → seen.Idle ≡ subchannel_seen m s
is_idle m Idle h = refl
is_idle m (Working p script) h = absurd (cc)
is_idle m (Pending p csw) h = absurd (cc)

least : (k : ℕ) → 0 ≤ k
least k = omega arith

pub available : (c : SelectorState) (t : Condition (Unit {0})) (s : Storage) (units : ℕ) → t ≡ code.Zero
    → ((m : Machine) → StandsFor (over c s) m → DoesQuietly Tch m (answer_seen (answer.Tch t)) (over c s))
    → Runs units (record { units = 0; subchannel = seen.Idle }) (over c s) (over c s)
available c t s units is does = record {
  steps = record {
    does = λ m stands. nothing_does (StepBy units) m (over c s) (Stepped 0) stands (no_step m units m.subchannel refl (code_of m stands));
    calls = none_calls 0 (over c s) (over c s) refl;
  };
  behind = λ m stands. is_idle m m.subchannel (code_of m stands);
  most = least units;
}
  where
    code_of : (m : Machine) → StandsFor (over c s) m → WithCode (test_channel m.subchannel) ≡ WithCode Zero
    code_of m stands = sym (does m stands).answers ∙ ap (λ t. answer_seen (answer.Tch t)) is

-- the channel with a number is put where it is
set_same : (cs : List (Option SelectorState)) (n : ℕ) (c : SelectorState) → numbered n cs ≡ Some c → cs ≡ slice_set cs n (Some c)
set_same [] n c e = none_is_some e
set_same (d ∷ cs) zero c e = ap (λ d. d ∷ cs) e
set_same (d ∷ cs) (suc n) c e = ap (λ r. d ∷ r) (set_same cs n c e)

pub stays_available : (number : ℕ) (v : SelectorsState) (c : SelectorState) (t : Condition (Unit {0})) → Some c ≡ numbered number v.channels
    → t ≡ code.Zero
    → ((s : Storage) (m : Machine) → StandsFor (over c s) m → DoesQuietly Tch m (answer_seen (answer.Tch t)) (over c s))
    → (s : Storage) (units : ℕ) → OnChannel number (RunsTo units (Some (record { units = 0; subchannel = seen.Idle }))) ⊥ (across v s)
    (across v s)
stays_available number v c t there is does s units =
    subst (λ o. OnFound o number (RunsTo units (Some (record { units = 0; subchannel = seen.Idle }))) ⊥ (across v s) (across v s)) there
    (record {
      after = c;
      how = available c t s units is (does s);
      same = record { number = refl; size = refl };
      others_stay = set_same v.channels number c (sym there);
      bytes = refl;
      keys = refl;
    })

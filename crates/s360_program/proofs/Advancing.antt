-- Many units.
use Rattle.std.proofs.Common.{◌≡◌, ◌⊎◌, inl, inr, true, ℕ, ◌+◌, ◌<◌, refl, sym, ap, subst, ◌∙◌, arith, Bool, [], ◌∷◌, Option, Some, None}
use Rattle.std.specs.Prelude.{is_some}
use Rattle.std.proofs.lemmas.List.{replicate-append-replicate}
use Rattle.s360_words.specs.Storage.{Storage}
use Rattle.s360_words.specs.declared.words.Csw.{Csw}
use Rattle.ckd_command.specs.Drive.{Fault, LoadFails, SaveFails, unsaved}
use Rattle.ckd_drive.specs.Work.{DriveState}
use Rattle.s360_laws.specs.Endings.{Ending}
use Rattle.s360_laws.specs.Laws.{walked_on}
use Rattle.s360_laws.specs.Scripts.{units, OneUnit}
use Rattle.s360_laws.specs.Units.{ProgramPhase, Next, EndsIn, standing_in, unit, walk, on_next, StandsIn}
use Rattle.s360_laws.proofs.Walks.{walks_on}
use Rattle.s360_program.specs.Advances.{IsMet, CameToEnd, Cuts, TellsOf, CutTellsOf}
use Rattle.s360_program.specs.Steps.{IsMetBy, EndsBy, ToldOf}
use Rattle.s360_program.proofs.Moments.{LeadsTo, Moment}

-- units behind units; it names both ends and the middle of two walks that it joins
pub more_units : (key k : ℕ) (phase at next : ProgramPhase) (done n : ℕ) → k ≡ key → walk (units done) key phase ≡ StandsIn at
    → walk (units n) k at ≡ StandsIn next → walk (units (done + n)) key phase ≡ StandsIn next
more_units key k phase at next done n e before h =
    ap (λ u. walk u key phase) (sym (replicate-append-replicate done n (OneUnit None))) ∙ walks_on (units done) (units n) key phase
    ∙ ap (λ w. walked_on w key (units n)) before ∙ subst (λ k. walk (units n) k at ≡ StandsIn next) e h

met_since : (f : Option Fault) (d0 d1 d2 : DriveState) → d1.image.failures ≡ d0.image.failures → IsMetBy f d1 d2 → IsMet f d0 d2
met_since None d0 d1 d2 e m = m ∙ e
met_since (Some LoadFails) d0 d1 d2 e m = m.0 ∙ ap (λ n. n + 1) e
met_since (Some (SaveFails left)) d0 d1 d2 e m = m ∙ ap (λ n. n + 1) e

-- the last unit, behind the moment to which those before it lead
pub last_unit : (start at : Moment) (done asked : ℕ) (told : Csw × Bool) (s : Storage) (d2 : DriveState) → LeadsTo start done at
    → at.drive.image.failures ≡ start.drive.image.failures → done < asked → EndsBy (λ f. unit f at.key at.phase) told s at.drive d2
    → CameToEnd start.key start.phase asked (done + 1) told s start.drive d2
last_unit start at done asked told s d2 leads same few h = record {
  done = omega (arith, few);
  earlier = done;
  last = refl;
  fault = h.fault;
  met = met_since h.fault start.drive at.drive d2 same h.met;
  ending = h.ending;
  walk = walks_on (units done) (OneUnit h.fault ∷ []) start.key start.phase
      ∙ ap (λ w. walked_on w start.key (OneUnit h.fault ∷ [])) leads.goes
      ∙ ap (λ n. on_next [] n (walk [] start.key)) (subst (λ k. unit h.fault k at.phase ≡ EndsIn s h.ending) leads.same_key h.ends);
  is_ending = h.is_ending;
}

-- A cut.

pub cuts : (key : ℕ) (phase : ProgramPhase) (told : Csw × Bool) (lost : Option (ℕ × ℕ)) (s : Storage) (d0 d2 : DriveState)
    → EndsBy (λ f. EndsIn s ((standing_in key phase).cut f)) told s d0 d2 → lost ≡ unsaved d2.state
    → Cuts key phase (told.0, told.1, lost) d0 d2
cuts key phase told lost s d0 d2 h l = record {
  fault = h.fault;
  met = met_since h.fault d0 d0 d2 refl h.met;
  is_ending = rw same (record { csw = h.is_ending.csw; motion = h.is_ending.motion; drive = h.is_ending.drive });
  unsaved = l ∙ h.is_ending.drive.unsaved ∙ sym (ap (λ (e : Ending). e.unsaved) same);
}
  where
    same : (standing_in key phase).cut h.fault ≡ h.ending
    same = cc h.ends

pub cut_tells : (next : Option Fault → Next) (told : Csw × Bool) (lost : Option (ℕ × ℕ)) (s : Storage) (d0 d2 : DriveState)
    → EndsBy next told s d0 d2 → lost ≡ unsaved d2.state
    → (d2.image.failures ≡ d0.image.failures) ⊎ (is_some (unsaved d2.state) ≡ true) → CutTellsOf (told.0, told.1, lost) d0 d2
cut_tells next told lost s d0 d2 h l some = record { fault = by h.fault h.met h.told_of; unsaved = rw l some }
  where
    never_both : (a b : ℕ) → b ≡ a → b ≡ a + 1 → ⊥
    never_both a b x y = omega arith

    rose : (f : Fault) → IsMetBy (Some f) d0 d2 → d2.image.failures ≡ d0.image.failures + 1
    rose LoadFails m = m.0
    rose (SaveFails left) m = m

    by : (f : Option Fault) → IsMetBy f d0 d2 → ToldOf f told.0 d0 d2 → TellsOf (Some (told.0, told.1)) d0 d2
    by None m t = record { failed = inl m; good = λ e. t }
    by (Some f) m t = record {
      failed = inr (rose f m, t);
      good =
          λ e. absurd (never_both d0.image.failures d2.image.failures e (rose f m));
    }

-- A running program and the run of its start.
use Rattle.std.proofs.Common.{◌≡◌, refl, sym, ap, subst, ◌∙◌, arith, ℕ, ◌+◌, [], ◌∷◌, ◌++◌, append_assoc, append-nil, zero, suc, Option}
use Rattle.s360_words.specs.Storage.{Storage, Change, changed}
use Rattle.ckd_command.specs.Drive.{Fault}
use Rattle.s360_laws.specs.Endings.{Ended}
use Rattle.s360_laws.specs.Laws as law
use Rattle.s360_laws.specs.Runs.{run, start_point}
use Rattle.s360_laws.specs.Scripts.{Script, units, OneUnit, Outside, TakesInterruption, units_in}
use Rattle.s360_laws.specs.Units.{StandsAt, phase_past, walk, on_next, Between}
use Rattle.s360_program.specs.Laws.{AcceptedStands, StandsAfterUnits, EndsAfterUnits, SeenOfRun, StandsAfterChange, StandsAfterInterruption}
use Rattle.s360_program.specs.Stands.{RunningState, Stands, phase_in, phase_by}
use Rattle.ckd_drive.specs.Work.{DriveState}
use Rattle.s360_program.proofs.Cases.{by_stage}

pub accepted : law.StandsAtStart → law.StandsAfterWalk → AcceptedStands
accepted at after s r d a = record {
  together = a.stands;
  run = subst (λ k. StandsAt s (units 1) k (phase_in r s.storage d)) (sym a.key)
      (after s [] (units 1) a.caw.key (Between (start_point a.caw s)) (phase_in r s.storage d) (at s a.caw a.word)
      (ap (λ n. on_next [] n (walk [] a.caw.key)) a.unit));
}

pub after_units : law.StandsAfterWalk → StandsAfterUnits
after_units after s script r r' st st' d d' asked did at w = record {
  together = w.stands;
  run = subst (λ k. StandsAt s (script ++ units did) k (phase_in r' st' d')) (sym w.same_key)
      (after s script (units did) r.key (phase_in r st d) (phase_in r' st' d') at.run w.walk);
}

units_of_both : (script more : Script) → units_in (script ++ more) ≡ units_in script + units_in more
units_of_both [] more = sym (omega arith)
units_of_both (OneUnit f ∷ rest) more = ap (λ n. 1 + n) (units_of_both rest more) ∙ omega arith
units_of_both (Outside c ∷ rest) more = units_of_both rest more
units_of_both (TakesInterruption ∷ rest) more = units_of_both rest more

units_with : (n : ℕ) (f : Option Fault) → units_in (units n ++ OneUnit f ∷ []) ≡ n + 1
units_with zero f = omega arith
units_with (suc n) f = ap (λ n. 1 + n) (units_with n f) ∙ omega arith

pub ends_after : law.EndsAfterWalk → law.EndedStays → EndsAfterUnits
ends_after ends stays s script r st st' d d' asked did told at e more =
    ap (λ l. run l s) (longer script (units e.earlier)) ∙ stays s (script ++ last) more (units_in (script ++ last)) st' e.ending
    (ends s script last r.key (phase_in r st d) st' e.ending at.run e.walk)
    ∙ ap (λ n. Ended n st' e.ending) (units_of_both script last ∙ ap (λ n. units_in script + n) (units_with e.earlier e.fault ∙ sym e.last))
  where
    last : Script
    last = units e.earlier ++ OneUnit e.fault ∷ []

    longer : (a b : Script) → a ++ (b ++ OneUnit e.fault ∷ more) ≡ (a ++ (b ++ OneUnit e.fault ∷ [])) ++ more
    longer a b = ap (λ l. a ++ l) (sym (append_assoc b (OneUnit e.fault ∷ []) more)) ∙ sym (append_assoc a (b ++ OneUnit e.fault ∷ []) more)

pub seen : SeenOfRun
seen s script r st d at = ap (λ l. run l s) (sym (append-nil script)) ∙ at.run []

changed_by : (r : RunningState) (s : Storage) (c : Change) (d : DriveState) → Stands r d → phase_past (Outside c) (phase_in r s d)
    ≡ phase_in r (changed c s) d
changed_by r s c d t =
    by_stage d.state (λ g w. phase_past (Outside c) (phase_by g r.place s d.state w) ≡ phase_by g r.place (changed c s) d.state w)
    (record { between = refl; looking = λ ccw o. refl; none_passed = λ ccw a o l. refl; some_passed = λ ccw a o x b l. refl })
    r.stage d.work t.fits

pub after_change : law.StandsAfterWalk → StandsAfterChange
after_change after s script r st d c at = record {
  together = at.together;
  run = after s script (Outside c ∷ []) r.key (phase_in r st d) (phase_in r (changed c st) d) at.run
      (ap (λ g. walk [] r.key g) (changed_by r st c d at.together));
}

pub after_interruption : law.StandsAfterWalk → StandsAfterInterruption
after_interruption after s script r r' st d at key together taken = record {
  together = together;
  run = subst (λ k. StandsAt s (script ++ TakesInterruption ∷ []) k (phase_in r' st d)) (sym key)
      (after s script (TakesInterruption ∷ []) r.key (phase_in r st d) (phase_in r' st d) at.run (ap (λ g. walk [] r.key g) (sym taken)));
}

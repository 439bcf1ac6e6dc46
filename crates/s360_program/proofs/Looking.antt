-- What a look for the area of a command comes to.
use Rattle.std.proofs.Common.{◌≡◌, ℕ, zero, suc, ◌+◌, ◌<◌, refl, sym, ap, subst, ◌∙◌, arith, false, Bool, [], Option, None}
use Rattle.s360_words.specs.Storage.{Storage}
use Rattle.s360_words.specs.declared.words.Csw.{Csw}
use Rattle.ckd_command.specs.declared.begin.Opened.{Opened}
use Rattle.ckd_command.specs.Drive.{Open, Fault, AfterLook, Ready, Passed, Failed, look, length_of, drive_of, tells_equipment_check}
use Rattle.ckd_command.proofs.Marks.{Calm, LookCalm, look_calm}
use Rattle.ckd_command.proofs.Stable.{look_stable}
use Rattle.ckd_drive.specs.declared.answers.Look.TheVariants as seen
use Rattle.ckd_drive.specs.Work.{DriveState, Work, Idle, Over, Looking, Passing, fault_met, with_image, after_sight, after_look_of}
use Rattle.ckd_drive.specs.Work.{answer_of_look, failed_ending, look_loads, look_saves, left_of, passed_of}
use Rattle.s360_laws.specs.Endings.{failed}
use Rattle.s360_laws.specs.Scripts.{units}
use Rattle.s360_laws.specs.Transfers.{Request}
use Rattle.s360_laws.specs.Units.{ProgramPhase, unit, next_looked, walk, on_next, StandsIn}
use Rattle.s360_laws.specs.Units as phase
use Rattle.s360_program.specs.Place.{place_of}
use Rattle.s360_program.specs.Stands.{StageFits, StageWithin, phase_by, phase_in}
use Rattle.s360_program.specs.Steps.{run_of, Fits, EndsBy, Looked, OverBy, Settles, Steps, WalksBy, told_of}
use Rattle.s360_program.specs.declared.conditions.ChannelCondition.TheVariants as condition
use Rattle.s360_program.specs.declared.run.Run.{Run}
use Rattle.s360_program.specs.Stage.{stage_by, stage_of}
use Rattle.s360_program.specs.Stage as stage
use Rattle.s360_program.specs.declared.run.Comes.TheVariants as comes
use Rattle.s360_program.specs.declared.run.Step.{Step}
use Rattle.s360_program.specs.declared.run.Step.TheVariants as step
use Rattle.s360_program.proofs.Ends.{calm_before}
use Rattle.s360_program.proofs.Meeting.{unfailed, ends_after, more_after, met_none}

-- What was seen, by what the drive answers.

failed_is : (k : AfterLook) (d0 d1 : DriveState) → seen.Failed ≡ answer_of_look d1.work → d1 ≡ with_image (after_sight k d0) d1.image
    → k ≡ Failed d1.state
failed_is (Failed t) d0 d1 a e = ap Failed (sym (ap (λ (d : DriveState). d.state) e))
failed_is (Passed q) d0 d1 a e = absurd (cc (a ∙ ap (λ (d : DriveState). answer_of_look d.work) e))
failed_is (Ready q) d0 d1 a e = absurd (cc (a ∙ ap (λ (d : DriveState). answer_of_look d.work) e))

passed_is : (k : AfterLook) (d0 d1 : DriveState) → seen.Passed ≡ answer_of_look d1.work → d1 ≡ with_image (after_sight k d0) d1.image
    → (q : Opened) × (k ≡ Passed (record { opened = q; state = d1.state })) × (d1.work ≡ Looking q)
passed_is (Passed q) d0 d1 a e = (
  q.opened,
  ap (λ s. Passed (record { opened = q.opened; state = s })) (sym (ap (λ (d : DriveState). d.state) e)),
  ap (λ (d : DriveState). d.work) e,
)
passed_is (Failed t) d0 d1 a e = absurd (cc (a ∙ ap (λ (d : DriveState). answer_of_look d.work) e))
passed_is (Ready q) d0 d1 a e = absurd (cc (a ∙ ap (λ (d : DriveState). answer_of_look d.work) e))

ready_is : (left : ℕ) (k : AfterLook) (d0 d1 : DriveState) → seen.Ready left ≡ answer_of_look d1.work
    → d1 ≡ with_image (after_sight k d0) d1.image
    → (q : Opened) × (k ≡ Ready (record { opened = q; state = d1.state }))
    × (d1.work ≡ Passing q [] (length_of (record { opened = q; state = d1.state }) []))
ready_is left (Ready q) d0 d1 a e =
    let st = ap (λ (d : DriveState). d.state) e in (
      q.opened,
      ap (λ s. Ready (record { opened = q.opened; state = s })) (sym st),
      ap (λ (d : DriveState). d.work) e ∙ ap (λ s. Passing q.opened [] (length_of (record { opened = q.opened; state = s }) [])) (sym st),
    )
ready_is left (Failed t) d0 d1 a e = absurd (cc (a ∙ ap (λ (d : DriveState). answer_of_look d.work) e))
ready_is left (Passed q) d0 d1 a e = absurd (cc (a ∙ ap (λ (d : DriveState). answer_of_look d.work) e))

-- the drive looks for the area of a command
pub looking_is : (r : Run) (d : DriveState) → Fits r d → r.comes ≡ comes.Look → (o : Opened) × (d.work ≡ Looking o)
looking_is r d fits at = go d.work (subst (λ c. StageFits (stage_by c r.ccw r.address) d.state d.work) at fits.stands.fits)
  where
    go : (w : Work) → StageFits (stage.Looking r.ccw) d.state w → (o : Opened) × (w ≡ Looking o)
    go (Looking o) f = (o, refl)
    go Idle f = absurd f
    go (Over x) f = absurd f
    go (Passing o b l) f = absurd f

pub looking_within : (r : Run) (d : DriveState) → Fits r d → r.comes ≡ comes.Look → StageWithin (stage.Looking r.ccw) (place_of r.place)
looking_within r d fits at = subst (λ c. StageWithin (stage_by c r.ccw r.address) (place_of r.place)) at fits.within.stage

module _ (r : Run) (s : Storage) (d0 d1 : DriveState) (k : Looked r d0 d1) where
  at : stage_of r ≡ stage.Looking r.ccw
  at = ap (λ c. stage_by c r.ccw r.address) k.at

  abbrev work : (o : Opened) × (d0.work ≡ Looking o)
  work = looking_is r d0 k.fits k.at

  abbrev O : Open
  O = record { opened = (looking_is r d0 k.fits k.at).0; state = d0.state }

  abbrev Q : Request
  Q = record { storage = s; ccw = r.ccw; place = place_of r.place }

  sighted : d1 ≡ with_image (after_sight (look (fault_met d0 d1) O) d0) d1.image
  sighted = k.state ∙ ap (λ w. with_image (after_look_of (fault_met d0 d1) d0 w) d1.image) work.1

  looks : phase_in (run_of r) s d0 ≡ phase.Looking O Q
  looks = ap (λ g. phase_by g (place_of r.place) s d0.state d0.work) at
      ∙ ap (λ w. phase_by (stage.Looking r.ccw) (place_of r.place) s d0.state w) work.1

  calm_look : LookCalm (tells_equipment_check (drive_of d0.state).sense ≡ false) (look None O)
  calm_look = look_calm _ O (calm_before d0 k.fits.stands.saved)

  pub look_fails : (told : Csw × Bool) (d2 : DriveState) → seen.Failed ≡ answer_of_look d1.work
      → Settles (failed d1.state) r.key (place_of r.place) condition.Clear told d1 d2
      → EndsBy (λ f. unit f r.key (phase_in (run_of r) s d0)) told s d0 d2
  look_fails told d2 answer end =
      ends_after (λ f. unit f r.key (phase_in (run_of r) s d0)) (failed d1.state) r.key (place_of r.place) condition.Clear s told
      (λ f. look f O ≡ Failed d1.state) (d1.work ≡ Over failed_ending)
      (look_loads d0) (look_saves d0) d0 d1 d2
      (record {
        stable = λ h left w. look_stable left O (Failed d1.state) h tt;
        calm = λ h. subst (LookCalm (tells_equipment_check (drive_of d0.state).sense ≡ false)) h calm_look;
        fails = λ h. refl;
        at = failed_is (look (fault_met d0 d1) O) d0 d1 answer sighted;
        same = refl;
        calls = k.calls;
        reports = k.reports;
      })
      end (λ f h. ap (unit f r.key) looks ∙ ap (next_looked f r.key Q) h)

  not_over : (w : Work) (l : seen.the_data) → l ≡ answer_of_look w → (l ≡ seen.Failed → ⊥) → w ≡ Over failed_ending → ⊥
  not_over w l e n h = n (e ∙ ap answer_of_look h)

  pub look_passes : (most : ℕ) → 0 < most → seen.Passed ≡ answer_of_look d1.work → WalksBy r.key (phase_in (run_of r) s d0) most 1 r s d0 d1
  look_passes most some answer = record {
    some = omega arith;
    few = omega arith;
    failures = same;
    goes = ap (λ g. on_next [] (unit None r.key g) (walk [] r.key)) looks
        ∙ ap (λ l. on_next [] (next_looked None r.key Q l) (walk [] r.key)) none
        ∙ sym (ap StandsIn (ap (λ g. phase_by g (place_of r.place) s d1.state d1.work) at
        ∙ ap (λ w. phase_by (stage.Looking r.ccw) (place_of r.place) s d1.state w) q.2));
    same_key = refl;
    fits = record {
      within = k.fits.within;
      stands =
          record {
            fits = subst (λ g. StageFits g d1.state d1.work) (sym at) (subst (StageFits (stage.Looking r.ccw) d1.state) (sym q.2) tt);
            saved = calm.saved;
          };
    };
    no_check = calm.quiet;
  }
    where
      same : d1.image.failures ≡ d0.image.failures
      same = unfailed (d1.work ≡ Over failed_ending) d0 d1 (not_over d1.work seen.Passed answer (λ h. cc)) k.reports

      q : (q : Opened) × (look (fault_met d0 d1) O ≡ Passed (record { opened = q; state = d1.state })) × (d1.work ≡ Looking q)
      q = passed_is (look (fault_met d0 d1) O) d0 d1 answer sighted

      none : look None O ≡ Passed (record { opened = q.0; state = d1.state })
      none = ap (λ f. look f O) (sym (met_none d0 d1 same)) ∙ q.1

      calm : Calm (tells_equipment_check (drive_of d0.state).sense ≡ false) d1.state
      calm = subst (LookCalm (tells_equipment_check (drive_of d0.state).sense ≡ false)) none calm_look

  -- the area is found, and the unit goes on

  module _ (left : ℕ) (answer : seen.Ready left ≡ answer_of_look d1.work) where
    ready_same : d1.image.failures ≡ d0.image.failures
    ready_same = unfailed (d1.work ≡ Over failed_ending) d0 d1 (not_over d1.work (seen.Ready left) answer (λ h. cc)) k.reports

    abbrev ready : (q : Opened) × (look (fault_met d0 d1) O ≡ Ready (record { opened = q; state = d1.state }))
        × (d1.work ≡ Passing q [] (length_of (record { opened = q; state = d1.state }) []))
    ready = ready_is left (look (fault_met d0 d1) O) d0 d1 answer sighted

    ready_none : look None O ≡ Ready (record { opened = ready.0; state = d1.state })
    ready_none = ap (λ f. look f O) (sym (met_none d0 d1 ready_same)) ∙ ready.1

    ready_calm : Calm (tells_equipment_check (drive_of d0.state).sense ≡ false) d1.state
    ready_calm = subst (LookCalm (tells_equipment_check (drive_of d0.state).sense ≡ false)) ready_none calm_look

    pub ready_left : left_of d1.work ≡ left
    ready_left = go d1.work answer
      where
        go : (w : Work) → seen.Ready left ≡ answer_of_look w → left_of w ≡ left
        go Idle h = absurd (cc h)
        go (Over x) h = absurd (cc h)
        go (Looking o) h = absurd (cc h)
        go (Passing o b l) h = cc

    pub ready_first : passed_of d1.work ≡ []
    ready_first = ap passed_of ready.2

    pub look_fits : Fits (record r { comes = comes.Bytes; address = r.ccw.address }) d1
    look_fits = let w = looking_within r d0 k.fits k.at in record {
      within = record { key = k.fits.within.key; place = k.fits.within.place; stage = (w.0, w.1) };
      stands = record {
        fits = subst (StageFits (stage.Moving r.ccw r.ccw.address) d1.state) (sym ready.2) (
          omega arith,
          λ g. omega arith,
          λ h. omega arith,
        );
        saved = ready_calm.saved;
      };
    }

    moves : (f : Option Fault) → look f O ≡ Ready (record { opened = ready.0; state = d1.state })
        → unit f r.key (phase_in (run_of r) s d0) ≡ unit f r.key (phase_by (stage.Moving r.ccw r.ccw.address)
        (place_of r.place) s d1.state d1.work)
    moves f h =
        ap (unit f r.key) looks ∙ ap (next_looked f r.key Q) h
        ∙ ap (λ w. unit f r.key (phase_by (stage.Moving r.ccw r.ccw.address) (place_of r.place) s d1.state w)) (sym ready.2)

    pub walks : (n : ℕ) → 0 < n → walk (units n) r.key (phase_in (run_of r) s d0) ≡ walk (units n) r.key
        (phase_by (stage.Moving r.ccw r.ccw.address) (place_of r.place) s d1.state d1.work)
    walks zero h = absurd (omega arith)
    walks (suc n) h = ap (λ x. on_next (units n) x (walk (units n) r.key)) (moves None ready_none)

    pub look_finds : (most : ℕ) (r2 : Run) (s2 : Storage) (a : Step) (d2 : DriveState) → d2.image.loads ≡ d1.image.loads
        → Steps r.key (phase_by (stage.Moving r.ccw r.ccw.address) (place_of r.place) s d1.state d1.work) most a r2 s2 d1 d2
        → Steps r.key (phase_in (run_of r) s d0) most a r2 s2 d0 d2
    look_finds most r2 s2 (step.Units n) d2 loads w = record {
      some = w.some;
      few = w.few;
      failures = w.failures ∙ ready_same;
      goes = walks n w.some ∙ w.goes;
      same_key = w.same_key;
      fits = w.fits;
      no_check = λ q. w.no_check (ready_calm.quiet q);
    }
    look_finds most r2 s2 (step.Over n) d2 loads w = by w.earlier w.last w.goes
      where
        over : (e : ℕ) → n ≡ e + 1 → (phase : ProgramPhase) → walk (units e) r.key (phase_in (run_of r) s d0) ≡ StandsIn phase
            → ((f : Option Fault) → look f O ≡ Ready (record { opened = ready.0; state = d1.state })
            → unit f r.key phase ≡ unit f r.key w.at) → OverBy r.key (phase_in (run_of r) s d0) most n (told_of r2) s2 d0 d2
        over e last phase goes same = record {
          earlier = e;
          last = last;
          few = w.few;
          at = phase;
          goes = goes;
          ends = more_after (λ f. look f O ≡ Ready (record { opened = ready.0; state = d1.state })) (λ f. unit f r.key phase)
              (λ f. unit f r.key w.at) s2 (told_of r2) d0 d1 d2
              (record {
                same_next = same;
                at = ready_none;
                stable = λ left rose. look_stable left O (Ready (record { opened = ready.0; state = d1.state })) ready_none tt;
                failures = ready_same;
                loads = loads;
                quiet = ready_calm.quiet;
              }) w.ends;
        }

        by : (e : ℕ) → n ≡ e + 1 → walk (units e) r.key (phase_by (stage.Moving r.ccw r.ccw.address) (place_of r.place) s d1.state d1.work)
            ≡ StandsIn w.at → OverBy r.key (phase_in (run_of r) s d0) most n (told_of r2) s2 d0 d2
        by zero last goes = over zero last (phase_in (run_of r) s d0) refl (λ f h. moves f h ∙ ap (unit f r.key) (stands goes))
          where
            stands : {a b : ProgramPhase} → StandsIn a ≡ StandsIn b → a ≡ b
            stands e = cc
        by (suc e) last goes = over (suc e) last w.at (walks (suc e) (omega arith) ∙ goes) (λ f h. refl)

-- Rounds: a search that fails, and the transfer in channel behind it that leads back to it.
use Rattle.std.proofs.Common.{◌≡◌, ◌∙◌, ℕ, zero, suc, ◌+◌, ◌-◌, ◌*◌, ◌<◌, ◌≤◌, ◌/◌, le_trans, mul-le-mul_right, div-mul-le_self, refl, sym}
use Rattle.std.proofs.Common.{ap, subst, arith, zero-mul, suc-mul, List, length}
use Rattle.std.proofs.Common.{take, drop, None}
use Rattle.ckd_image.specs.Image.{ImageState}
use Rattle.s360_words.specs.Storage.{Storage}
use Rattle.s360_words.specs.declared.words.Ccw.{Ccw}
use Rattle.ckd_position.specs.declared.areas.Area.{Area}
use Rattle.ckd_command.specs.declared.registers.Mark.{Mark}
use Rattle.ckd_command.specs.declared.registers.Mark.TheVariants.{Saved, Written, Lost}
use Rattle.ckd_command.specs.declared.registers.Registers.{Registers}
use Rattle.ckd_command.specs.Drive.{State, unsaved, unsaved_by}
use Rattle.std.specs.Prelude.{min, slice_range, true}
use Rattle.ckd_drive.specs.Work.{DriveState, Work, Idle, Over, Looking, Passing, PassesBy, PassesOn, is_idle, state_past}
use Rattle.s360_laws.specs.Rounds.{LeadsBack}
use Rattle.s360_laws.specs.Rounds as rounds
use Rattle.s360_laws.specs.Scripts.{units}
use Rattle.s360_laws.specs.Units.{Between, walk, StandsIn}
use Rattle.s360_laws.proofs.Rounds.{round_is_units}
use Rattle.s360_program.specs.Place.{place_of}
use Rattle.s360_program.specs.Stands.{StageFits, phase_by, phase_in}
use Rattle.s360_program.specs.Stage.{stage_by, stage_of}
use Rattle.s360_program.specs.Stage as stage
use Rattle.s360_program.specs.Steps.{run_of, Fits, GoesRound, IsStep}
use Rattle.s360_program.specs.declared.run.Comes.TheVariants as comes
use Rattle.s360_program.specs.declared.run.Run.{Run}
use Rattle.s360_program.specs.declared.run.Step.TheVariants as step
use Rattle.s360_program.proofs.Advancing.{more_units}
use Rattle.s360_program.proofs.Stepping.{kept}

-- between two commands there is none at the drive
idle_between : (s : State) (w : Work) → StageFits stage.Between s w → is_idle w ≡ true
idle_between s Idle f = refl
idle_between s (Over x) f = absurd f
idle_between s (Looking o) f = absurd f
idle_between s (Passing o b left) f = absurd f

pub idle_there : (r : Run) (d : DriveState) → r.comes ≡ comes.NextCommand → Fits r d → is_idle d.work ≡ true
idle_there r d at fits =
    idle_between d.state d.work (subst (λ k. StageFits (stage_by k r.ccw r.address) d.state d.work) at fits.stands.fits)

-- the bytes that a search asks for, as storage lends them
pub asked_for : (bytes given : List ℕ) (at n : ℕ) → at + n ≤ length bytes → given ≡ slice_range bytes at (at + length given)
    → length given ≡ min n (length bytes - at) → given ≡ take n (drop at bytes)
asked_for bytes given at n inside is size =
    let long : length given ≡ n = size ∙ least (length bytes) inside in
    let span : at + length given - at ≡ n = omega (arith, long) in
    is ∙ ap (λ n. take n (drop at bytes)) span
  where
    least : (all : ℕ) → at + n ≤ all → min n (all - at) ≡ n
    least all h = omega arith

-- no round is no unit
pub no_round : (r : Run) (s : Storage) (most n : ℕ) (d : DriveState) → n ≡ 0 → Fits r d → GoesRound r s most n d d
no_round r s most n d none fits = record {
  few = omega (arith, none);
  goes = ap (λ n. walk (units n) r.key (phase_in (run_of r) s d)) none;
  image = refl;
  fits = fits;
  no_check = λ q. q;
  none = λ _. refl;
}

saved_on : (m : Mark) (r q : Registers) → unsaved_by m r ≡ None → unsaved_by m q ≡ None
saved_on Saved r q e = refl
saved_on Written r q e = refl
saved_on Lost r q e = absurd (cc e)

-- as many rounds as so many units allow are no more units
pub within_units : (n most round : ℕ) → n ≤ most / round → n * round ≤ most
within_units n most round few = le_trans (mul-le-mul_right round few) (div-mul-le_self most round)

-- One round more; it names the drive before all, before this one and behind it.
module _ (r : Run) (s : Storage) (ccw : Ccw) (area : Area) (bytes : List ℕ) (d1 d2 : DriveState) (at : r.comes ≡ comes.NextCommand)
    (back : LeadsBack s (place_of r.place) ccw)
    (all : bytes ≡ take ccw.count (drop ccw.address s.bytes)) (p : PassesBy ccw.code bytes area d1 d2) where
  between : (d : DriveState) → phase_in (run_of r) s d ≡ Between (record { storage = s; place = place_of r.place; state = d.state })
  between d = ap (λ k. phase_by (stage_by k r.ccw r.address) (place_of r.place) s d.state d.work) at

  passes : rounds.PassesBy ccw.code bytes d1.state d2.state
  passes = record { asked = p.asked; found = p.found; begins = p.begins; finds = p.finds; takes = p.takes; wants = p.wants; ends = p.ends }

  round : walk (units (ccw.count + 3)) r.key (phase_in (run_of r) s d1) ≡ StandsIn (phase_in (run_of r) s d2)
  round =
      ap (walk (units (ccw.count + 3)) r.key) (between d1)
      ∙ round_is_units r.key s (place_of r.place) ccw d1.state d2.state back (subst (λ b. rounds.PassesBy ccw.code b d1.state d2.state) all
      passes)
      ∙ ap StandsIn (sym (between d2))

  stage_fits : StageFits (stage_of r) d2.state d2.work
  stage_fits = rw (at, p.stays, p.idle) tt

  saved : unsaved d1.state ≡ None → unsaved d2.state ≡ None
  saved h = rw p.stays (saved_on d1.state.mark d1.state.registers (state_past d1.state area).registers h)

  pub one_more : (most n : ℕ) (d0 : DriveState) → n + (ccw.count + 3) ≤ most → GoesRound r s most n d0 d1
      → GoesRound r s most (n + (ccw.count + 3)) d0 d2
  one_more most n d0 few g = record {
    few = few;
    goes = more_units r.key r.key (phase_in (run_of r) s d0) (phase_in (run_of r) s d1) (phase_in (run_of r) s d2) n (ccw.count + 3) refl
        g.goes round;
    image = ap (λ (d : DriveState). d.image) p.stays ∙ g.image;
    fits = record { within = g.fits.within; stands = record { fits = stage_fits; saved = saved g.fits.stands.saved } };
    no_check = λ q. rw p.stays refl;
    none = λ z. absurd (omega (arith, z));
  }

-- as many rounds as areas that pass by
module _ (r : Run) (s : Storage) (ccw : Ccw) (bytes : List ℕ) (at : r.comes ≡ comes.NextCommand) (back : LeadsBack s (place_of r.place) ccw)
    (all : bytes ≡ take ccw.count (drop ccw.address s.bytes)) where
  pub all_rounds : (n most : ℕ) (old new : DriveState) → Fits r old → PassesOn ccw.code bytes n old new → n * (ccw.count + 3) ≤ most
      → GoesRound r s most (n * (ccw.count + 3)) old new
  all_rounds zero most old new fits passed few =
      rw passed (no_round r s most (0 * (ccw.count + 3)) old (zero-mul (ccw.count + 3)) fits)
  all_rounds (suc n) most old new fits (before, area, earlier, by) few =
      let more : suc n * (ccw.count + 3) ≡ n * (ccw.count + 3) + (ccw.count + 3) = suc-mul n (ccw.count + 3) in
      let fewer : n * (ccw.count + 3) + (ccw.count + 3) ≤ most = rw more at few in
      let less : n * (ccw.count + 3) ≤ most = omega (arith, fewer) in
      rw more (one_more r s ccw area bytes before new at back all by most (n * (ccw.count + 3)) old fewer
      (all_rounds n most old before fits earlier less))

-- rounds are a step
pub round_step : (r : Run) (s : Storage) (most n : ℕ) (d0 d1 : DriveState) → 0 < n → GoesRound r s most n d0 d1
    → IsStep r s d0 most (step.Units n) r s d1
round_step r s most n d0 d1 some g = record {
  steps = record {
    some = some;
    few = g.few;
    failures = ap (λ (i : ImageState). i.failures) g.image;
    goes = g.goes;
    same_key = refl;
    fits =
        g.fits;
    no_check = g.no_check;
  };
  storage = kept s;
  quiet = λ _. g.image;
}

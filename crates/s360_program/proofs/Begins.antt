-- What the beginning of a command comes to.
use Rattle.std.proofs.Common.{◌≡◌, ℕ, ◌+◌, refl, sym, ap, subst, ◌∙◌, arith, true, false, Bool, List, Option, Some, None, ◌≤◌, ◌<◌, ◌^◌}
use Rattle.std.proofs.Common.{◌&&◌}
use Rattle.ckd_image.specs.Image.{ImageState}
use Rattle.s360_words.specs.Storage.{Storage}
use Rattle.s360_words.specs.declared.words.Ccw.{Ccw}
use Rattle.s360_words.specs.declared.words.Csw.{Csw}
use Rattle.ckd_command.specs.Drive.{Fault, SaveFails, AfterBegin, Rejected, Immediate, Started, begin, drive_of, is_written, unsaved}
use Rattle.ckd_command.specs.Drive.{tells_equipment_check}
use Rattle.ckd_command.proofs.Marks.{Calm, BegunCalm, begin_calm}
use Rattle.ckd_command.proofs.Stable.{begin_stable}
use Rattle.s360_laws.specs.Commands.{choice, requested, Point}
use Rattle.s360_laws.specs.Endings.{ending, failed, untouched, immediate, Ending}
use Rattle.s360_laws.specs.Places.{Place, fetch, NoCcw, GoodCcw, past_ccw, past_no_ccw}
use Rattle.s360_laws.specs.Status.{no_channel_status, with_interruption, tells}
use Rattle.s360_laws.specs.Units.{Between, unit, next_fetched, next_begun, next_chosen, GoesOn}
use Rattle.ckd_drive.specs.Work.{DriveState, Over, fault_met, with_image, CallsStore, Reports, after_begun, after_begin, answer_of_begin}
use Rattle.ckd_drive.specs.Work.{immediate_ending, closed_of, begin_saves, goes_to_cylinder_zero}
use Rattle.s360_program.specs.Steps.{EndsBy, ComesBy, Settles, status_of, condition_for}
use Rattle.ckd_drive.specs.declared.answers.Begun.TheVariants as begun
use Rattle.s360_program.specs.declared.conditions.ChannelCondition.TheVariants as condition
use Rattle.s360_program.specs.declared.run.Run.{Run}
use Rattle.s360_program.specs.declared.run.Step.{Step}
use Rattle.s360_program.proofs.Ends.{calm_before}
use Rattle.s360_program.proofs.Meeting.{unfailed, ends_after, ends_now, comes_after, met_none, untouched as image_untouched}
use Rattle.std.specs.Prelude.{if◌then◌else◌}
use Rattle.s360_words.specs.Words.{chains_command}
use Rattle.s360_words.specs.declared.flags.TheConstants.UnitStatus.{UNIT_CHECK}
use Rattle.ckd_command.specs.Commands.{beginning}
use Rattle.s360_laws.specs.Starts.{first_begun, AcceptedStart, ImmediateStart}
use Rattle.s360_laws.specs.Transfers.{Request}
use Rattle.s360_laws.specs.Unsaved.{GainsNoCheck}
use Rattle.s360_program.specs.Place.{place_of}
use Rattle.s360_program.specs.Stands.{RunningState, StageFits, Stands, Within, phase_in}
use Rattle.s360_program.specs.Starting.{ImmediateDone, FirstBegun, StartsQuietly, request_for}
use Rattle.s360_program.specs.declared.place.Place.{Place as KeptPlace}
use Rattle.s360_program.specs.Stage as stage
use Rattle.s360_program.specs.declared.starting.First.{First}
use Rattle.s360_program.specs.declared.starting.First.TheVariants as first

-- What was begun, by what the drive answers.

pub rejected_is : (b : AfterBegin) (d0 d1 : DriveState) → begun.Rejected ≡ answer_of_begin b → d1 ≡ with_image (after_begun b d0) d1.image
    → b ≡ Rejected d1.state
rejected_is (Rejected s) d0 d1 a e = ap Rejected (sym (ap (λ (d : DriveState). d.state) e))
rejected_is (Immediate s motion) d0 d1 a e = absurd (cc a)
rejected_is (Started o) d0 d1 a e = absurd (cc a)

pub immediate_is : (b : AfterBegin) (d0 d1 : DriveState) → begun.Immediate ≡ answer_of_begin b → d1 ≡ with_image (after_begun b d0) d1.image
    → (motion : Bool) × (b ≡ Immediate d1.state motion) × (d1.work ≡ Over (immediate_ending motion))
immediate_is (Rejected s) d0 d1 a e = absurd (cc a)
immediate_is (Immediate s motion) d0 d1 a e = (
  motion,
  ap (λ s. Immediate s motion) (sym (ap (λ (d : DriveState). d.state) e)),
  ap (λ (d : DriveState). d.work) e,
)
immediate_is (Started o) d0 d1 a e = absurd (cc a)

-- No command is there.

-- the program ends there; by all that the answer clause of the code has at hand, a premise each
pub misses : (key : ℕ) (p q : Place) (s : Storage) (told : Csw × Bool) (d0 d2 : DriveState) → NoCcw ≡ fetch s p true
    → unsaved d0.state ≡ None
    → q ≡ past_no_ccw p → Settles (untouched d0.state) key q condition.ProgramCheck told d0 d2
    → EndsBy (λ f. unit f key (Between (record { storage = s; place = p; state = d0.state }))) told s d0 d2
misses key p q s told d0 d2 h saved past end =
    ends_now (λ f. unit f key (Between (record { storage = s; place = p; state = d0.state }))) (untouched d0.state) key
    (past_no_ccw p) condition.ProgramCheck s told d0 d2 refl saved
    (subst (λ q. Settles (untouched d0.state) key q condition.ProgramCheck told d0 d2) past end)
    (λ f. ap (next_fetched f key (record { storage = s; place = p; state = d0.state })) (sym h))

-- A command is there.

module _ (key : ℕ) (p : Place) (s : Storage) (ccw : Ccw) (d0 d1 : DriveState) (there : GoodCcw ccw ≡ fetch s p true)
    (saved : unsaved d0.state ≡ None)
    (state : d1 ≡ with_image (after_begin (fault_met d0 d1) ccw.code d0) d1.image) where
  abbrev before : Point
  before = record { storage = s; place = p; state = d0.state }

  calm_begun : BegunCalm (tells_equipment_check (drive_of d0.state).sense ≡ false) (begin None ccw.code d0.state)
  calm_begun = begin_calm _ ccw.code d0.state (calm_before d0 saved)

  -- the drive rejects it
  pub rejects : (told : Csw × Bool) (d2 : DriveState) → begun.Rejected ≡ answer_of_begin (begin (fault_met d0 d1) ccw.code d0.state)
      → CallsStore false (begin_saves ccw.code d0) d0 d1 → Reports (begun.Rejected ≡ begun.Rejected) d0 d1
      → (q : Place) → q ≡ past_ccw p ccw → Settles (failed d1.state) key q condition.Clear told d1 d2
      → EndsBy (λ f. unit f key (Between (record { storage = s; place = p; state = d0.state }))) told s d0 d2
  rejects told d2 answer calls reports q past end =
      ends_after (λ f. unit f key (Between before)) (failed d1.state) key (past_ccw p ccw) condition.Clear s told
      (λ f. begin f ccw.code d0.state ≡ Rejected d1.state) (begun.Rejected ≡ begun.Rejected)
      false (begin_saves ccw.code d0) d0 d1 d2
      (record {
        stable = λ at left w. begin_stable ccw.code d0.state left (Rejected d1.state) at w;
        calm = λ at. subst (BegunCalm (tells_equipment_check (drive_of d0.state).sense ≡ false)) at calm_begun;
        fails = λ h. refl;
        at = rejected_is (begin (fault_met d0 d1) ccw.code d0.state) d0 d1 answer state;
        same = refl;
        calls = calls;
        reports = reports;
      })
      (subst (λ q. Settles (failed d1.state) key q condition.Clear told d1 d2) past end)
      (λ f at. ap (next_fetched f key before) (sym there) ∙ ap (next_begun f key (requested before ccw)) at)

  -- it is over at once
  immediate_same : Reports (begun.Immediate ≡ begun.Rejected) d0 d1 → d1.image.failures ≡ d0.image.failures
  immediate_same reports = unfailed (begun.Immediate ≡ begun.Rejected) d0 d1 (λ h. cc) reports

  pub immediately : (r1 : Run) (a : Step) (d2 : DriveState) → begun.Immediate ≡ answer_of_begin (begin (fault_met d0 d1) ccw.code d0.state)
      → Reports (begun.Immediate ≡ begun.Rejected) d0 d1
      → d2.image.loads ≡ d1.image.loads → (is_written d1.state ≡ false → is_written (closed_of None d1 d1.work).state ≡ false
      → d2.image ≡ d1.image)
      → (q : Place) → q ≡ past_ccw p ccw
      → ComesBy key (λ f. next_chosen (choice f key (record { storage = s; ccw = ccw; place = q }) (closed_of f d1 d1.work)
      (status_of (condition_for false (closed_of f d1 d1.work).unit)))) a r1 s d1 d2
      → ComesBy key (λ f. unit f key (Between (record { storage = s; place = p; state = d0.state }))) a r1 s d0 d2
  immediately r1 a d2 answer reports loads unwritten q past is =
      comes_after (λ f. begin f ccw.code d0.state ≡ Immediate d1.state b.0) (λ f. unit f key (Between before))
      (λ f. next_chosen (choice f key (record { storage = s; ccw = ccw; place = past_ccw p ccw }) (closed_of f d1 d1.work)
      (status_of (condition_for false (closed_of f d1 d1.work).unit)))) key s r1 a d0 d1 d2
      (record {
        same_next = λ f at. ap (next_fetched f key before) (sym there) ∙ ap (next_begun f key (requested before ccw)) at ∙ chosen f;
        at = none;
        stable = λ left rose. stable left rose (is_written d1.state) refl;
        failures = immediate_same reports;
        loads = loads;
        quiet = calm.quiet;
      })
      (subst (λ q. ComesBy key (λ f. next_chosen (choice f key (record { storage = s; ccw = ccw; place = q }) (closed_of f d1 d1.work)
      (status_of (condition_for false (closed_of f d1 d1.work).unit)))) a r1 s d1 d2) past is)
    where
      b : (motion : Bool) × (begin (fault_met d0 d1) ccw.code d0.state ≡ Immediate d1.state motion)
          × (d1.work ≡ Over (immediate_ending motion))
      b = immediate_is (begin (fault_met d0 d1) ccw.code d0.state) d0 d1 answer state

      none : begin None ccw.code d0.state ≡ Immediate d1.state b.0
      none = ap (λ f. begin f ccw.code d0.state) (sym (met_none d0 d1 (immediate_same reports))) ∙ b.1

      calm : Calm (tells_equipment_check (drive_of d0.state).sense ≡ false) d1.state
      calm = subst (BegunCalm (tells_equipment_check (drive_of d0.state).sense ≡ false)) none calm_begun

      closed_unwritten : is_written d1.state ≡ false → is_written (closed_of None d1 d1.work).state ≡ false
      closed_unwritten w = ap (λ v. is_written (closed_of None d1 v).state) b.2 ∙ w

      stable : (left : List ℕ) → d2.image.failures ≡ d1.image.failures + 1 → (w : Bool) → is_written d1.state ≡ w
          → begin (Some (SaveFails left)) ccw.code d0.state ≡ Immediate d1.state b.0
      stable left rose true w = begin_stable ccw.code d0.state left (Immediate d1.state b.0) none w
      stable left rose false w = absurd (omega (arith, rose, ap (λ (i : ImageState). i.failures) (unwritten w (closed_unwritten w))))

      over : (m : Bool) → immediate d1.state m ≡ record { state = d1.state; unit = (immediate_ending m).unit; motion = m }
      over true = refl
      over false = refl

      chosen : (f : Option Fault) → next_chosen (choice f key (requested before ccw) (immediate d1.state b.0) no_channel_status)
          ≡ next_chosen (choice f key (record { storage = s; ccw = ccw; place = past_ccw p ccw }) (closed_of f d1 d1.work)
          (status_of (condition_for false (closed_of f d1 d1.work).unit)))
      chosen f =
          ap (λ c. next_chosen (choice f key (requested before ccw) c no_channel_status)) (over b.0 ∙ sym (ap (closed_of f d1) b.2))

-- An immediate first command.

plain : (asked b : Bool) → with_interruption asked (if b && false then no_channel_status else no_channel_status)
    ≡ with_interruption asked no_channel_status
plain asked true = refl
plain asked false = refl

module _ (key : ℕ) (ccw : Ccw) (p : KeptPlace) (d0 d1 d2 : DriveState) (unwritten : is_written d0.state ≡ false) (saved : unsaved d0.state
    ≡ None)
    (calls : CallsStore false (begin_saves ccw.code d0) d0 d1) (answer : begun.Immediate ≡ answer_of_begin
    (begin (fault_met d0 d1) ccw.code d0.state))
    (state : d1 ≡ with_image (after_begin (fault_met d0 d1) ccw.code d0) d1.image) where
  same : d1.image ≡ d0.image
  same = image_untouched (begin_saves ccw.code d0) d0 d1 (ap (λ w. w && goes_to_cylinder_zero (beginning ccw.code d0.state.registers))
      unwritten) calls

  abbrev over : (motion : Bool) × (begin (fault_met d0 d1) ccw.code d0.state ≡ Immediate d1.state motion)
      × (d1.work ≡ Over (immediate_ending motion))
  over = immediate_is (begin (fault_met d0 d1) ccw.code d0.state) d0 d1 answer state

  none : begin None ccw.code d0.state ≡ Immediate d1.state over.0
  none = ap (λ f. begin f ccw.code d0.state) (sym (met_none d0 d1 (ap (λ (i : ImageState). i.failures) same))) ∙ over.1

  calm : Calm (tells_equipment_check (drive_of d0.state).sense ≡ false) d1.state
  calm = subst (BegunCalm (tells_equipment_check (drive_of d0.state).sense ≡ false)) none (begin_calm _ ccw.code d0.state
      (calm_before d0 saved))

  quiet_by : (a : First) → ImmediateDone key ccw p over.0 a d1 d2 → StartsQuietly d0 d2
  quiet_by first.Rejected h = absurd h
  quiet_by (first.Immediate told asked) h = record {
    image = h.1 ∙ same;
    no_check = subst (λ e. GainsNoCheck (drive_of d0.state) e)
        (sym h.5.drive) calm.quiet;
  }
  quiet_by (first.Accepted r) h = record {
    image = h.1 ∙ same;
    no_check = subst (λ st. GainsNoCheck (drive_of d0.state) (drive_of st))
        (sym h.3) calm.quiet;
  }

  pub first_quiet : (a : First) → ((motion : Bool) → d1.work ≡ Over (immediate_ending motion) → ImmediateDone key ccw p motion a d1 d2)
      → StartsQuietly d0 d2
  first_quiet a done = quiet_by a (done over.0 over.2)

  module _ (s : Storage) where
    abbrev asked_for : Request
    asked_for = request_for s ccw p

    abbrev end_of : Bool → Ending
    end_of motion = ending None key (place_of p) (immediate d1.state motion) no_channel_status

    chosen : (m : Bool) → chains_command ccw ≡ true → next_chosen (choice None key asked_for (immediate d1.state m) no_channel_status)
        ≡ GoesOn (Between (record { storage = s; place = place_of p; state = d1.state }))
    chosen true h = rw h
    chosen false h = rw h

    begun_by : (a : First) → ImmediateDone key ccw p over.0 a d1 d2 → key < 16 → p.next ≤ 2 ^ 24 → p.last ≤ 2 ^ 24
        → FirstBegun key s ccw p a d0 d2
    begun_by first.Rejected h k n l = absurd h
    begun_by (first.Immediate told asked) h k n l = record {
      over = end_of over.0;
      first = ap (first_begun key asked_for) none ∙ ap (λ b. if b then AcceptedStart else ImmediateStart (end_of over.0)) h.0;
      unit = sym h.4;
      motion = sym h.3;
      channel = plain p.interruption (tells (immediate d1.state over.0).unit UNIT_CHECK) ∙ ap (λ b. with_interruption b no_channel_status)
          (sym h.2);
      drive = h.5;
    }
    begun_by (first.Accepted r) h k n l = (
      ap (first_begun key asked_for) none ∙ ap (λ b. if b then AcceptedStart else ImmediateStart (end_of over.0)) h.0,
      ap (λ (r : RunningState). r.key) h.2,
      record {
        within = subst Within (sym h.2) (record { key = k; place = record { next = omega arith; last = omega arith }; stage = tt });
        stands = subst (λ r. Stands r d2) (sym h.2) (record {
          fits = subst (StageFits stage.Between d2.state) (sym h.4) tt;
          saved =
              ap unsaved h.3 ∙ calm.saved;
        });
      },
      ap (next_begun None key asked_for) none ∙ chosen over.0 h.0
          ∙ ap (λ st. GoesOn (Between (record { storage = s; place = place_of p; state = st }))) (sym h.3)
          ∙ sym (ap (λ r. GoesOn (phase_in r s d2)) h.2),
    )

    pub first_immediate : (a : First) → ((motion : Bool) → d1.work ≡ Over (immediate_ending motion)
        → ImmediateDone key ccw p motion a d1 d2) → key < 16 → p.next ≤ 2 ^ 24 → p.last ≤ 2 ^ 24 → FirstBegun key s ccw p a d0 d2
    first_immediate a done k n l = begun_by a (done over.0 over.2) k n l

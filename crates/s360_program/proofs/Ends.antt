-- What the end of a command comes to.
use Rattle.std.proofs.Common.{◌≡◌, ℕ, refl, sym, ap, subst, ◌∙◌, true, false, Bool, ◌&&◌, ◌<◌, List, Option, Some, None}
use Rattle.s360_words.specs.Storage.{Storage}
use Rattle.s360_words.specs.Words.{chains_command}
use Rattle.s360_words.specs.declared.flags.TheConstants.UnitStatus.{UNIT_CHECK}
use Rattle.s360_words.specs.declared.flags.UnitStatus.{UnitStatus}
use Rattle.s360_words.specs.declared.words.Ccw.{Ccw}
use Rattle.s360_words.specs.declared.words.Csw.{Csw}
use Rattle.ckd_command.specs.declared.close.DriveEnding.{DriveEnding}
use Rattle.ckd_command.specs.Drive.{Closed, Fault, SaveFails, drive_of, is_written, unsaved, tells_equipment_check}
use Rattle.ckd_command.proofs.Marks.{Calm, close_calm}
use Rattle.ckd_command.proofs.Stable.{close_stable}
use Rattle.s360_laws.specs.Commands.{choice}
use Rattle.s360_laws.specs.Endings.{ending}
use Rattle.s360_laws.specs.Places.{Place}
use Rattle.s360_laws.specs.Status.{tells, is_clear}
use Rattle.s360_laws.specs.Units.{Between, Next, GoesOn, EndsIn, next_chosen}
use Rattle.s360_laws.specs.Unsaved.{GainsNoCheck}
use Rattle.ckd_drive.specs.Work.{DriveState, Work, Idle, Over, Looking, Passing, fault_met, with_image, CallsStore, Reports, after_end}
use Rattle.ckd_drive.specs.Work.{closed_of, ending_of, end_saves, failed_ending}
use Rattle.s360_program.specs.Place.{place_of, modified_place}
use Rattle.s360_program.specs.Stands.{StageFits, StageWithin, PlaceWithin, phase_by}
use Rattle.s360_program.specs.Steps.{EndsBy, GoesBy, Settles, closed_with, request_at, status_of, condition_for, chains_after}
use Rattle.s360_program.specs.declared.conditions.ChannelCondition.{ChannelCondition}
use Rattle.s360_program.specs.declared.run.Run.{Run}
use Rattle.s360_program.specs.Stage.{stage_of}
use Rattle.s360_program.specs.Stage as stage
use Rattle.s360_program.proofs.Cases.{never}
use Rattle.s360_program.proofs.Meeting.{unfailed, ends_after, met_none}

-- a drive in which no track is reported as not saved, before any call
pub calm_before : (d : DriveState) → unsaved d.state ≡ None → Calm (tells_equipment_check (drive_of d.state).sense ≡ false) d.state
calm_before d h = record { saved = h; quiet = λ q. q }

-- The command is closed.

pub closed_is : (f : Option Fault) (d0 d1 : DriveState) (e : DriveEnding) → d1 ≡ with_image (after_end f d0) d1.image
    → e ≡ ending_of (closed_of f d0 d0.work) → closed_of f d0 d0.work ≡ closed_with d1.state e
closed_is f d0 d1 e state told =
    sym (ap (λ s. closed_with s e) (ap (λ (d : DriveState). d.state) state) ∙ ap (closed_with (closed_of f d0 d0.work).state) told)

closed_stable : (d : DriveState) (w : Work) (left : List ℕ) (c : Closed) → closed_of None d w ≡ c → is_written c.state ≡ true
    → closed_of (Some (SaveFails left)) d w ≡ c
closed_stable d Idle left c e h = e
closed_stable d (Over x) left c e h = e
closed_stable d (Looking o) left c e h = e
closed_stable d (Passing o b l) left c e h = close_stable (record { opened = o; state = d.state }) b left c e h

closed_calm : (d : DriveState) (w : Work) → unsaved d.state ≡ None → Calm (tells_equipment_check (drive_of d.state).sense ≡ false)
    (closed_of None d w).state
closed_calm d Idle h = calm_before d h
closed_calm d (Over x) h = calm_before d h
closed_calm d (Looking o) h = calm_before d h
closed_calm d (Passing o b l) h = close_calm _ (record { opened = o; state = d.state }) b (calm_before d h)

-- The program ends with the command.

-- a command that ended, and how the drive answered it
pub record EndsCommand (e : DriveEnding) (d0 d1 : DriveState) : Type 0 where
  pub saved : unsaved d0.state ≡ None
  pub state : d1 ≡ with_image (after_end (fault_met d0 d1) d0) d1.image
  pub ending : e ≡ ending_of (closed_of (fault_met d0 d1) d0 d0.work)
  pub calls : CallsStore false (end_saves d0) d0 d1
  pub reports : Reports (e ≡ failed_ending) d0 d1

module _ (key : ℕ) (p : Place) (k : ChannelCondition) (s : Storage) (told : Csw × Bool) (d0 d1 d2 : DriveState) (e : DriveEnding)
    (over : EndsCommand e d0 d1) (end : Settles (closed_with d1.state e) key p k told d1 d2) where
  ends_closed : (next : Option Fault → Next) → ((f : Option Fault) → closed_of f d0 d0.work ≡ closed_with d1.state e
      → next f ≡ EndsIn s (ending f key p (closed_with d1.state e) (status_of k))) → EndsBy next told s d0 d2
  ends_closed next =
      ends_after next (closed_with d1.state e) key p k s told (λ f. closed_of f d0 d0.work ≡ closed_with d1.state e)
      (e ≡ failed_ending) false (end_saves d0) d0 d1 d2
      (record {
        stable = λ at left w. closed_stable d0 d0.work left (closed_with d1.state e) at w;
        calm = λ at. subst (λ (c : Closed). Calm (tells_equipment_check (drive_of d0.state).sense ≡ false) c.state) at
            (closed_calm d0 d0.work over.saved);
        fails = λ h. ap (λ (e : DriveEnding). tells e.unit UNIT_CHECK) h;
        at = closed_is (fault_met d0 d1) d0 d1 e over.state over.ending;
        same = refl;
        calls = over.calls;
        reports = over.reports;
      }) end

  pub stops : EndsBy (λ f. EndsIn s (ending f key p (closed_of f d0 d0.work) (status_of k))) told s d0 d2
  stops = ends_closed (λ f. EndsIn s (ending f key p (closed_of f d0 d0.work) (status_of k)))
      (λ f at. ap (λ c. EndsIn s (ending f key p c (status_of k))) at)

  pub concludes : (ccw : Ccw) (incorrect : Bool) → k ≡ condition_for incorrect e.unit → chains_after ccw e.unit k ≡ false
      → EndsBy (λ f. next_chosen (choice f key (record { storage = s; ccw = ccw; place = p }) (closed_of f d0 d0.work)
      (status_of (condition_for incorrect (closed_of f d0 d0.work).unit)))) told s d0 d2
  concludes ccw incorrect same no_chain =
      ends_closed (λ f. next_chosen (choice f key (record { storage = s; ccw = ccw; place = p }) (closed_of f d0 d0.work)
      (status_of (condition_for incorrect (closed_of f d0 d0.work).unit))))
      (λ f at. rw (at, ← same, no_chain))

-- The next command follows: the end met no fault, since a failed end stops the chain.

not_failed : (ccw : Ccw) (e : DriveEnding) (k : ChannelCondition) → chains_after ccw e.unit k ≡ true → e ≡ failed_ending → ⊥
not_failed ccw e k h is = go (chains_command ccw) (rw is at h)
  where
    go : (b : Bool) → ((b && false) && is_clear (status_of k)) ≡ true → ⊥
    go true h = never h
    go false h = never h

good_end : (ccw : Ccw) (k : ChannelCondition) (d0 d1 : DriveState) (e : DriveEnding) → Reports (e ≡ failed_ending) d0 d1
    → chains_after ccw e.unit k ≡ true → d1.image.failures ≡ d0.image.failures
good_end ccw k d0 d1 e reports chains = unfailed (e ≡ failed_ending) d0 d1 (not_failed ccw e k chains) reports

-- behind a command of this word the channel's condition lets the next one follow
pub record LetsFollow (ccw : Ccw) (incorrect : Bool) (k : ChannelCondition) (unit : UnitStatus) : Type 0 where
  pub condition : k ≡ condition_for incorrect unit
  pub chains : chains_after ccw unit k ≡ true

-- a program goes to its next command, behind one that ended with this status: its key stays, and its place is where the status leads
pub record GoesToNext (r q : Run) (unit : UnitStatus) : Type 0 where
  pub in_range : r.key < 16
  pub key : q.key ≡ r.key
  pub between : stage_of q ≡ stage.Between
  pub place : place_of q.place ≡ modified_place (place_of r.place) unit
  pub within : PlaceWithin (place_of q.place)

-- a command that chains goes on to the next
pub chains_on : (r q : Run) (s : Storage) (ccw : Ccw) (incorrect : Bool) (k : ChannelCondition) (d0 d1 : DriveState) (e : DriveEnding)
    → EndsCommand e d0 d1 → LetsFollow ccw incorrect k e.unit → GoesToNext r q e.unit
    → GoesBy r.key (next_chosen (choice None r.key (request_at s ccw r) (closed_of None d0 d0.work)
    (status_of (condition_for incorrect (closed_of None d0 d0.work).unit)))) q s d0 d1
chains_on r q s ccw incorrect k d0 d1 e over lets on = record {
  failures = good;
  goes = next ∙ ap (λ g. GoesOn (phase_by g (place_of q.place) s d1.state d1.work)) (sym on.between);
  same_key = on.key;
  fits = record {
    within = record {
      key = subst (λ k. k < 16) (sym on.key) on.in_range;
      place = on.within;
      stage =
          subst (λ g. StageWithin g (place_of q.place)) (sym on.between) tt;
    };
    stands = record {
      fits = subst (λ g. StageFits g d1.state d1.work) (sym on.between) (subst (StageFits stage.Between d1.state)
          (sym idle) tt);
      saved = subst (λ (c : Closed). unsaved c.state ≡ None) at calm.saved;
    };
  };
  no_check = subst (λ (c : Closed). GainsNoCheck (drive_of d0.state) (drive_of c.state)) at calm.quiet;
}
  where
    good : d1.image.failures ≡ d0.image.failures
    good = good_end ccw k d0 d1 e over.reports lets.chains

    at : closed_of None d0 d0.work ≡ closed_with d1.state e
    at = ap (λ f. closed_of f d0 d0.work) (sym (met_none d0 d1 good)) ∙ closed_is (fault_met d0 d1) d0 d1 e over.state over.ending

    calm : Calm (tells_equipment_check (drive_of d0.state).sense ≡ false) (closed_of None d0 d0.work).state
    calm = closed_calm d0 d0.work over.saved

    idle : d1.work ≡ Idle
    idle = ap (λ (d : DriveState). d.work) over.state

    next : next_chosen (choice None r.key (request_at s ccw r) (closed_of None d0 d0.work)
        (status_of (condition_for incorrect (closed_of None d0 d0.work).unit)))
        ≡ GoesOn (Between (record { storage = s; place = place_of q.place; state = d1.state }))
    next = rw (at, ← lets.condition, lets.chains, on.place)

-- A failed call of the store is reported: it follows from what the definitions say of the state, and from how often the
-- store was called.
use Rattle.std.proofs.Common.{◌≡◌, ◌∙◌, inl, inr, ◌⊎◌, ap, sym, subst, refl, ℕ, ◌+◌, List, Bool, true, false, Option, Some, None, arith}
use Rattle.std.proofs.lemmas.Bool.{and_parts, true_from_ne_false}
use Rattle.ckd_command.specs.declared.registers.Registers.{Registers}
use Rattle.ckd_command.specs.declared.tables.Aim.{Aim}
use Rattle.ckd_command.specs.declared.tables.Aim.TheVariants.{Next}
use Rattle.ckd_command.specs.Answers.{Beginning, Sight}
use Rattle.ckd_command.specs.Answers as command_answer
use Rattle.ckd_command.specs.declared.close.DriveEnding.{DriveEnding}
use Rattle.ckd_command.specs.Tables.{aim}
use Rattle.ckd_command.specs.Commands.{Closing, beginning, closing}
use Rattle.ckd_command.specs.Drive.{State, Fault, LoadFails, SaveFails, Closed, begin, begun, looked, look_for, closed, with_registers}
use Rattle.ckd_command.specs.Drive.{is_written, track_under, tells_equipment_check, unsaved, lost, failed}
use Rattle.ckd_command.proofs.CommandFacts.{NotTold, BeginsSilent, SightSilent, closing_facts, beginning_silent, sight_silent}
use Rattle.ckd_command.proofs.CommandFacts.{store_fault_is_told}
use Rattle.ckd_drive.specs.declared.answers.Begun.{Begun}
use Rattle.ckd_drive.specs.declared.answers.Begun.TheVariants as answer
use Rattle.ckd_drive.specs.Work.{Work, Over, Looking, Passing, DriveState, CallsStore, Reports, fault_met, with_image, open_at, after_begin}
use Rattle.ckd_drive.specs.Work.{after_begun, answer_of_begin, begin_saves, goes_to_cylinder_zero, after_look, after_look_of, after_sight}
use Rattle.ckd_drive.specs.Work.{look_loads, look_loads_of, look_saves, look_saves_of, goes_to_next_head, failed_ending, after_end}
use Rattle.ckd_drive.specs.Work.{closed_of, ending_of, end_saves, end_saves_of, after_settle, settled_state, is_next}
use Rattle.ckd_drive.proofs.Calls.{fault_none, fault_loading, fault_saving, mark_written, no_more}
use Rattle.ckd_drive.specs.Laws.{Begin, Look, Pass, End, Settle, TellsFailures, EachCallTells, Start, Then, GainsByFailures, EachTrailTells}

-- What is reported.

-- what is reported at the end, and is not reported anew, was reported before
heard : (r q : Registers) → NotTold r q → tells_equipment_check q.sense ≡ true → tells_equipment_check r.sense ≡ true
heard r q n e = true_from_ne_false (tells_equipment_check r.sense) (λ is. (let quiet : tells_equipment_check q.sense ≡ false = n is in cc))

-- a fault is reported, and nothing is left to be saved
pub record TellsFault (s : State) : Type 0 where
  pub told : tells_equipment_check s.registers.sense ≡ true
  pub unwritten : is_written s ≡ false

lost_tells : (s : State) (left : List ℕ) → TellsFault (lost s left)
lost_tells s left = record { told = store_fault_is_told (record s.registers { credit = None }); unwritten = refl }

-- What a call reports whose outcome goes by the fault that it met: none is told where it met none; else the outcome is so, and
-- told. Its premises are many, since four calls come here, each by facts of its own.
reports_by : (so : Option Fault → Type 0) (loads saves : Bool) (old new : DriveState) (after : Option Fault → State)
    → new.state ≡ after (fault_met old new) → CallsStore loads saves old new → NotTold old.state.registers (after None).registers
    → ((left : List ℕ) → saves ≡ true → so (Some (SaveFails left)) × TellsFault (after (Some (SaveFails left))))
    → (loads ≡ true → new.image.loads ≡ old.image.loads + 1 → so (Some LoadFails) × TellsFault (after (Some LoadFails)))
    → Reports (so (fault_met old new)) old new
reports_by so loads saves old new after state k quiet saving loading = record {
  failed = elim k.failures [
    | inl same ↦ inl same
    | inr x ↦ elim x.1 [
      | inl s ↦ (let saved = rw s at k.saves in fails _ (fault_saving old new x.0 saved) (saving _ s))
      | inr more ↦ elim k.loads [
        | inl same ↦ absurd (no_more old.image.loads (sym same ∙ more))
        | inr l ↦ (let saved = rw l.1 at k.saves in fails _ (fault_loading old new x.0 (omega (arith, saved))) (loading l.0 more))
      ]
    ]
  ];
  good = λ same told. heard old.state.registers (after None).registers quiet
      (sym (ap (λ (x : State). tells_equipment_check x.registers.sense) (state ∙ ap after (fault_none old new same))) ∙ told);
}
  where
    fails : (f : Option Fault) → fault_met old new ≡ f → so f × TellsFault (after f) → (new.image.failures ≡ old.image.failures)
        ⊎ (so (fault_met old new) × (tells_equipment_check new.state.registers.sense ≡ true) × (is_written new.state ≡ false))
    fails f met x =
        let is : new.state ≡ after f = state ∙ ap after met in
        inr (rw met x.0, rw is x.1.told, rw is x.1.unwritten)

-- Begin.

begun_quiet : (d : DriveState) (b : Beginning) → BeginsSilent d.state.registers b
    → NotTold d.state.registers (after_begun (begun None d.state b) d).state.registers
begun_quiet d (command_answer.ToCylinderZero r None) k = k
begun_quiet d _ k = k

abbrev FailsAtBegin : Option Fault → DriveState → Beginning → Type 0
FailsAtBegin f d b = (answer_of_begin (begun f d.state b) ≡ answer.Rejected) × TellsFault (after_begun (begun f d.state b) d).state

loses_at_begin : (d : DriveState) (b : Beginning) (left : List ℕ) → is_written d.state ≡ true → goes_to_cylinder_zero b ≡ true
    → FailsAtBegin (Some (SaveFails left)) d b
loses_at_begin d (command_answer.ToCylinderZero r o) left w e =
    rw (mark_written d.state.mark w) (refl, lost_tells (with_registers d.state r) left)
loses_at_begin d _ left w e = absurd cc

pub begin_reports : (old new : DriveState) (code : ℕ) (a : Begun)
    → new ≡ with_image (after_begin (fault_met old new) code old) new.image → a ≡ answer_of_begin (begin (fault_met old new) code old.state)
    → CallsStore false (begin_saves code old) old new
    → Reports (a ≡ answer.Rejected) old new
begin_reports old new code a state says k =
    let b = beginning code old.state.registers in
    rw says (reports_by (λ f. answer_of_begin (begin f code old.state) ≡ answer.Rejected) false (begin_saves code old) old new
    (λ f. (after_begin f code old).state) (ap (λ (d : DriveState). d.state) state) k
    (begun_quiet old b (beginning_silent code old.state.registers))
    (λ left saved. (let both = and_parts (is_written old.state) (goes_to_cylinder_zero b) saved in loses_at_begin old b left both.0 both.1))
    (λ loaded more. absurd cc))

-- Look.

look_quiet : (d : DriveState) (w : Work) → NotTold d.state.registers (after_look_of None d w).state.registers
look_quiet d (Looking o) = at _ (sight_silent d.state.volume.geometry (track_under d.state) o d.state.registers)
  where
    at : (s : Sight) → SightSilent d.state.registers s
        → NotTold d.state.registers (after_sight (looked None (open_at d o) s) d).state.registers
    at (command_answer.Found opened) k = λ e. e
    at _ k = k
look_quiet d _ = λ e. e

abbrev pub FailsAtLook : Option Fault → DriveState → Work → Type 0
FailsAtLook f d w = ((after_look_of f d w).work ≡ Over failed_ending) × TellsFault (after_look_of f d w).state

loses_at_look : (d : DriveState) (w : Work) (left : List ℕ) → look_saves_of d w ≡ true → FailsAtLook (Some (SaveFails left)) d w
loses_at_look d (Looking o) left e = at _ (and_parts (is_written d.state) _ e).1
  where
    at : (s : Sight) → goes_to_next_head s ≡ true → ((after_sight (looked (Some (SaveFails left)) (open_at d o) s) d).work
        ≡ Over failed_ending) × TellsFault (after_sight (looked (Some (SaveFails left)) (open_at d o) s) d).state
    at (command_answer.NextHead r) h = rw (mark_written d.state.mark (and_parts (is_written d.state) _ e).0) (refl, lost_tells d.state left)
    at _ h = absurd cc
loses_at_look d _ left e = absurd cc

loads_at_look : (d : DriveState) (w : Work) → look_loads_of w ≡ true → is_written d.state ≡ false → FailsAtLook (Some LoadFails) d w
loads_at_look d (Looking o) e unwritten = go (aim o.command) _ e
  where
    go : (a : Aim) (s : Sight) → is_next a ≡ true → ((after_sight (look_for (Some LoadFails) (open_at d o) a s) d).work
        ≡ Over failed_ending) × TellsFault (after_sight (look_for (Some LoadFails) (open_at d o) a s) d).state
    go (Next kind) s h = (refl, record { told = store_fault_is_told d.state.registers; unwritten = unwritten })
    go _ s h = absurd cc
loads_at_look d _ e unwritten = absurd cc

pub look_reports : (old new : DriveState)
    → new ≡ with_image (after_look (fault_met old new) old) new.image → CallsStore (look_loads old) (look_saves old) old new
    → (new.image.loads ≡ old.image.loads + 1 → is_written old.state ≡ false)
    → Reports (new.work ≡ Over failed_ending) old new
look_reports old new state k at_hand =
    let P : Work → Type 0 = λ w. Reports (w ≡ Over failed_ending) old new in
    subst P (sym (ap (λ (d : DriveState). d.work) state))
    (reports_by (λ f. (after_look f old).work ≡ Over failed_ending) (look_loads old) (look_saves old) old new
    (λ f. (after_look f old).state) (ap (λ (d : DriveState). d.state) state) k (look_quiet old old.work)
    (λ left saved. loses_at_look old old.work left saved) (λ loaded more. loads_at_look old old.work loaded (at_hand more)))

-- End.

end_quiet : (d : DriveState) (w : Work) → NotTold d.state.registers (closed_of None d w).state.registers
end_quiet d (Passing o b left) = go (closing d.state.volume.geometry (track_under d.state) o d.state.registers b) _
    (closing_facts _ _ _ _ b).not_told
  where
    go : (c : Closing) (moves_off : Bool) → NotTold d.state.registers c.registers
        → NotTold d.state.registers (closed None d.state c moves_off).state.registers
    go c true k = k
    go c false k = k
end_quiet d _ = λ e. e

loses_at_end : (d : DriveState) (w : Work) (left : List ℕ) → end_saves_of d w ≡ true → closed_of (Some (SaveFails left)) d w
    ≡ failed (lost d.state left)
loses_at_end d (Passing o b l) left e =
    let both = and_parts (is_written d.state) (closing d.state.volume.geometry (track_under d.state) o d.state.registers b).moves_off e in
    rw (both.1, mark_written d.state.mark both.0) refl
loses_at_end d _ left e = absurd cc

pub end_reports : (old new : DriveState) (e : DriveEnding)
    → new ≡ with_image (after_end (fault_met old new) old) new.image → e ≡ ending_of (closed_of (fault_met old new) old old.work)
    → CallsStore false (end_saves old) old new
    → Reports (e ≡ failed_ending) old new
end_reports old new e state says k =
    rw says (reports_by (λ f. ending_of (closed_of f old old.work) ≡ failed_ending) false (end_saves old) old new
    (λ f. (after_end f old).state) (ap (λ (d : DriveState). d.state) state) k (end_quiet old old.work)
    (λ left saved. (let x = loses_at_end old old.work left saved in (ap (λ (y : Closed). ending_of y) x, rw x (lost_tells old.state left))))
    (λ loaded more. absurd cc))

-- Settle.

pub settle_reports : (old new : DriveState)
    → new ≡ with_image (after_settle (fault_met old new) old) new.image → CallsStore false (is_written old.state) old new
    → Reports (unsaved new.state ≡ Some (old.state.registers.cylinder, old.state.registers.head)) old new
settle_reports old new state k =
    let now : new.state ≡ settled_state (fault_met old new) old.state = ap (λ (d : DriveState). d.state) state in
    let P : State → Type 0 = λ s. Reports (unsaved s ≡ Some (old.state.registers.cylinder, old.state.registers.head)) old new in
    subst P (sym now) (reports_by (λ f. unsaved (settled_state f old.state) ≡ Some (old.state.registers.cylinder, old.state.registers.head))
    false (is_written old.state) old new (λ f. settled_state f old.state) now k (λ e. e)
    (λ left saved. rw (mark_written old.state.mark saved) (refl, lost_tells old.state left))
    (λ loaded more. absurd cc))

-- Over any calls of the drive.

-- what is reported where the count rose
told : (loads saves : Bool) (so : Type 0) (old new : DriveState) → CallsStore loads saves old new → Reports so old new
    → TellsFailures old new
told loads saves so old new k r = elim k.failures [
  | inl same ↦ inl (same, r.good same)
  | inr more ↦ elim r.failed [ inl same ↦ absurd (no_more old.image.failures (sym same ∙ more.0)) | inr x ↦ inr (more.0, x.1, x.2) ]
]

pub each_call_tells : EachCallTells
each_call_tells old new (Begin code answer state answers calls reported) = told _ _ _ old new calls reported
each_call_tells old new (Look state calls reported) = told _ _ _ old new calls reported
each_call_tells old new (Pass work moved) = inl (
  ap (λ (d : DriveState). d.image.failures) moved,
  λ t. ap (λ (d : DriveState). tells_equipment_check d.state.registers.sense) (sym moved) ∙ t,
)
each_call_tells old new (End ending state ends calls reported) = told _ _ _ old new calls reported
each_call_tells old new (Settle state calls reported) = told _ _ _ old new calls reported

-- one call more
on : (first d e : DriveState) → GainsByFailures first d → TellsFailures d e → GainsByFailures first e
on first d e x (inl y) = record { rose = x.rose; counted = y.0 ∙ x.counted; gained = λ none t. x.gained none (y.1 t) }
on first d e x (inr y) = record {
  rose = x.rose + 1;
  counted = (let more = y.0 in let before = x.counted in omega (arith, more, before));
  gained = λ none t. absurd (omega (arith, none));
}

pub each_trail_tells : EachTrailTells
each_trail_tells first _ Start = record { rose = 0; counted = omega arith; gained = λ none t. t }
each_trail_tells first _ (Then d e trail call) = on first d e (each_trail_tells first d trail) (each_call_tells d e call)

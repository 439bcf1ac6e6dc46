-- What may be called at a drive, by what a look has answered.
use Rattle.std.proofs.Common.{◌≡◌, ◌∙◌, ap, sym, subst, refl, ◌⊎◌, inl, inr, ℕ, List, [], true, false, Option}
use Rattle.ckd_image.specs.Image.{ImageState}
use Rattle.ckd_command.specs.Drive.{Fault, AfterLook, Ready, Passed, Failed, look}
use Rattle.ckd_drive.specs.declared.answers.Look.{Look}
use Rattle.ckd_drive.specs.declared.answers.Look.TheVariants as looked
use Rattle.ckd_drive.specs.Work.{DriveState, Work, Idle, Over, Looking, Passing, is_idle, is_working, may_end, takes_now, left_of, moved_on}
use Rattle.ckd_drive.specs.Work.{passed_of, open_at, after_sight, after_look_of, after_look, answer_of_look, with_image}

sight_opens : (l : AfterLook) (d : DriveState) → is_idle (after_sight l d).work ≡ false
sight_opens (Ready o) d = refl
sight_opens (Passed o) d = refl
sight_opens (Failed s) d = refl

stays_open : (f : Option Fault) (d : DriveState) (w : Work) → is_working w ≡ true → is_idle (after_look_of f d w).work ≡ false
stays_open f d Idle e = absurd cc
stays_open f d (Over k) e = absurd cc
stays_open f d (Looking o) e = sight_opens (look f (open_at d o)) d
stays_open f d (Passing o b left) e = refl

may_end_by : (w : Work) (r : Look) → is_idle w ≡ false → ((n : ℕ) × (r ≡ looked.Ready n)) ⊎ (r ≡ looked.Failed) → r ≡ answer_of_look w
    → may_end w ≡ true
may_end_by Idle r e h a = absurd cc
may_end_by (Over k) r e h a = refl
may_end_by (Looking o) r e (inl h) a = (let x : looked.Ready h.0 ≡ looked.Passed = sym h.1 ∙ a in absurd cc)
may_end_by (Looking o) r e (inr h) a = (let x : looked.Failed ≡ looked.Passed = sym h ∙ a in absurd cc)
may_end_by (Passing o b left) r e h a = refl

works_by : (w : Work) → looked.Passed ≡ answer_of_look w → (is_working w ≡ true) × (passed_of w ≡ [])
works_by Idle a = absurd cc
works_by (Over k) a = absurd cc
works_by (Looking o) a = (refl, refl)
works_by (Passing o b left) a = absurd cc

-- a command that is found, or failed, may end
pub found : (f : Option Fault) (old new : DriveState) (i : ImageState) (r : Look) → is_working old.work ≡ true
    → new ≡ with_image (after_look f old) i
    → ((n : ℕ) × (r ≡ looked.Ready n)) ⊎ (r ≡ looked.Failed) → r ≡ answer_of_look new.work → may_end new.work ≡ true
found f old new i r e is h a =
    may_end_by new.work r (ap (λ (d : DriveState). is_idle d.work) is ∙ stays_open f old old.work e) h a

-- one whose index passed goes on to look
pub goes_on : (new : DriveState) (r : Look) → r ≡ looked.Passed → r ≡ answer_of_look new.work → (is_working new.work ≡ true)
    × (passed_of new.work ≡ [])
goes_on new r h a = works_by new.work (sym h ∙ a)

-- A command that takes bytes takes more of them, as many as it looks for.

pub takes_on : (w : Work) (more : List ℕ) → takes_now w ≡ true → (takes_now (moved_on more w) ≡ true)
    × (is_working (moved_on more w) ≡ true) × (may_end (moved_on more w) ≡ true)
takes_on Idle more e = absurd cc
takes_on (Over k) more e = absurd cc
takes_on (Looking o) more e = absurd cc
takes_on (Passing o b left) more e = (e, refl, refl)

looks_on : (f : Option Fault) (d : DriveState) (w : Work) → takes_now w ≡ true → (takes_now (after_look_of f d w).work ≡ true)
    × (may_end (after_look_of f d w).work ≡ true)
looks_on f d Idle e = absurd cc
looks_on f d (Over k) e = absurd cc
looks_on f d (Looking o) e = absurd cc
looks_on f d (Passing o b left) e = (e, refl)

pub takes_again : (f : Option Fault) (old new : DriveState) (i : ImageState) → takes_now old.work ≡ true
    → new ≡ with_image (after_look f old) i → (takes_now new.work ≡ true) × (may_end new.work ≡ true)
takes_again f old new i e is =
    let P : DriveState → Type 0 = λ d. (takes_now d.work ≡ true) × (may_end d.work ≡ true) in
    subst P (sym is) (looks_on f old old.work e)

pub left_by : (w : Work) (r : Look) (n : ℕ) → r ≡ answer_of_look w → r ≡ looked.Ready n → left_of w ≡ n
left_by Idle r n a e = (let x : looked.Failed ≡ looked.Ready n = sym a ∙ e in absurd cc)
left_by (Over k) r n a e = (let x : looked.Failed ≡ looked.Ready n = sym a ∙ e in absurd cc)
left_by (Looking o) r n a e = (let x : looked.Passed ≡ looked.Ready n = sym a ∙ e in absurd cc)
left_by (Passing o b left) r n a e = ap ready_left (sym a ∙ e)
  where
    ready_left : Look → ℕ
    ready_left (looked.Ready k) = k
    ready_left looked.Passed = 0
    ready_left looked.Failed = 0

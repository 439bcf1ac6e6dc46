-- What a running program is at, by cases.
use Rattle.std.proofs.Common.{◌≡◌, ◌⊎◌, inl, inr, Bool, true, false, List, [], ◌∷◌, ℕ}
use Rattle.s360_words.specs.declared.words.Ccw.{Ccw}
use Rattle.ckd_command.specs.declared.begin.Opened.{Opened}
use Rattle.ckd_command.specs.Drive.{State}
use Rattle.ckd_drive.specs.Work.{Work, Idle, Over, Looking, Passing}
use Rattle.s360_program.specs.Stands.{StageFits}
use Rattle.s360_program.specs.Stage.{Stage}
use Rattle.s360_program.specs.Stage as stage

-- a test has one answer
pub never : {P : Type 0} → ◌≡◌ {A = Bool} false true → P
never h = absurd (cc)

-- of two things the one whose other can't be
pub only_left : {A B : Type 0} → A ⊎ B → (B → ⊥) → A
only_left (inl x) n = x
only_left (inr y) n = absurd (n y)

pub only_right : {A B : Type 0} → A ⊎ B → (A → ⊥) → B
only_right (inl x) n = absurd (n x)
only_right (inr y) n = y

-- what holds of each stage beside what the drive is at then: between two commands, while a look is under way, and where bytes come next,
-- of which none have passed or some have
pub record HoldsByStage (P : Stage → Work → Type 0) : Type 0 where
  pub between : P stage.Between Idle
  pub looking : (ccw : Ccw) (o : Opened) → P (stage.Looking ccw) (Looking o)
  pub none_passed : (ccw : Ccw) (a : ℕ) (o : Opened) (left : ℕ) → P (stage.Moving ccw a) (Passing o [] left)
  pub some_passed : (ccw : Ccw) (a : ℕ) (o : Opened) (x : ℕ) (b : List ℕ) (left : ℕ) → P (stage.Moving ccw a) (Passing o (x ∷ b) left)

-- it holds wherever the two fit
pub by_stage : (s : State) (P : Stage → Work → Type 0) → HoldsByStage P → (g : Stage) (w : Work) → StageFits g s w → P g w
by_stage s P h stage.Between Idle f = h.between
by_stage s P h (stage.Looking ccw) (Looking o) f = h.looking ccw o
by_stage s P h (stage.Moving ccw a) (Passing o [] left) f = h.none_passed ccw a o left
by_stage s P h (stage.Moving ccw a) (Passing o (x ∷ b) left) f = h.some_passed ccw a o x b left
by_stage s P h stage.Between (Over e) f = absurd f
by_stage s P h stage.Between (Looking o) f = absurd f
by_stage s P h stage.Between (Passing o b left) f = absurd f
by_stage s P h (stage.Looking ccw) Idle f = absurd f
by_stage s P h (stage.Looking ccw) (Over e) f = absurd f
by_stage s P h (stage.Looking ccw) (Passing o b left) f = absurd f
by_stage s P h (stage.Moving ccw a) Idle f = absurd f
by_stage s P h (stage.Moving ccw a) (Over e) f = absurd f
by_stage s P h (stage.Moving ccw a) (Looking o) f = absurd f

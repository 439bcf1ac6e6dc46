-- A command that looks, one look after another.
use Rattle.std.proofs.Common.{◌≡◌, ◌∙◌, arith, refl, sym, ap, ℤ, pos, ℕ, suc, ◌+◌, List, Bool, true, false}
use Rattle.ckd_command.specs.Drive.{AfterBegin, Rejected, Immediate, Started}
use Rattle.ckd_drive.specs.declared.answers.Begun.TheVariants as begun
use Rattle.ckd_drive.specs.declared.answers.Look.{Look}
use Rattle.ckd_drive.specs.declared.answers.Look.TheVariants as looked
use Rattle.ckd_drive.specs.Work.{Work, Idle, Over, Looking, Passing, DriveState, answer_of_begin, answer_of_look, after_begun}
use Rattle.ckd_drive.specs.Work.{is_working, phase_of}
use Rattle.lone_drive_c.specs.Codes.{look_code}
use Rattle.lone_drive_c.specs.Calls.{LooksOn}
use Rattle.lone_drive_c.specs.Words.{PassesIndex, wants_more}

works_by : (w : Work) → looked.Passed ≡ answer_of_look w → is_working w ≡ true
works_by Idle a = absurd (cc)
works_by (Over k) a = absurd (cc)
works_by (Looking o) a = refl
works_by (Passing o b left) a = absurd (cc)

-- one whose index passed goes on to look
pub works_on : (w : Work) (r : Look) → r ≡ looked.Passed → r ≡ answer_of_look w → is_working w ≡ true
works_on w r h a = works_by w (sym h ∙ a)

-- the index passes once more
pub one_look_more : (n : ℕ) (old before new : DriveState) → PassesIndex n old before → LooksOn (pos 1) before new
    → PassesIndex (n + 1) old new
one_look_more n old before new t l = let more : n + 1 ≡ suc n = omega arith in rw more (before, t, l)

-- a look that finds, or fails, is told by another number than one in which the index passes
pub found_other : (r : Look) (n : ℕ) → r ≡ looked.Ready n → look_code r ≡ pos 1 → ⊥
found_other r n e t = (let x : pos 2 ≡ pos 1 = sym (ap look_code e) ∙ t in cc)

pub failed_other : (r : Look) → r ≡ looked.Failed → look_code r ≡ pos 1 → ⊥
failed_other r e t = (let x : pos 0 ≡ pos 1 = sym (ap look_code e) ∙ t in cc)

-- a command that was started works
pub started_works : (a : AfterBegin) (d : DriveState) → begun.Started ≡ answer_of_begin a → is_working (after_begun a d).work ≡ true
started_works (Rejected s) d e = absurd (cc)
started_works (Immediate s m) d e = absurd (cc)
started_works (Started o) d e = refl

-- and so does one that takes bytes
pub wanting_works : (w : Work) → wants_more (phase_of w) ≡ true → is_working w ≡ true
wanting_works Idle e = absurd (cc)
wanting_works (Over k) e = absurd (cc)
wanting_works (Looking o) e = absurd (cc)
wanting_works (Passing o b left) e = refl

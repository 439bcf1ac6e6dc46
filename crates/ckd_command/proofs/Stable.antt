-- What the parts of a command come to without a fault they come to with a failed saving too, which is met later: where the track
-- is still written, so that none was saved.
use Rattle.std.proofs.Common.{◌≡◌, refl, sym, ap, subst, ◌∙◌, true, false, Bool, List, ℕ, Option, Some, None}
use Rattle.ckd_command.specs.declared.registers.Registers.{Registers}
use Rattle.ckd_command.specs.declared.begin.Opened.{Opened}
use Rattle.ckd_command.specs.Answers.{Beginning, Sight}
use Rattle.ckd_command.specs.Answers as answer
use Rattle.ckd_command.specs.Commands.{Closing, closing}
use Rattle.ckd_command.specs.Commands as commands
use Rattle.ckd_command.specs.Drive.{State, Fault, SaveFails, with_registers, is_written, Open, track_under, AfterBegin, Rejected, Immediate}
use Rattle.ckd_command.specs.Drive.{Started, begin, begun, at_cylinder_zero, AfterLook, Passed, look, looked, Closed, failed, close, closed}
use Rattle.ckd_command.specs.Drive.{closed_moving}
use Rattle.ckd_command.proofs.Marks.{by_save, untrue}

-- Begin.

abbrev pub begun_state : AfterBegin → State
begun_state (Rejected s) = s
begun_state (Immediate s motion) = s
begun_state (Started o) = o.state

begun_moved : (f : Option Fault) (s : State) (r : Registers) (o : Option Opened)
    → is_written (begun_state (begun f s (answer.ToCylinderZero r o))) ≡ false
begun_moved f s r o = by_save (λ b. is_written (begun_state b) ≡ false) f (with_registers s r) Rejected (at_cylinder_zero s r o) (at_zero o)
    (λ left _. refl)
  where
    at_zero : (o : Option Opened) → is_written (begun_state (at_cylinder_zero s r o)) ≡ false
    at_zero None = refl
    at_zero (Some o) = refl

begun_stable : (s : State) (b : Beginning) (left : List ℕ) → is_written (begun_state (begun None s b)) ≡ true
    → begun (Some (SaveFails left)) s b ≡ begun None s b
begun_stable s (answer.ToCylinderZero r o) left h = untrue (sym (begun_moved None s r o) ∙ h)
begun_stable s _ left h = refl

pub begin_stable : (code : ℕ) (s : State) (left : List ℕ) (b : AfterBegin) → begin None code s ≡ b → is_written (begun_state b) ≡ true
    → begin (Some (SaveFails left)) code s ≡ b
begin_stable code s left b e h =
    begun_stable s (commands.beginning code s.registers) left (ap (λ b. is_written (begun_state b)) e ∙ h) ∙ e

-- Look. Where the index did not pass, no track was left.

abbrev pub NotPassed : AfterLook → Type 0
NotPassed (Passed o) = ⊥
NotPassed _ = Unit {0}

looked_stable : (left : List ℕ) (o : Open) (s : Sight) → NotPassed (looked None o s) → looked (Some (SaveFails left)) o s ≡ looked None o s
looked_stable left o (answer.NextHead r) h = absurd h
looked_stable left o _ h = refl

pub look_stable : (left : List ℕ) (o : Open) (l : AfterLook) → look None o ≡ l → NotPassed l → look (Some (SaveFails left)) o ≡ l
look_stable left o l e h = looked_stable left o _ (subst NotPassed (sym e) h) ∙ e

-- Close.

closed_moved : (f : Option Fault) (s : State) (c : Closing) (m : Bool) → m ≡ true → is_written (closed f s c m).state ≡ false
closed_moved f s c true h = by_save (λ c. is_written c.state ≡ false) f s failed (closed_moving s c) refl (λ left _. refl)
closed_moved f s c false h = untrue h

pub close_moved : (f : Option Fault) (o : Open) (b : List ℕ)
    → (closing o.state.volume.geometry (track_under o.state) o.opened o.state.registers b).moves_off ≡ true → is_written (close f o b).state
    ≡ false
close_moved f o b h = closed_moved f o.state (closing o.state.volume.geometry (track_under o.state) o.opened o.state.registers b) _ h

closed_stable : (s : State) (c : Closing) (left : List ℕ) (m : Bool) → is_written (closed None s c m).state ≡ true
    → closed (Some (SaveFails left)) s c m ≡ closed None s c m
closed_stable s c left true h = untrue (sym (closed_moved None s c true refl) ∙ h)
closed_stable s c left false h = refl

pub close_stable : (o : Open) (b left : List ℕ) (c : Closed) → close None o b ≡ c → is_written c.state ≡ true
    → close (Some (SaveFails left)) o b ≡ c
close_stable o b left c e h =
    closed_stable o.state (closing o.state.volume.geometry (track_under o.state) o.opened o.state.registers b) left _
    (ap (λ (c : Closed). is_written c.state) e ∙ h) ∙ e

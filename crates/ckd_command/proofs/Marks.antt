-- What becomes of the track under the arm in the parts of a command: only a track that was written is lost, and without a fault
-- none is, and no equipment check is reported.
use Rattle.std.proofs.Common.{◌≡◌, ℕ, refl, ap, sym, ◌∙◌, true, false, Bool, List, [], Option, Some, None, ◌⊎◌, inl, inr}
use Rattle.std.specs.Prelude.{is_some}
use Rattle.ckd_command.specs.declared.registers.Mark.{Mark}
use Rattle.ckd_command.specs.declared.registers.Mark.TheVariants.{Written, Lost}
use Rattle.ckd_command.specs.declared.registers.Registers.{Registers}
use Rattle.ckd_command.specs.declared.tables.Aim.{Aim}
use Rattle.ckd_command.specs.declared.tables.Aim.TheVariants.{Next}
use Rattle.ckd_command.specs.declared.begin.Opened.{Opened}
use Rattle.ckd_command.specs.Answers.{Beginning, Sight}
use Rattle.ckd_command.specs.Answers as answer
use Rattle.ckd_track.specs.Track.{Track}
use Rattle.ckd_command.specs.Tables.{aim}
use Rattle.ckd_command.specs.Commands.{Closing, beginning, closing}
use Rattle.ckd_command.specs.Drive.{State, drive_of, track_under, Fault, LoadFails, SaveFails, left_by, lost, saving, moving_off, moved}
use Rattle.ckd_command.specs.Drive.{with_registers, with_written, is_written, is_written_by, is_write_command, Open, state_of, AfterBegin}
use Rattle.ckd_command.specs.Drive.{Rejected, Immediate, Started, begin, begun, at_cylinder_zero, AfterLook, Ready, Passed, Failed, look}
use Rattle.ckd_command.specs.Drive.{looked, look_for, Closed, failed, close, closed, closed_moving, settled, with_unit_check, unsaved}
use Rattle.ckd_command.specs.Drive.{unsaved_by, tells_equipment_check}
use Rattle.ckd_command.proofs.CommandFacts.{NotTold, BeginsSilent, SightSilent, closing_facts, beginning_silent, sight_silent}

-- Marks.

pub never_both : {P : Type 0} (x : Option (ℕ × ℕ)) → x ≡ None → is_some x ≡ true → P
never_both x e h = let none = rw e at h in cc

pub untrue : {P : Type 0} → false ≡ true → P
untrue h = absurd (cc)

-- whether a track is lost does not hang on where the arm is
pub anywhere : (m : Mark) (r q : Registers) → unsaved_by m r ≡ None → unsaved_by m q ≡ None
anywhere Lost r q e = absurd (cc)
anywhere _ r q e = refl

-- what holds where a save goes, and where a track that was written is lost, holds of a save
pub by_save : {A : Type 0} (P : A → Type 0) (f : Option Fault) (s : State) (fails : State → A) (goes : A) → P goes
    → ((left : List ℕ) → s.mark ≡ Written → P (fails (lost s left))) → P (moving_off f s fails goes)
by_save P f s fails goes h k = go f s.mark refl
  where
    go : (f : Option Fault) (m : Mark) → s.mark ≡ m → P (saving (left_by f m) s fails goes)
    go (Some (SaveFails left)) Written e = k left e
    go _ _ e = h

-- Only what was written is lost, or is written behind it.

pub record Traces (before after : State) : Type 0 where
  pub lost : is_some (unsaved after) ≡ true → is_written before ≡ true
  pub written : is_written after ≡ true → is_written before ≡ true

same_mark : (s : State) (r : Registers) → unsaved s ≡ None → Traces s (with_registers s r)
same_mark s r e = record { lost = never_both (unsaved_by s.mark r) (anywhere s.mark s.registers r e); written = λ w. w }

saved_mark : (s : State) (r : Registers) → Traces s (moved s r)
saved_mark s r = record { lost = never_both None refl; written = untrue }

lost_mark : (before s : State) (left : List ℕ) → before.mark ≡ Written → Traces before (lost s left)
lost_mark before s left e = record { lost = λ h. ap is_written_by e; written = untrue }

abbrev pub BegunTraces : State → AfterBegin → Type 0
BegunTraces before (Rejected s) = Traces before s
BegunTraces before (Immediate s motion) = Traces before s
BegunTraces before (Started o) = Traces before (state_of o)

pub begin_traces : (f : Option Fault) (code : ℕ) (s : State) → unsaved s ≡ None → BegunTraces s (begin f code s)
begin_traces f code s e = go (beginning code s.registers)
  where
    at_zero : (r : Registers) (o : Option Opened) → BegunTraces s (at_cylinder_zero s r o)
    at_zero r None = saved_mark s _
    at_zero r (Some o) = saved_mark s _

    go : (b : Beginning) → BegunTraces s (begun f s b)
    go (answer.Rejected r) = same_mark s r e
    go (answer.Immediate r) = same_mark s r e
    go (answer.Started r o) = same_mark s r e
    go (answer.ToCylinderZero r o) = by_save (BegunTraces s) f (with_registers s r) Rejected (at_cylinder_zero s r o) (at_zero r o)
        (λ left w. lost_mark s (with_registers s r) left w)

abbrev pub LookTraces : State → AfterLook → Type 0
LookTraces before (Ready o) = Traces before (state_of o)
LookTraces before (Passed o) = Traces before (state_of o)
LookTraces before (Failed s) = Traces before s

-- nothing is lost where the area is found
abbrev pub LookFinds : AfterLook → Type 0
LookFinds (Ready o) = unsaved (state_of o) ≡ None
LookFinds _ = Unit {0}

abbrev LookKeeps : State → AfterLook → Type 0
LookKeeps before l = LookTraces before l × LookFinds l

look_keeps : (f : Option Fault) (o : Open) → unsaved (state_of o) ≡ None → LookKeeps (state_of o) (look f o)
look_keeps f o e = go f (aim o.opened.command) _
  where
    at : (f : Option Fault) (s : Sight) → LookKeeps o.state (looked f o s)
    at f (answer.Found opened) = (same_mark o.state o.state.registers e, e)
    at f (answer.IndexPassed r) = (same_mark o.state r e, tt)
    at f (answer.NextHead r) = by_save (LookKeeps o.state) f o.state Failed (Passed (record o { state = moved o.state r }))
        (saved_mark o.state r, tt) (λ left w. (lost_mark o.state o.state left w, tt))
    at f (answer.Missed r) = (same_mark o.state r e, tt)

    go : (f : Option Fault) (a : Aim) (s : Sight) → LookKeeps o.state (look_for f o a s)
    go (Some LoadFails) (Next kind) s = (same_mark o.state _ e, tt)
    go f _ s = at f s

pub look_traces : (f : Option Fault) (o : Open) → unsaved (state_of o) ≡ None → LookTraces (state_of o) (look f o)
look_traces f o e = (look_keeps f o e).0

pub look_finds : (f : Option Fault) (o : Open) → unsaved (state_of o) ≡ None → LookFinds (look f o)
look_finds f o e = (look_keeps f o e).1

-- a command that is closed loses what was written before, and what it writes it writes without a fault too
pub record CloseTraces (before alone after : State) : Type 0 where
  pub lost : is_some (unsaved after) ≡ true → is_written before ≡ true
  pub written : is_written after ≡ true → is_written alone ≡ true

abbrev closing_of : Open → List ℕ → Closing
closing_of o b = closing o.state.volume.geometry (track_under o.state) o.opened o.state.registers b

pub close_traces : (f : Option Fault) (o : Open) (b : List ℕ) → unsaved (state_of o) ≡ None
    → CloseTraces (state_of o) (close None o b).state (close f o b).state
close_traces f o b e = go (closing_of o b) (closing_of o b).moves_off
  where
    stays : (c : Closing) (t : Option Track) → unsaved (with_registers (with_written o.state t) c.registers) ≡ None
    stays c None = anywhere o.state.mark o.state.registers c.registers e
    stays c (Some t) = refl

    go : (c : Closing) (moves_off : Bool) → CloseTraces o.state (closed None o.state c moves_off).state (closed f o.state c moves_off).state
    go c true = by_save (λ x. CloseTraces o.state (closed None o.state c true).state x.state) f o.state failed (closed_moving o.state c)
        (record { lost = never_both None refl; written = untrue })
        (λ left w. record { lost = λ h. ap is_written_by w; written = untrue })
    go c false = record {
      lost = never_both (unsaved (with_registers (with_written o.state c.written) c.registers)) (stays c c.written);
      written = λ w. w;
    }

-- only a write of which a byte has passed writes a track
pub close_writes : (o : Open) (b : List ℕ) → is_written (close None o b).state ≡ true → (is_written (state_of o) ≡ true)
    ⊎ ((is_write_command o ≡ true) × (b ≡ [] → ⊥))
close_writes o b = go (closing_of o b) (closing_of o b).moves_off (closing_facts _ _ _ _ b).written
  where
    go : (c : Closing) (moves_off : Bool) → (c.written ≡ None) ⊎ ((b ≡ [] → ⊥) × (is_write_command o ≡ true))
        → is_written (closed None o.state c moves_off).state ≡ true
        → (is_written o.state ≡ true) ⊎ ((is_write_command o ≡ true) × (b ≡ [] → ⊥))
    go c true h = untrue
    go c false (inl h) = λ w. inl (sym (ap (λ t. is_written (with_written o.state t)) h) ∙ w)
    go c false (inr h) = λ w. inr (h.1, h.0)

-- a save as the program ends loses what was written, or what was lost already
pub settle_traces : (f : Option Fault) (c : Closed) → is_some (unsaved (settled f c).state) ≡ true → (is_some (unsaved c.state) ≡ true)
    ⊎ (is_written c.state ≡ true)
settle_traces f c = by_save (λ x. is_some (unsaved x.state) ≡ true → (is_some (unsaved c.state) ≡ true)
    ⊎ (is_written c.state ≡ true)) f c.state (λ s. record c { state = s; unit = with_unit_check c.unit }) c
    (λ h. inl h) (λ left w h. inr (ap is_written_by w))

-- Without a fault.

-- nothing is lost, and no equipment check is reported that was not reported before
pub record Calm (quiet_before : Type 0) (s : State) : Type 0 where
  pub saved : unsaved s ≡ None
  pub quiet : quiet_before → tells_equipment_check (drive_of s).sense ≡ false

calm_registers : (Q : Type 0) (s : State) (r : Registers) → Calm Q s → NotTold s.registers r → Calm Q (with_registers s r)
calm_registers Q s r h k = record { saved = anywhere s.mark s.registers r h.saved; quiet = λ q. k (h.quiet q) }

calm_moved : (Q : Type 0) (s : State) (r : Registers) → Calm Q s → NotTold s.registers r → Calm Q (moved s r)
calm_moved Q s r h k = record { saved = refl; quiet = λ q. k (h.quiet q) }

abbrev pub BegunCalm : Type 0 → AfterBegin → Type 0
BegunCalm Q (Rejected s) = Calm Q s
BegunCalm Q (Immediate s motion) = Calm Q s
BegunCalm Q (Started o) = Calm Q (state_of o)

pub begin_calm : (Q : Type 0) (code : ℕ) (s : State) → Calm Q s → BegunCalm Q (begin None code s)
begin_calm Q code s h = go (beginning code s.registers) (beginning_silent code s.registers)
  where
    at_zero : (r : Registers) (o : Option Opened) → NotTold s.registers r → BegunCalm Q (at_cylinder_zero s r o)
    at_zero r None k = calm_moved Q s _ h k
    at_zero r (Some o) k = calm_moved Q s _ h k

    go : (b : Beginning) → BeginsSilent s.registers b → BegunCalm Q (begun None s b)
    go (answer.Rejected r) k = calm_registers Q s r h k
    go (answer.Immediate r) k = calm_registers Q s r h k
    go (answer.Started r o) k = calm_registers Q s r h k
    go (answer.ToCylinderZero r o) k = at_zero r o k

abbrev pub LookCalm : Type 0 → AfterLook → Type 0
LookCalm Q (Ready o) = Calm Q (state_of o)
LookCalm Q (Passed o) = Calm Q (state_of o)
LookCalm Q (Failed s) = Calm Q s

pub look_calm : (Q : Type 0) (o : Open) → Calm Q (state_of o) → LookCalm Q (look None o)
look_calm Q o h = go (aim o.opened.command) _ (sight_silent o.state.volume.geometry (track_under o.state) o.opened o.state.registers)
  where
    at : (s : Sight) → SightSilent o.state.registers s → LookCalm Q (looked None o s)
    at (answer.Found opened) k = h
    at (answer.IndexPassed r) k = calm_registers Q o.state r h k
    at (answer.NextHead r) k = calm_moved Q o.state r h k
    at (answer.Missed r) k = calm_registers Q o.state r h k

    go : (a : Aim) (s : Sight) → SightSilent o.state.registers s → LookCalm Q (look_for None o a s)
    go _ s k = at s k

pub close_calm : (Q : Type 0) (o : Open) (b : List ℕ) → Calm Q (state_of o) → Calm Q (close None o b).state
close_calm Q o b h = go (closing_of o b) (closing_of o b).moves_off (closing_facts _ _ _ _ b).not_told
  where
    stays : (c : Closing) (t : Option Track) → NotTold o.state.registers c.registers
        → Calm Q (with_registers (with_written o.state t) c.registers)
    stays c None k = calm_registers Q o.state c.registers h k
    stays c (Some t) k = record { saved = refl; quiet = λ q. k (h.quiet q) }

    go : (c : Closing) (moves_off : Bool) → NotTold o.state.registers c.registers → Calm Q (closed None o.state c moves_off).state
    go c true k = calm_moved Q o.state c.registers h k
    go c false k = stays c c.written k

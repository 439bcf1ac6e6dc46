-- A command that starts, and what it leaves as it begins.
use Rattle.std.proofs.Common.{◌≡◌, ap, refl, ℕ, true, false, ◌&&◌, Option, Some, None, is_none, ◌∙◌, sym}
use Rattle.std.proofs.lemmas.Bool.{false_from_ne_true}
use Rattle.ckd_sense.specs.declared.commands.Command.{Command}
use Rattle.ckd_sense.specs.declared.commands.Command.TheVariants as command
use Rattle.ckd_sense.specs.declared.commands.CommandCode.{CommandCode}
use Rattle.ckd_sense.specs.declared.masks.Permit.{Permit}
use Rattle.ckd_sense.specs.declared.masks.Permit.TheVariants.{Yes}
use Rattle.ckd_sense.specs.declared.sense_bytes.Sense.{Sense}
use Rattle.ckd_sense.specs.Masks.{permit_of}
use Rattle.ckd_sense.specs.Commands.{decoded}
use Rattle.ckd_command.specs.declared.registers.Registers.{Registers}
use Rattle.ckd_command.specs.declared.registers.Credit.{Credit}
use Rattle.ckd_command.specs.declared.tables.Aim.{Aim}
use Rattle.ckd_command.specs.declared.tables.Aim.TheVariants.{Credited}
use Rattle.ckd_command.specs.declared.begin.Opened.{Opened}
use Rattle.ckd_command.specs.Tables.{aim, credited}
use Rattle.ckd_command.specs.Commands.{beginning, begin_decoded, begin_allowed, started, refusal, refusal_under, is_out_of_sequence}
use Rattle.ckd_command.specs.Commands.{is_credited}
use Rattle.ckd_slot.specs.Cache.{CacheState, after_save, after_failed_save}
use Rattle.ckd_drive.specs.Invariant.{CreditIs, CreditAtHand, BeginsWell, Stands, state_of, work_of, HalfDone, Parts, parts_of, own_track}
use Rattle.ckd_drive.specs.Invariant.{IsCleared}
use Rattle.ckd_command.specs.declared.registers.Mark.{Mark}
use Rattle.ckd_command.specs.declared.registers.Mark.TheVariants.{Lost}
use Rattle.ckd_drive.specs.declared.answers.DriveStage.{DriveStage}
use Rattle.ckd_drive.specs.declared.answers.DriveStage.TheVariants as stage
use Rattle.ckd_command.specs.Answers.{moved_to, Beginning, ToCylinderZero}
use Rattle.ckd_drive.specs.Work.{DriveState, is_idle, fault_met, after_begun, after_begin, answer_of_begin, begin_saves}
use Rattle.std.proofs.Math.Bool.{and-true}
use Rattle.ckd_command.specs.Drive.{AfterBegin, Rejected, Immediate, Started, begin, is_written_by}
use Rattle.ckd_drive.specs.Calls.{Comes, Begins, Leaves, Loses, begun_at}
use Rattle.ckd_drive.proofs.Calls.{changed_is, no_more, calls_of_failed_save, lost_registers, to_zero, save_lost, comes_saved}
use Rattle.ckd_drive.proofs.Standing.{at_zero, geometry_saved, idle_stage, no_credit, lost_stands}

none_credited : (c : Command) → credited c None ≡ None
none_credited command.WriteR0 = refl
none_credited c = refl

has_credit : (c : CacheState) (n : ℕ) (cmd : Command) (a : Aim) (credit : Option Credit) → CreditIs credit c n
    → (is_credited a && is_none (credited cmd credit)) ≡ false → CreditAtHand a c n
has_credit c n cmd Credited (Some k) is e = is
has_credit c n cmd Credited None is e = absurd (let none : is_none (credited cmd None) ≡ true = ap is_none (none_credited cmd) in cc)
has_credit c n cmd _ credit is e = tt

in_sequence : (c : CacheState) (n : ℕ) (cmd : Command) (r : Registers) → CreditIs r.credit c n → is_out_of_sequence cmd r ≡ false
    → CreditAtHand (aim cmd) c n
in_sequence c n command.SetFileMask r is e = tt
in_sequence c n cmd r is e = has_credit c n cmd (aim cmd) r.credit is e

refused_not : (p : Permit) (cmd : Command) (r : Registers) → refusal_under p cmd r ≡ None → is_out_of_sequence cmd r ≡ false
refused_not Yes cmd r e = false_from_ne_true (is_out_of_sequence cmd r) (λ out. (let refused = rw out at e in cc))
refused_not _ cmd r e = absurd cc

started_well : (c : CacheState) (n : ℕ) (r q : Registers) (cmd : Command) (o : Opened) → o.command ≡ cmd → IsCleared r q
    → CreditAtHand (aim cmd) c n → BeginsWell c n r (started cmd q o)
started_well c n r q command.NoOperation o is k at = k
started_well c n r q command.Recalibrate o is k at = k
started_well c n r q command.ReadIpl o is k at = (k, rw is (λ e. cc), rw is refl)
started_well c n r q _ o is k at = (k, rw is (λ e. cc), rw is at)

allowed_well : (c : CacheState) (n : ℕ) (r : Registers) (k : CommandCode) (why : Option Sense) → CreditIs r.credit c n
    → refusal k.command r ≡ why → BeginsWell c n r (begin_allowed k r why)
allowed_well c n r k (Some cause) is e = record { cylinder = refl; head = refl; credit = refl }
allowed_well c n r k None is e = started_well c n r _ k.command _ refl (record { cylinder = refl; head = refl; credit = refl })
    (in_sequence c n k.command r is (refused_not (permit_of r.file_mask k.command) k.command r e))

decoded_well : (c : CacheState) (n : ℕ) (r : Registers) (k : Option CommandCode) → CreditIs r.credit c n
    → BeginsWell c n r (begin_decoded k r)
decoded_well c n r None is = record { cylinder = refl; head = refl; credit = refl }
decoded_well c n r (Some k) is = allowed_well c n r k (refusal k.command r) is refl

-- what a command code leads to, where nothing was begun
pub well_begun : (d : Parts) (now : DriveState) (code : ℕ) → Stands d → state_of d ≡ now → is_idle now.work ≡ true
    → (d.stage ≡ stage.Idle) × BeginsWell d.job.cache (own_track d.job) d.job.registers (beginning code d.job.registers)
unfolding beginning
well_begun d now code x is idle =
    let at_rest : d.stage ≡ stage.Idle = idle_stage d.stage d.job (ap (λ (y : DriveState). is_idle y.work) is ∙ idle) in
    (at_rest, decoded_well d.job.cache (own_track d.job) d.job.registers (decoded code) (rw at_rest at x.work))

-- An idle drive begins a command that goes to cylinder 0.
module _ (old : HalfDone) (was : Mark) (x : Stands (parts_of old was stage.Idle)) (b : Beginning)
    (well : BeginsWell old.cache (own_track old) old.registers b) where
  abbrev idle : Parts
  idle = parts_of old was stage.Idle

  -- The arm can't go there, since the track can't be saved.
  pub lost_begins : (new : HalfDone) (now : Mark) (q : Registers) (o : Option Opened) → b ≡ ToCylinderZero q o
      → Loses (record old { registers = q }) new now → Begins idle (parts_of new now stage.Idle) b
  lost_begins new now q o is l =
      let k = to_zero old.cache (own_track old) old.registers q o (rw is at well) in
      let after : HalfDone = record old { cache = after_failed_save old.cache l.left; registers = lost_registers q } in
      let drive = state_of (parts_of after Lost stage.Idle) in
      let s = save_lost idle (record old { registers = q }) new now drive x refl refl l refl in
      rw (is, l.job, l.mark_is) (record {
        stands = lost_stands idle l.left after stage.Idle x l.size refl refl k.cylinder k.head tt;
        state = rw (s.fault, s.written, s.held, k.cylinder, k.head, s.whole) refl;
        calls = calls_of_failed_save _ _ old.cache l.left (state_of idle) drive refl refl (changed_is idle x refl
            ∙ sym (and-true (is_written_by was))) l.changed;
        at_hand = λ e. absurd (no_more old.cache.image.loads e);
      })

  -- It goes there, and the command works.
  pub zero_begins : (new : HalfDone) (now : Mark) (q : Registers) (o : Opened) → b ≡ ToCylinderZero q (Some o)
      → Leaves old new now (moved_to q 0 0) → Begins idle (parts_of (record new { opened = o }) now stage.Looking) b
  zero_begins new now q o is l =
      let w = rw is at well in
      rw (is, l.0, l.1)
      (comes_saved _ _ idle (record old { cache = after_save old.cache; registers = moved_to q 0 0; opened = o }) stage.Looking _ x refl
      (and-true (is_written_by was)) (record {
        saved = refl;
        unfilled = refl;
        at = at_zero old.cache q x.volume;
        stage = record { transfers = w.1; credit = rw w.2 tt; no_credit = w.0.credit };
      }) (rw (geometry_saved old.cache) refl))

  -- It goes there, and the command is over.
  pub zero_ends : (new : HalfDone) (now : Mark) (q : Registers) → b ≡ ToCylinderZero q None → Leaves old new now (moved_to q 0 0)
      → Begins idle (parts_of new now stage.InMotion) b
  zero_ends new now q is l =
      let after : HalfDone = record old { cache = after_save old.cache; registers = moved_to q 0 0 } in
      rw (is, l.0, l.1)
      (comes_saved _ _ idle after stage.InMotion _ x refl (and-true (is_written_by was)) (record {
        saved = refl;
        unfilled = refl;
        at = at_zero old.cache q x.volume;
        stage = no_credit after.cache after.registers (own_track after) (rw is at well).credit;
      }) (rw (geometry_saved old.cache) refl))

-- The drive that was called.

-- the answer goes by the stage
begun_work : (x : AfterBegin) (d : DriveState) (s : DriveStage) (h : HalfDone) → is_idle d.work ≡ true
    → work_of s h ≡ (after_begun x d).work
    → begun_at s ≡ answer_of_begin x
begun_work (Rejected t) d s h idle e = rw (idle_stage s h (ap is_idle e ∙ idle)) refl
begun_work (Immediate t motion) d stage.Ended h idle e = refl
begun_work (Immediate t motion) d _ h idle e = cc
begun_work (Started o) d stage.Looking h idle e = refl
begun_work (Started o) d _ h idle e = cc

-- what one call makes of the drive that begins a command
pub record HasBegun (d : Parts) (now : DriveState) (code : ℕ) : Type 0 where
  pub comes : Comes false (begin_saves code now) now (λ f. after_begin f code now) d
  pub answer : begun_at d.stage ≡ answer_of_begin (begin (fault_met now (state_of d)) code now.state)

-- whatever is left in the fields that an idle drive does not use
pub has_begun : (old new : Parts) (now : DriveState) (code : ℕ) → state_of old ≡ now → is_idle now.work ≡ true
    → Begins (parts_of old.job old.mark stage.Idle) new (beginning code old.job.registers) → HasBegun new now code
has_begun old new now code now_is idle l =
    let d = state_of (parts_of old.job old.mark stage.Idle) in
    let at_rest : old.stage ≡ stage.Idle = idle_stage old.stage old.job (ap (λ (y : DriveState). is_idle y.work) now_is ∙ idle) in
    let now_at : now ≡ d = sym now_is ∙ rw at_rest refl in
    rw now_at (record {
      comes = l;
      answer = begun_work (begin (fault_met d (state_of new)) code d.state) d new.stage new.job refl
          (ap (λ (y : DriveState). y.work) l.state);
    })

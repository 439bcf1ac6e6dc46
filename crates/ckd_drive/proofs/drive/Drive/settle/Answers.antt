use Rattle.std.proofs.Common.{◌≡◌, ◌∙◌, ap, refl, ◌<◌, [], false, length, arith, rules}
use Rattle.ckd_command.specs.declared.registers.Mark.{Mark}
use Rattle.ckd_command.specs.declared.registers.Mark.TheVariants.{Lost}
use Rattle.ckd_drive.specs.declared.transfer.Transfer.{Transfer}
use Rattle.ckd_drive.specs.declared.transfer.Transfer.TheVariants.{Filled}
use Rattle.ckd_drive.specs.declared.answers.DriveStage.{DriveStage}
use Rattle.ckd_drive.specs.declared.answers.DriveStage.TheVariants.{Idle, Passing}
use Rattle.ckd_slot.specs.Cache.{after_save, after_failed_save}
use Rattle.ckd_drive.specs.Work.{DriveState, passed_of, fault_met, with_image, after_settle, settled_mark, CallsStore}
use Rattle.ckd_drive.specs.Invariant.{Stands, StageIs, IsPlaced, state_of, work_of, seen, is_filled, is_filled_by, seen_with, HalfDone}
use Rattle.ckd_drive.specs.Invariant.{Parts, parts_of, at_work}
use Rattle.ckd_drive.specs.Calls.{Loses}
use Rattle.ckd_drive.specs.Jobs.{half_done}
use Rattle.ckd_drive.proofs.Calls.{fault_none, lost_registers, save_lost, changed_is, calls_of_save, calls_of_failed_save}
use Rattle.ckd_drive.proofs.Standing.{failures_saved, geometry_saved, parts_in}
use Rattle.ckd_command.specs.Drive.{is_written}
use Rattle.ckd_drive.proofs.Reported.{settle_reports}
use Rattle.ckd_drive.proofs.drive.Drive.settle.Goals as goal

-- where no byte has passed the track is not being written, and is seen as it is
unwritten_by : (p : Transfer) (h : HalfDone) → IsPlaced (at_work h) p → h.passed ≡ [] → (is_filled_by p ≡ false)
    × (seen_with h h.before p ≡ h.cache.slots)
unwritten_by (Filled w u) h x e = absurd (let some : 0 < length h.passed = x.some in let none : length h.passed ≡ 0 = ap length e in
    omega (arith, some, none))
unwritten_by _ h x e = (refl, refl)

unwritten : (s : DriveStage) (h : HalfDone) → StageIs s h → passed_of (work_of s h) ≡ []
    → (is_filled s h ≡ false) × (seen s h ≡ h.cache.slots)
unwritten Passing h x e = unwritten_by h.progress.place h x.placed e
unwritten _ h x e = (refl, refl)

-- a drive that settled
record Settled (now : DriveState) (after : Parts) : Type 0 where
  pub state : state_of after ≡ with_image (after_settle (fault_met now (state_of after)) now) after.job.cache.image
  pub calls : CallsStore false (is_written now.state) now (state_of after)

settled : (d : Parts) (came : HalfDone) (now : DriveState) → Stands d → state_of d ≡ now → passed_of now.work ≡ []
    → came ≡ record d.job { cache = after_save d.job.cache }
    → Settled now (parts_of came (settled_mark d.mark) Idle)
settled d came now x is e save =
    let plain = unwritten d.stage d.job x.work (ap (λ (y : DriveState). passed_of y.work) is ∙ e) in
    let after = state_of (parts_of (record d.job { cache = after_save d.job.cache }) (settled_mark d.mark) Idle) in
    rw (save, ← is) (record {
      state = rw (fault_none (state_of d) after (failures_saved d.job.cache), plain.1, geometry_saved d.job.cache) refl;
      calls = calls_of_save _ _ d.job.cache (state_of d) after refl refl (changed_is d x plain.0);
    })

unsettled : (d : Parts) (came : HalfDone) (m : Mark) (now : DriveState) → Stands d → state_of d ≡ now → passed_of now.work ≡ []
    → Loses d.job came m → Settled now (parts_of came m Idle)
unsettled d came m now x is e l =
    let plain = unwritten d.stage d.job x.work (ap (λ (y : DriveState). passed_of y.work) is ∙ e) in
    let after = state_of (parts_of
    (record d.job { cache = after_failed_save d.job.cache l.left; registers = lost_registers d.job.registers }) Lost Idle) in
    let s = save_lost d d.job came m after x plain.0 refl l refl in
    rw (← is, l.job, l.mark_is) (record {
      state = rw (s.fault, plain.1, s.written, s.held, s.whole) refl;
      calls = calls_of_failed_save _ _ d.job.cache l.left (state_of d) after refl refl (changed_is d x plain.0) l.changed;
    })

pub returns : goal.returns
returns g c =
    let k = c.in_ok-save.ensures in
    let s = settled (parts_in c.self.inside) (half_done c.save.new.self) c.args.self.now c.self.invariant c.self.view_is c.requires
    (ap half_done k.saves) in
    rw (c.settled_mark-self-inside.ensures, k.stays)
    record {
      state = s.state;
      saved = rw k.saves (search rules);
      counted = rw k.saves (search rules);
      calls = s.calls;
      reported = settle_reports c.args.self.now _ s.state s.calls;
    }

pub returns-in_err-save : goal.returns-in_err-save
returns-in_err-save g c =
    let s = unsettled (parts_in c.self.inside) (half_done c.save.new.self) c.save.new.mark c.args.self.now c.self.invariant c.self.view_is
    c.requires c.in_err-save.ensures.loses in
    record { state = s.state; saved = search rules; counted = search rules; calls = s.calls; reported = settle_reports _ _ s.state s.calls }

use Rattle.std.proofs.Common.{◌∙◌, ap, refl, sym, subst, arith, rules}
use Rattle.ckd_drive.specs.Work.{closed_of}
use Rattle.s360_laws.specs.Endings.{ending}
use Rattle.s360_laws.specs.Units.{EndsIn}
use Rattle.s360_program.specs.Stands.{phase_in}
use Rattle.s360_program.specs.Steps.{run_of, in_bytes, segment_of, behind, count_of, IsQuiet, status_of}
use Rattle.s360_program.proofs.Quiet.{first_quiet}
use Rattle.s360_program.proofs.Transferring.{found, flows, moves_some, walked, moves_all, found_ends, all_told, all_moved, quiet_behind}
use Rattle.s360_program.proofs.Transferring.{checks, unit_steps, counts_one, refused_stays}
use Rattle.s360_program.proofs.run.Run.complete.Goals as goal

pub returns-in-Ok-2-clause-steps : goal.returns-in-Ok-2-clause-steps
returns-in-Ok-2-clause-steps g c = λ most few.
    let holds = g.M.MainStorage.holds in
    let a = c.args in
    let q = c.requires in
    let b = c.move_bytes in
    rw (c.from.ensures, c.from-in-Ok-2.ensures) (moves_some a.self.now a.drive.now q.fits q.some q.left c.in-Ok.m (holds a.storage.now)
    (holds b.new.storage) b.new.drive c.in-Ok.ensures.moves most c.in-Ok.m
    (omega (arith, few)) refl)

pub conclude-requires-clause-may : goal.conclude-requires-clause-may
conclude-requires-clause-may g c =
    let holds = g.M.MainStorage.holds in
    let a = c.args in
    let q = c.requires in
    let b = c.move_bytes in
    found_ends b.new.drive.state b.new.drive.work (walked a.self.now a.drive.now q.fits q.some q.left c.in-Ok.m (holds a.storage.now)
    (holds b.new.storage) b.new.drive c.in-Ok.ensures.moves).fits.stands.fits

pub conclude-requires-clause-saved : goal.conclude-requires-clause-saved
conclude-requires-clause-saved g c =
    let holds = g.M.MainStorage.holds in
    let a = c.args in
    let q = c.requires in
    let b = c.move_bytes in
    (walked a.self.now a.drive.now q.fits q.some q.left c.in-Ok.m (holds a.storage.now) (holds b.new.storage) b.new.drive
    c.in-Ok.ensures.moves).fits.stands.saved

pub returns-in-Ok : goal.returns-in-Ok
returns-in-Ok g c =
    let holds = g.M.MainStorage.holds in
    let a = c.args in
    let q = c.requires in
    let b = c.move_bytes in
    let e = c.conclude in
    let w = rw c.gives-gives.ensures at (all_told c.in-Ok.m a.self.now.place.residual c.gives-gives.result (sym c.is_all.ensures
    ∙ c.if-is_all.true)) in
    let n = all_moved a.self.now a.drive.now q.fits q.some q.left c.in-Ok.m (holds a.storage.now) (holds b.new.storage) b.new.drive
    c.in-Ok.ensures.moves q.first w.0 w.1 in
    let is = c.behind.ensures ∙ sym (ap (λ n. behind n e.result) n) in
    record {
      steps = λ most few. rw is
          (moves_all a.self.now a.drive.now q.fits q.some q.left c.in-Ok.m (holds a.storage.now) (holds b.new.storage) b.new.drive
          c.in-Ok.ensures.moves q.first w.0 w.1 most e.new.self e.result e.new.drive few q.unchained e.ensures.loads
          (e.ensures.comes (holds b.new.storage)));
      storage = search rules;
      place = b.ensures.place;
      loads = search rules;
      calls = search rules;
      quiet = λ h.
          let k = quiet_behind a.self.now a.drive.now q.fits q.some q.left c.in-Ok.m (holds a.storage.now) (holds b.new.storage) b.new.drive
          c.in-Ok.ensures.moves q.first w.0 w.1 e.result (rw is at h) in
          e.ensures.unwritten k.unwritten k.closes ∙ b.ensures.image;
    }

pub returns-in-Err-clause-steps : goal.returns-in-Err-clause-steps
returns-in-Err-clause-steps g c = λ most few.
    let holds = g.M.MainStorage.holds in
    let a = c.args in
    let q = c.requires in
    let b = c.move_bytes in
    let e = c.stop in
    unit_steps a.self.now.key (phase_in (run_of (in_bytes a.self.now)) (holds a.storage.now) a.drive.now) most e.new.self
    (holds b.new.storage) e.result a.drive.now e.new.drive (omega (arith, few))
    (checks (in_bytes a.self.now) e.new.self (holds a.storage.now) e.result a.drive.now a.drive.now e.new.drive
    (found a.self.now a.drive.now q.fits q.some q.left) refl (flows a.self.now a.drive.now q.fits q.some q.left)
    c.in-Err.condition a.self.now.place.residual (holds b.new.storage) b.new.drive q.some (omega (arith, q.left, q.some))
    c.in-Err.ensures.moves e.ensures.loads (e.ensures.comes (holds b.new.storage)))

pub returns-in-Err-clause-quiet : goal.returns-in-Err-clause-quiet
returns-in-Err-clause-quiet g c = λ h.
    let holds = g.M.MainStorage.holds in
    let a = c.args in
    let q = c.requires in
    let b = c.move_bytes in
    let e = c.stop in
    let k = first_quiet (run_of (in_bytes a.self.now)) (holds a.storage.now) a.drive.now (count_of e.result) a.self.now.key q.fits.stands
    (counts_one a.self.now.key (λ f. EndsIn (holds b.new.storage) (ending f a.self.now.key (run_of a.self.now).place
    (closed_of f b.new.drive b.new.drive.work) (status_of c.in-Err.condition))) e.result e.new.self (holds b.new.storage) b.new.drive
    e.new.drive (e.ensures.comes (holds b.new.storage))) h in
    e.ensures.quiet (subst IsQuiet (sym (refused_stays (segment_of (in_bytes a.self.now) a.self.now.place.residual) c.in-Err.condition
    (holds a.storage.now) (holds b.new.storage) a.drive.now b.new.drive a.drive.now.work c.in-Err.ensures.moves)) k) ∙ b.ensures.image

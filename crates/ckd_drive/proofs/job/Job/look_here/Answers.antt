use Rattle.std.proofs.Common.{◌≡◌, ◌∙◌, sym}
use Rattle.ckd_command.specs.declared.tables.Aim.TheVariants.{NoArea, Credited}
use Rattle.ckd_command.specs.Tables.{aim}
use Rattle.ckd_drive.specs.Invariant.{own_track, own_slot}
use Rattle.ckd_drive.specs.Jobs.{half_done}
use Rattle.ckd_command.proofs.Sights.{sight_without, sight_credited}
use Rattle.ckd_drive.proofs.Looks.{credit_hand, found_looks}
use Rattle.ckd_drive.proofs.job.Job.look_here.Goals as goal
use Rattle.ckd_drive.proofs.Standing.{slot_is}

pub returns-in-NoArea : goal.returns-in-NoArea
returns-in-NoArea g c =
    let old = half_done c.args.self.now in
    let x = c.place_without_area in
    let none : aim old.opened.command ≡ NoArea = rw c.requires.command at (sym c.aim_of.ensures ∙ c.in-NoArea.is) in
    found_looks old c.args.mark.now c.requires.stands old.opened x.new.progress x.result (x.ensures.first (own_slot old))
    (λ aimed. absurd (aimed none))
    (sight_without _ _ old.opened old.registers none) (sight_without _ _ old.opened old.registers none) x.ensures.ready x.ensures.passing

pub returns-in-Credited : goal.returns-in-Credited
returns-in-Credited g c =
    let old = half_done c.args.self.now in
    let x = c.place_on in
    let aimed : aim old.opened.command ≡ Credited = rw c.requires.command at (sym c.aim_of.ensures ∙ c.in-Credited.is) in
    let credit = c.requires.stands.work.credit in
    let slot = slot_is old.cache (own_track old) c.buffer.result.now ((rw aimed at credit).held) c.buffer.ensures.slot in
    found_looks old c.args.mark.now c.requires.stands old.opened x.new.progress x.result (rw slot at (x.ensures.first old.registers))
    (credit_hand old.cache (own_track old) old.opened aimed credit)
    (sight_credited _ _ old.opened old.registers aimed) (sight_credited _ _ old.opened old.registers aimed) x.ensures.ready
    x.ensures.passing

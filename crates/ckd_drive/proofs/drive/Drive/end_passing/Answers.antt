use Rattle.std.proofs.Common.{◌≡◌, refl}
use Rattle.ckd_command.specs.declared.close.Closed.TheVariants.{Stays, Moves}
use Rattle.ckd_command.specs.Answers.{CommandEnd, closed_as}
use Rattle.ckd_drive.specs.declared.answers.DriveStage.TheVariants.{Idle}
use Rattle.ckd_drive.specs.Calls.{Leaves, Loses}
use Rattle.ckd_drive.specs.Invariant.{Parts, parts_of}
use Rattle.ckd_drive.specs.Passing.{with_place, command_end_at}
use Rattle.ckd_drive.specs.declared.job.Job.{Job}
use Rattle.ckd_drive.proofs.Moving.{finished}
use Rattle.ckd_drive.specs.Jobs.{half_done}
use Rattle.ckd_drive.proofs.Ends.{Closes, Ended, stays_ends, leaves_ends, lost_ends}
use Rattle.ckd_drive.proofs.Standing.{parts_in}
use Rattle.ckd_drive.proofs.drive.Drive.end_passing.Given.{Over}
use Rattle.ckd_drive.proofs.drive.Drive.end_passing.Goals as goal
use Rattle.ckd_drive.proofs.drive.Drive.end_passing.Goals.{After-close-closed, in-Ok, in-Err}

-- the drive once a record that was due is made
abbrev made_of : {S : Type 0} → Parts → Job S → Parts
made_of d new = parts_of (with_place d.job new.cache new.before.bytes new.progress.place) d.mark d.stage

-- its command closes so
closes : (g : Over) (c : After-close-closed g) (u : CommandEnd)
    → u ≡ command_end_at c.close-closed.new.self.cache.image.geometry c.self.inside.job.registers c.self.inside.job.opened
    c.self.inside.job.progress.moved c.close-closed.new.self.progress.place
    → Closes (made_of (parts_in c.self.inside) c.close-closed.new.self) c.args.self.now u
closes g c u out =
    let k = c.close-closed in
    let f = finished (parts_in c.self.inside) c.args.self.now k.new.self.cache k.new.self.before.bytes k.new.self.progress.place
    c.self.invariant c.self.view_is c.requires.passing k.ensures.finishes in
    record { drive = record { stands = f.stands; passes = f.passes; state = f.state; made = f.made }; out = out }

-- the arm stays
stayed : (g : Over) (c : goal.After-self-in-Stays-1 g)
    → Ended c.args.self.now (parts_of (half_done c.close-closed.new.self) c.mark_left-self-inside.result Idle)
    (closed_as (Stays c.in-Stays.unit) c.close-closed.new.self.registers).ending
stayed g c =
    rw (c.mark_left-self-inside.ensures, c.close-closed.ensures.stays)
    (stays_ends (closes g (goal.at.invariant_of-self g c).After-close-closed
    (closed_as (Stays c.in-Stays.unit) c.close-closed.new.self.registers) c.in-Stays.ensures.closes) refl)

pub invariant_of-self : goal.invariant_of-self
invariant_of-self g c = (stayed g c).stands

pub returns-in-Stays : goal.returns-in-Stays
returns-in-Stays g c = (stayed g c).ends

-- it moves, and the track that it leaves is saved, or can't be
moved : (g : Over) (c : goal.Joined-leave g) → Ended c.args.self.now (parts_of (half_done c.leave.new.self) c.leave.new.mark Idle)
    c.match-leave.result
moved g c =
    let k = c.close-closed in
    let new = half_done c.leave.new.self in
    let u = closed_as (Moves c.in-Moves.cylinder c.in-Moves.head c.in-Moves.ending) k.new.self.registers in
    let made = made_of (parts_in c.self.inside) k.new.self in
    let e = closes g (goal.at.returns-after-leave g c).After-close-closed u c.in-Moves.ensures.closes in
    elim c.match-leave.branch [
      | in-Ok w ↦ (let l : Leaves made.job new c.leave.new.mark u.registers = rw k.ensures.stays at w.in-Ok.ensures.leaves in
          rw w.result-is (leaves_ends e new c.leave.new.mark refl l))
      | in-Err w ↦
          (let l : Loses made.job new c.leave.new.mark = rw (k.ensures.stays, c.in-Moves.ensures.registers) at w.in-Err.ensures.loses in
          rw w.result-is (lost_ends e new c.leave.new.mark refl l))
    ]

pub invariant_of-self-in-Moves : goal.invariant_of-self-in-Moves
invariant_of-self-in-Moves g c = (moved g c).stands

pub returns-after-leave : goal.returns-after-leave
returns-after-leave g c = (moved g c).ends

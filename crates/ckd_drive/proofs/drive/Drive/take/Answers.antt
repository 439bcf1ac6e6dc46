use Rattle.ckd_drive.proofs.Standing.{parts_in}
use Rattle.ckd_drive.proofs.drive.Drive.take.Goals as goal
use Rattle.ckd_drive.proofs.Moving.{taken_stands, taken_state}

pub invariant_of-self : goal.invariant_of-self
invariant_of-self g c =
    let t = c.absorb.ensures in
    rw (c.in-Passing.is, c.and-self-inside.ensures, t.stays) (taken_stands {d = parts_in c.self.inside} c.self.invariant c.in-Passing.is
    t.absorbs)

pub returns : goal.returns
returns g c =
    let t = c.absorb.ensures in
    rw (c.in-Passing.is, c.and-self-inside.ensures, t.stays) (taken_state {d = parts_in c.self.inside} c.args.self.now c.in-Passing.is
    c.self.view_is t.absorbs)

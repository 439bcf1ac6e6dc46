use Rattle.ckd_drive.proofs.Moving.{has_passed}
use Rattle.ckd_drive.proofs.Standing.{parts_in}
use Rattle.ckd_drive.proofs.drive.Drive.pass.Goals as goal

pub invariant_of-self : goal.invariant_of-self
invariant_of-self g c =
    let b = c.next_bytes in
    let x = has_passed (parts_in c.self.inside) b.result.now c.args.self.now c.args.n c.self.invariant c.in-Passing.is c.self.view_is
    c.requires.gives c.requires.room b.ensures.size b.ensures.bytes in
    rw (c.in-Passing.is, c.and-passed.ensures, c.give_on.ensures) (rw x.long at x.stands)

pub returns : goal.returns
returns g c =
    let b = c.next_bytes in
    let x = has_passed (parts_in c.self.inside) b.result.now c.args.self.now c.args.n c.self.invariant c.in-Passing.is c.self.view_is
    c.requires.gives c.requires.room b.ensures.size b.ensures.bytes in
    rw (c.in-Passing.is, c.and-passed.ensures, c.give_on.ensures) (rw x.long at x.state)

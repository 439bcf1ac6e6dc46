-- Where the records so far take more than the capacity, so do more of them.
use Rattle.std.proofs.Common.{◌∙◌, sym}
use Rattle.ckd_track.proofs.ChargeLaws.{none_left}
use Rattle.ckd_track.proofs.charges.capacity_behind.Goals as goal

pub returns-in_err-rest-2 : goal.returns-in_err-rest-2
returns-in_err-rest-2 c =
    let over = rw c.kept_charge.ensures at c.in_err-rest-2.ensures in
    c.from_residual-in_err-rest-2.ensures
    ∙ sym (none_left c.args.model c.args.view.now.records c.loop-i.i c.args.to c.loop-i.rest c.loop-i.invariant c.loop-i-test.true
    c.requires.there over)

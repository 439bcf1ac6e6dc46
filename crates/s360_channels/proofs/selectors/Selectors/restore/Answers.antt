use Rattle.std.proofs.Common.{sym}
use Rattle.s360_channels.proofs.BackFits.{all_fit_back}
use Rattle.s360_channels.proofs.StandBack.{all_stand}
use Rattle.s360_channels.proofs.selectors.Selectors.restore.Goals as goal

pub invariant_of-self : goal.invariant_of-self
invariant_of-self g c =
    all_fit_back c.self.inside.size c.self.inside.quiet c.args.saved.now c.self.inside.list c.put_back.new.list c.self.invariant
    (sym c.in-None.ensures) c.put_back.ensures

pub returns-clause-stand : goal.returns-clause-stand
returns-clause-stand g c =
    rw (← c.self.view_is)
    (all_stand c.args.saved.now c.self.inside.list c.put_back.new.list (sym c.in-None.ensures) c.put_back.ensures)

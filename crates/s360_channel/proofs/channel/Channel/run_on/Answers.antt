use Rattle.std.proofs.Common.{◌∙◌, sym}
use Rattle.s360_channel.proofs.channel.Channel.run_on.Goals as goal

pub invariant_of-self : goal.invariant_of-self
invariant_of-self g c = let e = c.run_on.ensures in e.keeps.size ∙ (c.self.invariant ∙ sym e.same.size)

pub returns : goal.returns
returns g c = let e = c.run_on.ensures in
    rw (← c.self.view_is) (record { does = e.does; behind = e.behind; most = e.most; calls = e.calls })

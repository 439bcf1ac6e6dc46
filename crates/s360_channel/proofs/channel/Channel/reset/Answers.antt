use Rattle.std.proofs.Common.{◌∙◌, sym}
use Rattle.s360_channel.proofs.channel.Channel.reset.Goals as goal

pub invariant_of-self : goal.invariant_of-self
invariant_of-self g c = c.self.invariant ∙ sym c.reset.ensures.same.size

pub returns : goal.returns
returns g c = let s = c.self.inside.storage in
    rw (← c.self.view_is) (record { does = c.reset.ensures.does s; calls = c.reset.ensures.calls s })

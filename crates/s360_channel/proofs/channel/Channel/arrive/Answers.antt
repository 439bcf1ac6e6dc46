use Rattle.std.proofs.Common.{◌∙◌, sym}
use Rattle.s360_channel.proofs.channel.Channel.arrive.Goals as goal

pub invariant_of-self : goal.invariant_of-self
invariant_of-self g c = c.self.invariant ∙ sym c.arrive.ensures.same.size

pub returns : goal.returns
returns g c = let s = c.self.inside.storage in
    rw (← c.self.view_is) (record { does = c.arrive.ensures.does s; calls = c.arrive.ensures.calls s })

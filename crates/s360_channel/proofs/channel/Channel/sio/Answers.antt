use Rattle.std.proofs.Common.{◌∙◌, sym}
use Rattle.s360_channel.proofs.channel.Channel.sio.Goals as goal

pub invariant_of-self : goal.invariant_of-self
invariant_of-self g c = let e = c.sio.ensures in e.keeps.size ∙ (c.self.invariant ∙ sym e.same.size)

pub returns : goal.returns
returns g c = rw (← c.self.view_is) (record { does = c.sio.ensures.does; calls = c.sio.ensures.calls })

use Rattle.s360_channel.proofs.Shown.{view_from}
use Rattle.s360_channel.proofs.selector.Selector.state.Goals as goal

pub returns : goal.returns
returns g c s m h = view_from _ m (rw (← c.self.view_is) at h) c.subchannel_shown.result c.shown.result (c.subchannel_shown.ensures s m h)
    c.shown.ensures

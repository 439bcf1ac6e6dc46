use Rattle.s360_channel.proofs.selector.Selector.run_on.Goals as goal

pub returns-clause-behind : goal.returns-clause-behind
returns-clause-behind g c =
    let holds = g.M.MainStorage.holds in
    c.subchannel_shown.ensures (holds c.advance-units.new.storage)

use Rattle.s360_channel.proofs.channel.Channel.drive_at_work.Goals as goal

pub returns : goal.returns
returns g c = let e = c.drive_at_work.ensures in
    rw (← c.self.view_is) (record { shows = e c.self.inside.storage; over_any_storage = e })

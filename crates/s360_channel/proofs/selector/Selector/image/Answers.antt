use Rattle.std.proofs.Common.{refl, sym, None}
use Rattle.s360_channel.proofs.Shown.{lends_volume, shows_volume}
use Rattle.s360_channel.proofs.selector.Selector.image.Goals as goal

pub returns-in_default-clause-shows : goal.returns-in_default-clause-shows
returns-in_default-clause-shows g c s m h =
    shows_volume _ m c.args.device None (rw (← c.self.view_is) at h) (λ off. rw (← c.place_of.ensures, c.in_default.is) refl)

pub returns-clause-shows : goal.returns-clause-shows
returns-clause-shows g c s m h =
    lends_volume _ m c.args.device c.in-Some.place c.drive.result.now c.image.result.now (rw (← c.self.view_is) at h)
    (sym c.in-Some.ensures) c.drive.ensures c.image.ensures.image c.image.ensures.geometry c.image.ensures.volume

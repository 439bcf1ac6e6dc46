use Rattle.std.proofs.Common.{refl, ◌∙◌, None}
use Rattle.s360_channel.proofs.Shown.{shows_drive}
use Rattle.s360_channel.proofs.selector.Selector.drive.Goals as goal

pub returns-in_default-clause-shows : goal.returns-in_default-clause-shows
returns-in_default-clause-shows g c s m h =
    let st = rw (← c.self.view_is) at h in
    shows_drive _ m c.args.device None (rw (← c.place_of.ensures, c.in_default.is) refl) st

pub returns-clause-shows : goal.returns-clause-shows
returns-clause-shows g c s m h =
    let st = rw (← c.self.view_is) at h in
    shows_drive _ m c.args.device _ (c.seen.ensures ∙ rw (← c.in-Some.ensures) refl) st

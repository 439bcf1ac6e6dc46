use Rattle.s360_channel.specs.Nexts.{of_parts}
use Rattle.s360_channel.proofs.Shown.{sees_drive}
use Rattle.s360_channel.proofs.selector.Selector.drive_at_work.Goals as goal

pub returns-in-Working : goal.returns-in-Working
returns-in-Working g c =
    let i = c.self.inside in
    rw (← c.self.view_is) (λ s m h.
    sees_drive (of_parts i.number s i.subchannel i.drives) m c.in-Working.place c.in-Working.field-1 c.drive.result.now h c.in-Working.is
    c.drive.ensures)

use Rattle.s360_channel.proofs.Shown.{sees_program}
use Rattle.s360_channel.proofs.selector.Selector.program.Goals as goal

pub returns-in-Working : goal.returns-in-Working
returns-in-Working g c = rw (← c.self.view_is) (λ s m h. sees_program _ m c.in-Working.place c.in-Working.running c.device.result
    c.view.result h c.in-Working.is c.device.ensures c.view.ensures)

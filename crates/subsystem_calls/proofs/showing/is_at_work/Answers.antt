use Rattle.std.proofs.Common.{◌/◌, ◌%◌, sym, subst, Bool, Some, None}
use Rattle.s360_channels.specs.Channels.{channel_at}
use Rattle.s360_channels.specs.Selectors.{across}
use Rattle.subsystem_calls.specs.Shown.{WorksAt}
use Rattle.subsystem_calls.proofs.Shown.{works_at}
use Rattle.subsystem_calls.proofs.showing.is_at_work.Goals as goal

-- the drive of the program that runs is the one of the address
pub returns-in-Some : goal.returns-in-Some
returns-in-Some c = λ s.
    let o = channel_at (c.args.address / 256) (across c.args.channels.now s) in
    subst (λ (b : Bool). WorksAt b s (c.args.address % 256) o) (sym c.is_working.ensures)
    (works_at s (c.args.address % 256) o (Some c.in-Some.view) (c.in-Some.ensures s))

-- no program runs on a channel that is not there
pub returns-in-None : goal.returns-in-None
returns-in-None c = λ s.
    works_at s (c.args.address % 256) (channel_at (c.args.address / 256) (across c.args.channels.now s)) None (c.in-None.ensures s)

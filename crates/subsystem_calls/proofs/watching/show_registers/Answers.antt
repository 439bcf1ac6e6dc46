use Rattle.std.proofs.Common.{◌∙◌, ap, length}
use Rattle.s360_channels.specs.Channels.{channel_at}
use Rattle.s360_channels.specs.Selectors.{across}
use Rattle.dasd_subsystem.specs.Watched.{registers_shown}
use Rattle.subsystem_calls.specs.Sized.{fitted, registers_bytes}
use Rattle.subsystem_calls.proofs.AtWork.{registers_of}
use Rattle.subsystem_calls.proofs.watching.show_registers.Goals as goal

pub returns-in-Some : goal.returns-in-Some
returns-in-Some c = λ s.
    registers_of (channel_at c.args.number (across c.args.channels.now s)) s c.in-Some.drive.now c.args.shown.now c.tell_registers.new.told
    (c.in-Some.ensures s) (c.tell_registers.ensures ∙ ap (λ r. fitted (length c.args.shown.now) (registers_bytes r))
    (c.of.ensures ∙ ap registers_shown c.registers.ensures))

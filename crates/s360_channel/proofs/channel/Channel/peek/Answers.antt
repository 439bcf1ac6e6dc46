use Rattle.std.proofs.Common.{◌≡◌, sym, ap, subst, ◌∙◌}
use Rattle.s360_laws.specs.Events.{Shown, Show}
use Rattle.s360_laws.specs.Machine.{part_of}
use Rattle.s360_channel.specs.Calls.{DoesQuietly}
use Rattle.s360_channel.specs.Channel.{ChannelState}
use Rattle.s360_channel.proofs.Kept.{shows_part}
use Rattle.s360_channel.proofs.channel.Channel.peek.Goals as goal

pub returns-clause-does : goal.returns-clause-does
returns-clause-does g c m h =
    subst (λ shown. DoesQuietly (Show c.args.at c.args.len) m (Shown shown) c.args.self.now) (there ∙ sym c.slice.ensures.bytes)
    (shows_part c.args.at c.args.len c.args.self.now m h)
  where
    there : part_of c.args.self.now.storage c.args.at c.args.len ≡ part_of c.self.inside.storage c.args.at c.args.len
    there = ap (λ (x : ChannelState). part_of x.storage c.args.at c.args.len) (sym c.self.view_is)

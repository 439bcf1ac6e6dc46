use Rattle.std.proofs.Common.{◌∙◌, ap, sym}
use Rattle.s360_channel.specs.Views.{key_in}
use Rattle.s360_channel.specs.Selector.{over}
use Rattle.s360_channel.proofs.Kept.{storage_in}
use Rattle.s360_channel.proofs.channel.Channel.key.Goals as goal

pub returns-clause-shows : goal.returns-clause-shows
returns-clause-shows g c m h = c.key.ensures.key
    ∙ ap (λ s. key_in s c.args.at) (sym (storage_in (over c.self.inside.selector c.self.inside.storage) m (rw (← c.self.view_is) at h)))

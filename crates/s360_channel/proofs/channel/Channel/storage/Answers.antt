use Rattle.std.proofs.Common.{sym}
use Rattle.s360_channel.specs.Selector.{over}
use Rattle.s360_channel.proofs.Kept.{storage_in}
use Rattle.s360_channel.proofs.channel.Channel.storage.Goals as goal

pub returns-clause-shows : goal.returns-clause-shows
returns-clause-shows g c m h = sym (storage_in (over c.self.inside.selector c.self.inside.storage) m (rw (← c.self.view_is) at h))

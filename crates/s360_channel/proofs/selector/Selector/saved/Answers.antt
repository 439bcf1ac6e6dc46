use Rattle.std.proofs.Common.{◌∙◌}
use Rattle.s360_channel.proofs.Returning.{saved_there}
use Rattle.s360_channel.proofs.selector.Selector.saved.Goals as goal

pub returns-clause-shows : goal.returns-clause-shows
returns-clause-shows g c = λ s m h. c.all_saved.ensures ∙ saved_there c.args.self.now s m h

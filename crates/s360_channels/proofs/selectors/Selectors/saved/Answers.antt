use Rattle.s360_channels.proofs.StandBack.{all_shown}
use Rattle.s360_channels.proofs.selectors.Selectors.saved.Goals as goal

pub returns-clause-shows : goal.returns-clause-shows
returns-clause-shows g c = all_shown c.all_saved.result c.args.self.now.channels c.all_saved.ensures

use Rattle.s360_channel.proofs.Kept.{finds_another}
use Rattle.s360_channel.proofs.asking.finds_another.Goals as goal

pub returns : goal.returns
returns c = finds_another

use Rattle.s360_deck.proofs.laws.runs_keep_the_headline.Goals as goal
use Rattle.s360_deck.proofs.Promised.{keeps_headline}

pub returns : goal.returns
returns c = keeps_headline

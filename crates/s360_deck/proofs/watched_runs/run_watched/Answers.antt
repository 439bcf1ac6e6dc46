use Rattle.s360_deck.proofs.Told.{is_told}
use Rattle.s360_deck.proofs.watched_runs.run_watched.Goals as goal

pub returns-in-Ok-clause-watched : goal.returns-in-Ok-clause-watched
returns-in-Ok-clause-watched g c m stands =
    is_told g.V.Watcher.sees _ _ c.in-Ok.text.items c.in-Ok.ensures.ok _ _ _ _ _ _ c.as_slice.ensures.value
    (c.run_text_watched.ensures.watched m stands)

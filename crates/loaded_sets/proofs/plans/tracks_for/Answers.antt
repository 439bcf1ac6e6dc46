use Rattle.loaded_sets.proofs.plans.tracks_for.Goals as goal

pub returns : goal.returns
returns c = record { used = c.tracks_needed-needed.result; takes = c.tracks_needed-needed.ensures.tracks; all = c.max.ensures }

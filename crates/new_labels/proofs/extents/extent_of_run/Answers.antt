use Rattle.new_labels.proofs.Reached.{has_run}
use Rattle.new_labels.proofs.extents.extent_of_run.Goals as goal

pub returns-clause-tracks : goal.returns-clause-tracks
returns-clause-tracks c =
    rw (c.address_of.ensures, c.address_of-2.ensures) (has_run c.args.geometry c.args.first c.args.tracks c.requires.some)

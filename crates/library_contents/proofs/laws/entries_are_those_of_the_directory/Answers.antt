use Rattle.library_contents.proofs.Placed.{entries_are_those_of_the_directory}
use Rattle.library_contents.proofs.laws.entries_are_those_of_the_directory.Goals as goal

pub returns : goal.returns
returns c = entries_are_those_of_the_directory

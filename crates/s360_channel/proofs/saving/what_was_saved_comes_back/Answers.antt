use Rattle.s360_channel.proofs.Returning.{comes_back}
use Rattle.s360_channel.proofs.saving.what_was_saved_comes_back.Goals as goal

pub returns : goal.returns
returns c = comes_back

use Rattle.std.proofs.Common.{length}
use Rattle.s360_channels.proofs.saving.+why_not_all.Given as goal

abbrev pub decreases-why_not_all : goal.decreases-why_not_all
decreases-why_not_all g l = length l.saved.now

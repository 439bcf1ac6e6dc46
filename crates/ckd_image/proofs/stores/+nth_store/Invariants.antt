use Rattle.std.proofs.Common.{length}
use Rattle.ckd_image.proofs.stores.+nth_store.Given as goal

abbrev pub decreases-nth_store : goal.decreases-nth_store
decreases-nth_store g l = length l.stores.now

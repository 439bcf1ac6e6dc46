use Rattle.std.proofs.Common.{ℕ, List}
use Rattle.ckd_track.specs.Changes.{overwritten}
use Rattle.ckd_slot.proofs.Caches.{write_is}
use Rattle.ckd_slot.proofs.cache.TrackCache.put.Goals as goal

pub returns : goal.returns
returns g c =
    rw (← c.self.view_is) (write_is (λ (s : List ℕ). overwritten s c.args.at c.args.bytes.now) c.self.invariant
    (rw (← c.self.view_is) at c.requires.held) c.put.ensures.slot)

use Rattle.std.proofs.Common.{ℕ, List}
use Rattle.ckd_track.specs.Track.{slot_of}
use Rattle.ckd_track.specs.Changes.{bare_track}
use Rattle.ckd_slot.proofs.Caches.{write_is}
use Rattle.ckd_slot.proofs.cache.TrackCache.write_home_address.Goals as goal

pub returns : goal.returns
returns g c =
    rw (← c.self.view_is) (write_is (λ (s : List ℕ). slot_of c.self.inside.image.geometry.track_size (bare_track c.args.home_address))
    c.self.invariant (rw (← c.self.view_is) at c.requires.held) (rw c.self.invariant.size at c.write_home_address.ensures.slot))

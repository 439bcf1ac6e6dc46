use Rattle.std.proofs.Common.{ℕ, List}
use Rattle.ckd_track.specs.Track.{track_of, slot_of}
use Rattle.ckd_track.specs.Changes.{overwritten}
use Rattle.ckd_slot.specs.Buffer.{made_on}
use Rattle.ckd_slot.proofs.Caches.{write_is}
use Rattle.ckd_slot.proofs.cache.TrackCache.format.Goals as goal

pub returns : goal.returns
returns g c =
    rw (← c.self.view_is)
    (write_is (λ (s : List ℕ). overwritten (slot_of c.self.inside.image.geometry.track_size
    (made_on (track_of s) c.args.number c.args.count)) c.args.place.start c.args.bytes.now)
    c.self.invariant (rw (← c.self.view_is) at c.requires.held) (rw c.self.invariant.size at c.format.ensures.slot))

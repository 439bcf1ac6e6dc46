use Rattle.std.proofs.Common.{ℕ, List}
use Rattle.ckd_track.specs.Track.{track_in, slot_of}
use Rattle.ckd_position.specs.Contents.{with_record_changed, replaced}
use Rattle.ckd_slot.proofs.Caches.{write_is, held_is}
use Rattle.ckd_slot.proofs.cache.TrackCache.replace.Goals as goal

pub returns-clause-slot : goal.returns-clause-slot
returns-clause-slot g c = λ e a u.
    (let some = rw (← c.self.view_is) at c.requires.held in
    rw (← c.self.view_is) (write_is (λ (s : List ℕ). slot_of c.self.inside.image.geometry.track_size
    (with_record_changed (replaced e c.args.bytes.now) a (track_in s)))
    c.self.invariant some
    (rw c.self.invariant.size at (c.replace.ensures.slot e a (rw (← c.self.view_is, held_is c.self.invariant some) at u)))))

use Rattle.ckd_slot.proofs.Caches.{failed_save}
use Rattle.ckd_slot.proofs.cache.TrackCache.save_changed.Goals as goal

pub returns-in-Err-clause-err : goal.returns-in-Err-clause-err
returns-in-Err-clause-err g c =
    rw (← c.self.view_is, c.in-Some.is) (failed_save c.self.inside.image c.save.new.self c.self.inside.buffer _ c.self.inside.changed
    c.in-Some.track c.in-Err.ensures.err)

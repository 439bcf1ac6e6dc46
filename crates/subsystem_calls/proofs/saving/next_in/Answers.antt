use Rattle.std.proofs.Common.{rules, ap}
use Rattle.ckd_track.specs.declared.geometries.Geometry.{Geometry}
use Rattle.subsystem_calls.proofs.FileTold.{next_among}
use Rattle.subsystem_calls.proofs.saving.next_in.Goals as goal

-- the next track of the file at the place
pub returns-in-Some : goal.returns-in-Some
returns-in-Some c =
    next_among c.args.image.now c.args.file c.args.since _ c.args.track.now c.tell_next.new.track c.in-Some.store.now
    c.geometry.result.track_size
    c.in-Some.ensures.file c.tell_next.ensures.file (ap (λ (g : Geometry). g.track_size) c.geometry.ensures.geometry) (search rules)

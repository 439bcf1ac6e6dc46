use Rattle.std.proofs.Common.{refl, true, false, arith}
use Rattle.std.proofs.lemmas.Option.{slice_get_within}
use Rattle.s360_channel.specs.Restores.{with_saved}
use Rattle.s360_channel.proofs.Removing.{is_free}
use Rattle.s360_channel.proofs.AsSaved.{has_is, may_restore, restores}
use Rattle.s360_channel.proofs.Selecting.{still_over}
use Rattle.s360_channel.proofs.selector.Selector.restore_drive.Goals as goal

pub returns-in-Err-clause-refused : goal.returns-in-Err-clause-refused
returns-in-Err-clause-refused g c s m h = c.in-Err.ensures.refused s m h

pub has_track-requires : goal.has_track-requires
has_track-requires g c = let f = rw (← c.self.view_is) at c.in-Ok.ensures.free c.self.invariant.storage in
    (omega arith, slice_get_within c.self.inside.drives c.in-Ok.place f.attached f.is_there)

pub returns-then-not-has_track-clause-refused : goal.returns-then-not-has_track-clause-refused
returns-then-not-has_track-clause-refused g c s m h =
    let st = rw (← c.self.view_is) at h in
    let f = rw (← c.self.view_is) at c.in-Ok.ensures.free s in (
      is_free _ m st c.args.device c.in-Ok.place f,
      has_is _ m st c.args.device c.in-Ok.place f c.args.saved false c.if-not-has_track.ensures,
    )

pub restore-requires : goal.restore-requires
restore-requires g c =
    let h = c.self.invariant in
    let k = h.is_over.channel in
    let f = rw (← c.self.view_is) at c.in-Ok.ensures.free h.storage in
    (omega arith, may_restore _ k.machine k.stands c.args.device c.in-Ok.place f c.args.saved c.if-not-has_track.ensures)

pub invariant_of-self : goal.invariant_of-self
invariant_of-self g c =
    let h = c.self.invariant in
    let k = h.is_over.channel in
    let f = rw (← c.self.view_is) at c.in-Ok.ensures.free h.storage in
    let has = has_is _ k.machine k.stands c.args.device c.in-Ok.place f c.args.saved true c.if-not-has_track.ensures in
    still_over _ _ h refl (record {
      machine = with_saved c.args.device c.args.saved k.machine;
      stands = (restores _ k.machine k.stands
          c.args.device c.in-Ok.place f c.args.saved c.restore.new.self has c.restore.ensures).stands;
    })

pub returns-clause-restored : goal.returns-clause-restored
returns-clause-restored g c = rw (← c.self.view_is) (λ s m h.
    let f = rw (← c.self.view_is) at c.in-Ok.ensures.free s in
    let has = has_is _ m h c.args.device c.in-Ok.place f c.args.saved true c.if-not-has_track.ensures in
    restores _ m h c.args.device c.in-Ok.place f c.args.saved c.restore.new.self has c.restore.ensures)

use Rattle.std.proofs.Common.{refl, arith}
use Rattle.std.proofs.lemmas.Result.{err_from_is_err_and}
use Rattle.s360_channel.specs.Packs.{without_device}
use Rattle.s360_channel.proofs.Removing.{detaches, rests_free}
use Rattle.s360_channel.proofs.Selecting.{still_over}
use Rattle.s360_channel.proofs.selector.Selector.detach.Goals as goal

pub returns-in_err-place-clause-refused : goal.returns-in_err-place-clause-refused
returns-in_err-place-clause-refused g c s m h =
    let p = err_from_is_err_and c.from_residual.result c.from_residual.ensures.1 in
    rw (p.1, p.2) (c.in_err-place.ensures.refused s m h)

pub remove-requires : goal.remove-requires
remove-requires g c =
    let h = c.self.invariant in
    let k = h.is_over.channel in
    let f = rw (← c.self.view_is) at c.in_ok-place.ensures.free h.storage in
    (omega arith, rests_free _ k.machine k.stands c.args.device c.in_ok-place.place f)

pub invariant_of-self : goal.invariant_of-self
invariant_of-self g c =
    let h = c.self.invariant in
    let k = h.is_over.channel in
    let f = rw (← c.self.view_is) at c.in_ok-place.ensures.free h.storage in
    still_over _ _ h refl (record {
      machine = without_device c.args.device k.machine;
      stands = (detaches _ k.machine k.stands c.args.device
          c.in_ok-place.place f c.move_up.new.subchannel c.remove.new.self c.remove.result c.move_up.ensures c.remove.ensures).stands;
    })

pub returns-clause-detached : goal.returns-clause-detached
returns-clause-detached g c = rw (← c.self.view_is) (λ s m h.
    let f = rw (← c.self.view_is) at c.in_ok-place.ensures.free s in
    detaches _ m h c.args.device c.in_ok-place.place f c.move_up.new.subchannel c.remove.new.self c.remove.result c.move_up.ensures
    c.remove.ensures)

use Rattle.std.proofs.Common.{refl, true, false, arith}
use Rattle.std.proofs.lemmas.Option.{slice_get_within}
use Rattle.s360_channel.specs.Packs.{with_pack}
use Rattle.s360_channel.proofs.Removing.{exchanges, fits_is, may_exchange, is_free}
use Rattle.s360_channel.proofs.Selecting.{still_over}
use Rattle.s360_channel.proofs.selector.Selector.exchange.Goals as goal

pub returns-in-Err-clause-refused : goal.returns-in-Err-clause-refused
returns-in-Err-clause-refused g c s m h = c.in-Err.ensures.refused s m h

pub fits-requires : goal.fits-requires
fits-requires g c = let f = rw (← c.self.view_is) at c.in-Ok.ensures.free c.self.invariant.storage in
    (omega arith, slice_get_within c.self.inside.drives c.in-Ok.place f.attached f.is_there)

pub returns-then-not-fits-clause-refused : goal.returns-then-not-fits-clause-refused
returns-then-not-fits-clause-refused g c s m h =
    let st = rw (← c.self.view_is) at h in
    let f = rw (← c.self.view_is) at c.in-Ok.ensures.free s in (
      is_free _ m st c.args.device c.in-Ok.place f,
      fits_is _ m st c.args.device c.in-Ok.place f c.args.image false c.geometry.result c.geometry.ensures.geometry
          c.if-not-fits.ensures.volume,
    )

pub exchange-requires : goal.exchange-requires
exchange-requires g c =
    let h = c.self.invariant in
    let k = h.is_over.channel in
    let f = rw (← c.self.view_is) at c.in-Ok.ensures.free h.storage in (
      omega arith,
      may_exchange _ k.machine k.stands c.args.device c.in-Ok.place f c.args.image c.geometry.result
          c.geometry.ensures.geometry c.if-not-fits.ensures.image,
    )

pub invariant_of-self : goal.invariant_of-self
invariant_of-self g c =
    let h = c.self.invariant in
    let k = h.is_over.channel in
    let f = rw (← c.self.view_is) at c.in-Ok.ensures.free h.storage in
    let fits = fits_is _ k.machine k.stands c.args.device c.in-Ok.place f c.args.image true c.geometry.result
    c.geometry.ensures.geometry c.if-not-fits.ensures.volume in
    still_over _ _ h refl (record {
      machine = with_pack c.args.device c.args.image k.machine;
      stands = (exchanges _ k.machine k.stands
          c.args.device c.in-Ok.place f c.args.image c.exchange.new.self c.exchange.result fits c.exchange.ensures).stands;
    })

pub returns-clause-exchanged : goal.returns-clause-exchanged
returns-clause-exchanged g c = rw (← c.self.view_is) (λ s m h.
    let f = rw (← c.self.view_is) at c.in-Ok.ensures.free s in
    let fits = fits_is _ m h c.args.device c.in-Ok.place f c.args.image true c.geometry.result c.geometry.ensures.geometry
    c.if-not-fits.ensures.volume in
    exchanges _ m h c.args.device c.in-Ok.place f c.args.image c.exchange.new.self c.exchange.result fits c.exchange.ensures)

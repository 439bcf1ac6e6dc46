use Rattle.std.proofs.Common.{◌∙◌, refl, sym, arith}
use Rattle.s360_channel.specs.Channel.{attached}
use Rattle.s360_channel.specs.Nexts.{of_parts}
use Rattle.s360_channel.proofs.Changing.{stands_push, may_attach, has_place}
use Rattle.s360_channel.proofs.Selecting.{still_over}
use Rattle.s360_channel.proofs.selector.Selector.attach.Goals as goal

pub attach-requires : goal.attach-requires
attach-requires g c =
    (omega arith, has_place c.len.result _ c.len.ensures.count c.if-len-eq8.false c.self.invariant.is_over.channel.stands.few)

pub invariant_of-self : goal.invariant_of-self
invariant_of-self g c =
    let i = c.self.inside in
    let h = c.self.invariant in
    let k = h.is_over.channel in
    let this = of_parts i.number h.storage i.subchannel i.drives in
    still_over _ _ h refl (record {
      machine = attached c.args.device c.args.image k.machine;
      stands = stands_push c.args.device c.args.image this k.machine c.attach.new.self
          (may_attach c.args.device this c.place_of.result c.len.result c.place_of.ensures (sym c.is_some.ensures ∙ c.if-is_some.false)
          c.len.ensures.count c.if-len-eq8.false) c.in_default.ensures.attached k.stands;
    })

pub returns-in_default-clause-stands : goal.returns-in_default-clause-stands
returns-in_default-clause-stands g c =
    let i = c.self.inside in
    rw (← c.self.view_is) (λ s m h.
    let this = of_parts i.number s i.subchannel i.drives in
    stands_push c.args.device c.args.image this m c.attach.new.self
    (may_attach c.args.device this c.place_of.result c.len.result c.place_of.ensures (sym c.is_some.ensures ∙ c.if-is_some.false)
    c.len.ensures.count c.if-len-eq8.false) c.in_default.ensures.attached h)

use Rattle.std.proofs.Common.{arith, refl}
use Rattle.s360_channel.specs.Saves.{machine_back}
use Rattle.s360_channel.specs.Selector.{SelectorState}
use Rattle.s360_channel.proofs.Saved.{clear, rest_here, there}
use Rattle.s360_channel.proofs.Selecting.{still_over}
use Rattle.s360_channel.proofs.selector.Selector.put_back.Goals as goal

pub put_back-requires : goal.put_back-requires
put_back-requires g c =
    let i = c.self.inside in
    let old : SelectorState = record { number = i.number; size = i.size; subchannel = i.subchannel; drives = i.drives } in
    let h = c.self.invariant in
    let k = h.is_over.channel in
    let free = clear c.args.saved.now old (rw (← c.self.view_is) at c.requires) in
    (omega arith, (rest_here c.args.saved.now _ h.storage k.machine free k.stands, free.tracks))

pub invariant_of-self : goal.invariant_of-self
invariant_of-self g c =
    let i = c.self.inside in
    let old : SelectorState = record { number = i.number; size = i.size; subchannel = i.subchannel; drives = i.drives } in
    let saved = c.args.saved.now in
    let h = c.self.invariant in
    let k = h.is_over.channel in
    let free = clear saved old (rw (← c.self.view_is) at c.requires) in
    still_over _ _ h refl (record {
      machine = machine_back saved k.machine;
      stands = there saved _ h.storage k.machine _ _
          c.subchannel_back-self-inside.ensures c.put_back.ensures free k.stands;
    })

pub returns-clause-stands : goal.returns-clause-stands
returns-clause-stands g c =
    let i = c.self.inside in
    let old : SelectorState = record { number = i.number; size = i.size; subchannel = i.subchannel; drives = i.drives } in
    let saved = c.args.saved.now in
    let free = clear saved old (rw (← c.self.view_is) at c.requires) in
    rw (← c.self.view_is) (λ s m h. there saved _ s m _ _ c.subchannel_back-self-inside.ensures c.put_back.ensures free h)

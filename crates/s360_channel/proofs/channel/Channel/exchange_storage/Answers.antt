use Rattle.std.proofs.Common.{sym, ap, subst, ◌∙◌, length}
use Rattle.s360_words.specs.Storage.{Storage}
use Rattle.s360_channel.specs.Channel.{ChannelState, StandsFor}
use Rattle.s360_channel.specs.Selector.{over}
use Rattle.s360_channel.specs.Shares.{IsAsLarge, finding, with_storage}
use Rattle.s360_channel.proofs.Kept.{as_large, finds_another}
use Rattle.s360_channel.proofs.channel.Channel.exchange_storage.Goals as goal

pub invariant_of-self : goal.invariant_of-self
invariant_of-self g c = ap (λ (s : Storage). length s.bytes) c.swap.ensures.x_after
    ∙ (sym c.size.ensures.size ∙ (c.if-size.false ∙ (c.size-2.ensures.size ∙ c.self.invariant)))

pub returns-clause-stands : goal.returns-clause-stands
returns-clause-stands g c m h =
    let this : ChannelState = over c.self.inside.selector c.self.inside.storage in
    let large : IsAsLarge c.args.storage.now this.storage =
    as_large c.args.storage.now this.storage c.size.result c.size-2.result c.size.ensures.size c.size.ensures.allowed
    c.size.ensures.keys c.size-2.ensures.size c.size-2.ensures.keys c.if-size.false in
    subst (λ s. StandsFor (with_storage this s) (finding c.args.storage.now m)) (sym c.swap.ensures.x_after)
    (finds_another this m c.args.storage.now large (rw (← c.self.view_is) at h))

use Rattle.std.proofs.Common.{arith, sym, subst, ◌∙◌, false, true, Bool}
use Rattle.s360_channels.specs.Channels.{numbered}
use Rattle.s360_channels.specs.Inside.{PendsAt}
use Rattle.s360_channels.proofs.Quiet.{none_first, open_below, pends_here}
use Rattle.s360_channels.proofs.selectors.Selectors.first_pending.Goals as goal

pub returns-then-self : goal.returns-then-self
returns-then-self g c = λ s. none_first c.args.mask s c.self.view_is c.self.invariant c.if-self.true

pub returns-then-is_pending_at : goal.returns-then-is_pending_at
returns-then-is_pending_at g c = λ s.
    let n = c.loop-number.number in
    let v = c.args.self.now in record {
      waits = record {
        is_asked = sym c.is_open.ensures ∙ c.if-is_open.true;
        interrupts = pends_here true n v s (subst (λ (b : Bool). PendsAt b (numbered n v.channels)) c.if-is_pending_at.true
            c.is_pending_at.ensures);
      };
      before = λ lower below asked. pends_here false lower v s (c.loop-number.invariant lower below asked);
    }

pub returns : goal.returns
returns g c = λ s number asked.
    let below = open_below c.args.mask number asked in
    pends_here false number c.args.self.now s (c.loop-number.invariant number (omega (arith, below, c.loop-number-test.false)) asked)

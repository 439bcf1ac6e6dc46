use Rattle.std.proofs.Common.{refl, arith}
use Rattle.s360_channel.proofs.Calling.{cut_allowed, halts_elsewhere, halts_pending, halts_idle, halts_working}
use Rattle.s360_channel.proofs.Quiet.{none_calls}
use Rattle.s360_channel.proofs.Selecting.{does_selector}
use Rattle.s360_channel.proofs.selector.Selector.hio.Goals as goal

pub returns-then-address-self-clause-does : goal.returns-then-address-self-clause-does
returns-then-address-self-clause-does g c = rw (← c.self.view_is) (λ m s. halts_elsewhere _ m c.args.address s c.if-address-self.true)

pub returns-then-address-self-clause-calls : goal.returns-then-address-self-clause-calls
returns-then-address-self-clause-calls g c = none_calls 1 _ _ refl

pub returns-in-Idle-clause-does : goal.returns-in-Idle-clause-does
returns-in-Idle-clause-does g c =
    let holds = g.M.MainStorage.holds in
    rw (← c.self.view_is) (λ m s.
    let k = c.halt_device in
    (halts_idle _ m c.args.address s c.if-address-self.false c.in-Idle.is k.result (holds k.new.storage) k.ensures.answer
    k.ensures.storage).0)

pub returns-in-Idle-clause-calls : goal.returns-in-Idle-clause-calls
returns-in-Idle-clause-calls g c = none_calls 1 _ _ refl

pub cut_program-requires : goal.cut_program-requires
cut_program-requires g c =
    let is = (rw (← c.self.view_is) at c.is_over.ensures).channel in
    (omega arith, cut_allowed _ is.machine is.stands)

pub invariant_of-self : goal.invariant_of-self
invariant_of-self g c =
    let k = c.cut_program in
    does_selector _ _ 1 _ _ _ _ (rw (← c.self.view_is) at c.is_over.ensures) refl (record { size = refl; keys = refl })
    (λ m s. halts_working _ m c.in-Working.field-0 c.in-Working.field-1 c.in-Working.is s k.new.drives k.new.subchannel k.ensures
    c.args.address c.if-address-self.false)

pub returns-in-Working-clause-does : goal.returns-in-Working-clause-does
returns-in-Working-clause-does g c = rw (← c.self.view_is) (λ m s.
    let k = c.cut_program in
    (halts_working _ m c.in-Working.field-0 c.in-Working.field-1 c.in-Working.is s k.new.drives k.new.subchannel k.ensures c.args.address
    c.if-address-self.false).0)

pub returns-in-Working-clause-calls : goal.returns-in-Working-clause-calls
returns-in-Working-clause-calls g c =
    let is = (rw (← c.self.view_is) at c.is_over.ensures).channel in
    let k = c.cut_program in
    rw (← c.self.view_is) (halts_working _ is.machine c.in-Working.field-0 c.in-Working.field-1 c.in-Working.is is.stands k.new.drives
    k.new.subchannel k.ensures c.args.address c.if-address-self.false).1

pub returns-in-Pending-clause-does : goal.returns-in-Pending-clause-does
returns-in-Pending-clause-does g c = rw (← c.self.view_is) (λ m s. halts_pending _ m c.args.address c.in-Pending.field-0
    c.in-Pending.field-1 s c.if-address-self.false c.in-Pending.is)

pub returns-in-Pending-clause-calls : goal.returns-in-Pending-clause-calls
returns-in-Pending-clause-calls g c = none_calls 1 _ _ refl

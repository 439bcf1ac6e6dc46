use Rattle.std.proofs.Common.{refl, sym}
use Rattle.s360_channel.specs.Restores.{with_pending}
use Rattle.s360_channel.proofs.AsSaved.{available, stands_pending}
use Rattle.s360_channel.proofs.Selecting.{still_over}
use Rattle.s360_channel.proofs.selector.Selector.restore_pending.Goals as goal

pub returns-then-not-is_owed-clause-refused : goal.returns-then-not-is_owed-clause-refused
returns-then-not-is_owed-clause-refused g c =
    let owed = rw (← c.self.view_is) at c.if-not-is_owed.ensures in
    rw (← c.self.view_is) (λ s m h. (available _ m h c.in-Idle.is, sym (owed s m h)))

pub invariant_of-self : goal.invariant_of-self
invariant_of-self g c =
    let h = c.self.invariant in
    let k = h.is_over.channel in
    let owed = rw (← c.self.view_is) at c.if-not-is_owed.ensures in
    still_over _ _ h refl (record {
      machine = with_pending c.args.device c.args.csw k.machine;
      stands = stands_pending _ k.machine c.args.device c.args.csw k.stands c.in-Idle.is (sym (owed h.storage k.machine k.stands));
    })

pub returns-clause-stands : goal.returns-clause-stands
returns-clause-stands g c =
    let owed = rw (← c.self.view_is) at c.if-not-is_owed.ensures in
    rw (← c.self.view_is) (λ s m h. stands_pending _ m c.args.device c.args.csw h c.in-Idle.is (sym (owed s m h)))

use Rattle.std.proofs.Common.{refl, subst, sym}
use Rattle.volume_contents.proofs.Followed.{none_followed, one_followed, followed_to_end, followed_to_fault, followed_all}
use Rattle.volume_contents.proofs.chains.follow_chain.Goals as goal

pub loop-init : goal.loop-init
loop-init c = rw c.new-links.ensures.items (none_followed _ _ _ _)

pub returns-in-End : goal.returns-in-End
returns-in-End c = followed_to_end _ c.loop.counter _ _ _ c.loop.next _ c.loop.invariant c.loop-test.true c.in-End.ensures refl

pub returns-in-Fault : goal.returns-in-Fault
returns-in-Fault c = followed_to_fault _ c.loop.counter _ _ _ c.loop.next _ _ c.loop.invariant c.loop-test.true c.in-Fault.ensures refl

pub loop-preserved : goal.loop-preserved
loop-preserved c =
    rw c.next_of-next.ensures
    (one_followed _ c.loop.counter _ _ _ c.loop.next _ _ _ c.loop.invariant c.in-Link.ensures c.in_ok-push-in-Link.ensures)

pub returns : goal.returns
returns c = followed_all _ c.loop.counter _ _ _ c.loop.next _ c.loop.invariant c.loop-test.false c.loop.auto.counter-end c.end_of.ensures

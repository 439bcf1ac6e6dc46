use Rattle.volume_contents.proofs.Followed.{Followed}
use Rattle.volume_contents.proofs.chains.follow_chain.Given as goal

-- the blocks so far are those of the chain, which goes on at the next address
abbrev pub invariant-loop : goal.invariant-loop
invariant-loop l = Followed l.most l.counter l.is_free l.blocks l.fn.first l.next l.links.items

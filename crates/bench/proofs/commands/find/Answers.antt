use Rattle.bench.proofs.Looks.{found, goes_on}
use Rattle.bench.proofs.commands.find.Goals as goal

pub returns-in-Ready-clause-found : goal.returns-in-Ready-clause-found
returns-in-Ready-clause-found c = λ _. found _ _ _ _ _ c.loop.invariant.0 c.look.ensures.state c.in-Ready.is c.look.ensures.answer

pub loop-preserved : goal.loop-preserved
loop-preserved c = goes_on c.look.new.self c.look.result c.in-Passed.is c.look.ensures.answer

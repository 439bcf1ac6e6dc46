use Rattle.s360_trace.proofs.watching.watch_event.Goals as goal

pub returns-clause-watched : goal.returns-clause-watched
returns-clause-watched g c m stands = record {
  happens = λ now is. c.react-answer.ensures.happens now is;
  begun = c.look.new.self;
  before = c.look.ensures;
  told = c.react-answer.new.watcher;
  within = c.react-answer.ensures.within _ stands;
  behind = c.look-2.ensures;
}

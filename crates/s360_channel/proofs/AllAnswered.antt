-- Answers to a list of events, one event more at a time.
use Rattle.std.proofs.Common.{List, [], ◌∷◌, ◌++◌}
use Rattle.s360_laws.specs.declared.answers.Answer.{Answer}
use Rattle.s360_laws.specs.declared.events.Event.{Event}
use Rattle.s360_laws.specs.Answered.{IsAnswered, AllAnswered}

pub all_answered_one_more : (events : List Event) (answers : List Answer) (e : Event) (a : Answer) → AllAnswered events answers
    → IsAnswered e a → AllAnswered (events ++ e ∷ []) (answers ++ a ∷ [])
all_answered_one_more [] [] e a h i = (i, tt)
all_answered_one_more [] (b ∷ answers) e a h i = absurd h
all_answered_one_more (d ∷ events) [] e a h i = absurd h
all_answered_one_more (d ∷ events) (b ∷ answers) e a h i = (h.0, all_answered_one_more events answers e a h.1 i)

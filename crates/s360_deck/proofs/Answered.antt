-- An answer that is given to an event is one of its kind.
use Rattle.std.proofs.Common.{List, [], ◌∷◌}
use Rattle.s360_laws.specs.declared.events.Event.{Event}
use Rattle.s360_laws.specs.declared.events.Event.TheVariants as event
use Rattle.s360_laws.specs.declared.answers.Answer.{Answer}
use Rattle.s360_laws.specs.declared.answers.Answer.TheVariants as answer
use Rattle.s360_laws.specs.Answered.{IsAnswered, AllAnswered}
use Rattle.s360_deck.specs.Serial.{Fits, AllFit}

fits : (e : Event) (a : Answer) → IsAnswered e a → Fits e a
fits (event.Sio a) (answer.Sio b c) is = tt
fits (event.Tio a) (answer.Tio b c) is = tt
fits (event.Hio a) (answer.Hio b c) is = tt
fits event.Tch (answer.Tch c) is = tt
fits (event.Step k) (answer.Step done) is = tt
fits (event.Run k) (answer.Run done) is = tt
fits (event.Arrive a) (answer.Arrive b arrived) is = tt
fits event.Interrupt (answer.Interrupt i) is = tt
fits event.Reset (answer.Reset unsaved) is = tt
fits (event.Store at bytes) (answer.Store kept) is = tt
fits (event.Key at key) (answer.Key kept) is = tt
fits (event.Show at count) (answer.Show b shown) is = tt
fits e a is = absurd is

pub all_fit : (events : List Event) (answers : List Answer) → AllAnswered events answers → AllFit events answers
all_fit [] [] are = tt
all_fit [] (a ∷ answers) are = absurd are
all_fit (e ∷ events) [] are = absurd are
all_fit (e ∷ events) (a ∷ answers) are = (fits e a are.0, all_fit events answers are.1)

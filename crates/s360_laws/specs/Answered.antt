-- Events and the answers that may be given to them.
use Rattle.std.specs.Prelude.{◌≡◌, List, [], ◌∷◌}
use Rattle.s360_laws.specs.declared.events.Event.{Event}
use Rattle.s360_laws.specs.declared.events.Event.TheVariants as event
use Rattle.s360_laws.specs.declared.answers.Answer.{Answer}
use Rattle.s360_laws.specs.declared.answers.Answer.TheVariants as answer

-- An answer is of its event's kind, and prints the address that the event names.
abbrev pub IsAnswered : Event → Answer → Type 0
IsAnswered (event.Sio a) (answer.Sio b c) = b ≡ a
IsAnswered (event.Tio a) (answer.Tio b c) = b ≡ a
IsAnswered (event.Hio a) (answer.Hio b c) = b ≡ a
IsAnswered event.Tch (answer.Tch c) = Unit {0}
IsAnswered (event.Step k) (answer.Step done) = Unit {0}
IsAnswered (event.Run k) (answer.Run done) = Unit {0}
IsAnswered (event.Arrive a) (answer.Arrive b arrived) = b ≡ a
IsAnswered event.Interrupt (answer.Interrupt i) = Unit {0}
IsAnswered event.Reset (answer.Reset unsaved) = Unit {0}
IsAnswered (event.Store at bytes) (answer.Store kept) = Unit {0}
IsAnswered (event.Key at key) (answer.Key kept) = Unit {0}
IsAnswered (event.Show at count) (answer.Show b bytes) = b ≡ at
IsAnswered e a = ⊥

-- One answer for each event.
abbrev pub AllAnswered : List Event → List Answer → Type 0
AllAnswered [] [] = Unit {0}
AllAnswered (e ∷ events) (a ∷ answers) = IsAnswered e a × AllAnswered events answers
AllAnswered events answers = ⊥

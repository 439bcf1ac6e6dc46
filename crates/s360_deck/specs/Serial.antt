-- The serial list of a list of events and the answers that were given to them.
use Rattle.std.specs.Prelude.{◌≡◌, ◌≤◌, ℕ, ◌+◌, List, [], ◌∷◌, ◌++◌, Bool, map, Option, Some, None, if◌then◌else◌}
use Rattle.s360_laws.specs.Events as machine
use Rattle.s360_laws.specs.SerialLists.{serial_list, is_step, steps_ahead, arrivals_last, steps_joined}
use Rattle.s360_laws.specs.declared.events.Event.{Event}
use Rattle.s360_laws.specs.declared.events.Event.TheVariants as event
use Rattle.s360_laws.specs.declared.answers.Answer.{Answer}
use Rattle.s360_laws.specs.declared.answers.Answer.TheVariants as answer
use Rattle.s360_deck.specs.declared.serial_lists.Exchange.{Exchange}
use Rattle.s360_laws.specs.Seen.{event_seen, answer_seen}

-- an event with its answer, which met no fault
abbrev pub exchange_of : Event → Answer → machine.Exchange
exchange_of e a = (event_seen e, None, answer_seen a)

-- each event with its answer
abbrev pub exchanges_of : List Event → List Answer → List machine.Exchange
exchanges_of (e ∷ events) (a ∷ answers) = exchange_of e a ∷ exchanges_of events answers
exchanges_of events answers = []

-- an answer of its event's variant
abbrev pub Fits : Event → Answer → Type 0
Fits (event.Sio a) (answer.Sio b c) = Unit {0}
Fits (event.Tio a) (answer.Tio b c) = Unit {0}
Fits (event.Hio a) (answer.Hio b c) = Unit {0}
Fits event.Tch (answer.Tch c) = Unit {0}
Fits (event.Step k) (answer.Step d) = Unit {0}
Fits (event.Run k) (answer.Run d) = Unit {0}
Fits (event.Arrive a) (answer.Arrive b y) = Unit {0}
Fits event.Interrupt (answer.Interrupt i) = Unit {0}
Fits event.Reset (answer.Reset u) = Unit {0}
Fits (event.Store at b) (answer.Store k) = Unit {0}
Fits (event.Key at k) (answer.Key b) = Unit {0}
Fits (event.Show at n) (answer.Show b s) = Unit {0}
Fits e a = ⊥

-- as many answers as events, each of its event's variant
abbrev pub AllFit : List Event → List Answer → Type 0
AllFit [] [] = Unit {0}
AllFit (e ∷ events) (a ∷ answers) = Fits e a × AllFit events answers
AllFit events answers = ⊥

-- an exchange by its two parts
abbrev pub exchange_seen : Exchange → machine.Exchange
exchange_seen t = exchange_of t.event.now t.answer.now

-- exchanges as the machine has them
abbrev pub exchanges_seen : List Exchange → List machine.Exchange
exchanges_seen list = map exchange_seen list

-- their events
abbrev pub events_in : List machine.Exchange → List machine.Event
events_in list = map (λ t. t.0) list

-- the events of the serial list
abbrev pub serial_events : List Event → List Answer → List machine.Event
serial_events events answers = events_in (serial_list (exchanges_of events answers))

-- Parts of the rules.

-- how many units a step did, by its answer
abbrev pub units_of : machine.Answer → Option ℕ
units_of (machine.Stepped done) = Some done
units_of answer = None

-- the units that a step did; none of another event
abbrev pub units_done : machine.Exchange → Option ℕ
units_done t = if is_step t then units_of t.2 else None

-- one exchange more, of those that are ordered and those that are held, with steps of the program ahead or not: whatever
-- comes behind, the list is the same
abbrev pub Places : (ordered ordered_now held held_now : List Exchange) → (inside : Bool) → Exchange
    → (ahead now : Bool) → Type 0
Places ordered ordered_now held held_now inside t ahead now =
    (rest : List machine.Exchange) → steps_ahead rest ≡ ahead
    → exchanges_seen ordered ++ arrivals_last inside (exchanges_seen held) (exchange_seen t ∷ rest)
    ≡ exchanges_seen ordered_now ++ arrivals_last now (exchanges_seen held_now) rest

-- one exchange more behind so many units of steps
abbrev pub Joins : (events events_now : List machine.Event) → (units : ℕ) → machine.Exchange → (now : ℕ) → Type 0
Joins events events_now units t now =
    ((rest : List machine.Exchange) → events ++ events_in (steps_joined units (t ∷ rest))
    ≡ events_now ++ events_in (steps_joined now rest))
    × (now ≤ units + 4294967295)

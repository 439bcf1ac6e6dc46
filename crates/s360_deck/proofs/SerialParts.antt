-- Parts of the serial list.
use Rattle.std.proofs.Common.{◌≡◌, ◌∙◌, ℕ, zero, suc, ◌<◌, ◌/◌, ◌%◌, ◌==◌, List, [], ◌∷◌, ◌++◌, Bool, true, false, map, length, replicate}
use Rattle.std.proofs.Common.{refl, ap, sym, append-nil, append_assoc, cond, arith}
use Rattle.std.proofs.lemmas.List.{map-append}
use Rattle.s360_laws.specs.Events.{Exchange, Event, StepBy}
use Rattle.s360_laws.specs.SerialLists.{that_change, steps_of, whole_step, ArePlain, serial_list}
use Rattle.s360_laws.specs.History.{acts}
use Rattle.s360_laws.proofs.AlikeLists.{same_acts}
use Rattle.s360_laws.specs.Seen.{event_seen}
use Rattle.s360_laws.specs.declared.events.Event.{Event as Value}
use Rattle.s360_laws.specs.declared.answers.Answer.{Answer}
use Rattle.s360_deck.specs.Serial.{exchanges_of, events_in}

none_of_events : (events : List Value) (answers : List Answer) → length events < 1 → exchanges_of events answers ≡ []
none_of_events [] answers h = refl
none_of_events (e ∷ events) answers h = absurd (omega arith)

none_of_answers : (events : List Value) (answers : List Answer) → length answers < 1 → exchanges_of events answers ≡ []
none_of_answers [] answers h = refl
none_of_answers (e ∷ events) [] h = refl
none_of_answers (e ∷ events) (a ∷ answers) h = absurd (omega arith)

ends : (kept rest all : List Exchange) → rest ≡ [] → kept ++ that_change rest ≡ all → kept ≡ all
ends kept rest all e h = sym (append-nil kept) ∙ rw e at h

-- where no event is left, or no answer, all changes are kept
pub all_kept : (kept all : List Exchange) (events : List Value) (answers : List Answer) → length events < 1
    → kept ++ that_change (exchanges_of events answers) ≡ all → kept ≡ all
all_kept kept all events answers h is = ends kept _ all (none_of_events events answers h) is

pub all_answered : (kept all : List Exchange) (events : List Value) (answers : List Answer) → length answers < 1
    → kept ++ that_change (exchanges_of events answers) ≡ all → kept ≡ all
all_answered kept all events answers h is = ends kept _ all (none_of_answers events answers h) is

-- Steps of so many units.

whole_steps : (n : ℕ) → events_in (replicate n (whole_step 65535)) ≡ replicate n (StepBy 65535)
whole_steps zero = refl
whole_steps (suc n) = ap (λ l. StepBy 65535 ∷ l) (whole_steps n)

steps_are : (units : ℕ) (b : Bool) → (units % 65535 == 0) ≡ b
    → events_in (steps_of units) ≡ replicate (units / 65535) (StepBy 65535) ++ cond b [] (StepBy (units % 65535) ∷ [])
steps_are units true e = rw (e, map-append (λ t. t.0) (replicate (units / 65535) (whole_step 65535)) [], whole_steps (units / 65535)) refl
steps_are units false e = rw (
  e,
  map-append (λ t. t.0) (replicate (units / 65535) (whole_step 65535)) (whole_step (units % 65535) ∷ []),
  whole_steps (units / 65535),
) refl

-- whole steps alone
pub exact_steps : (old now : List Event) (units k : ℕ) → k ≡ units / 65535 → (units % 65535 == 0) ≡ true
    → now ≡ old ++ replicate k (StepBy 65535)
    → now ≡ old ++ events_in (steps_of units)
exact_steps old now units k whole none is =
    rw (steps_are units true none, append-nil (replicate (units / 65535) (StepBy 65535)), ← whole) is

-- and one of the rest
pub more_steps : (old now : List Event) (units k : ℕ) → k ≡ units / 65535 → (units % 65535 == 0) ≡ false
    → now ≡ (old ++ replicate k (StepBy 65535)) ++ StepBy (units % 65535) ∷ []
    → now ≡ old ++ events_in (steps_of units)
more_steps old now units k whole some is =
    rw (steps_are units false some, ← whole) (is ∙ append_assoc old (replicate k (StepBy 65535)) (StepBy (units % 65535) ∷ []))

-- one event more
pub seen_more : (before now : List Value) (event : Value) (seen : List Event) → now ≡ before ++ event ∷ [] → map event_seen before ≡ seen
    → map event_seen now ≡ seen ++ event_seen event ∷ []
seen_more before now event seen is was = rw is (map-append event_seen before (event ∷ []) ∙ ap (λ l. l ++ event_seen event ∷ []) was)

-- The acts.

plain_exchanges : (events : List Value) (answers : List Answer) → ArePlain (exchanges_of events answers)
plain_exchanges [] answers = tt
plain_exchanges (e ∷ events) [] = tt
plain_exchanges (e ∷ events) (a ∷ answers) = (refl, plain_exchanges events answers)

-- the serial list does what the list does
pub serial_acts : (events : List Value) (answers : List Answer) → acts (serial_list (exchanges_of events answers))
    ≡ acts (exchanges_of events answers)
serial_acts events answers = same_acts (exchanges_of events answers) (plain_exchanges events answers)

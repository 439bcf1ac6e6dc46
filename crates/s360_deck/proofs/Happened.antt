-- The first events of a text have happened at a channel, and those of the rest are still to come.
use Rattle.std.proofs.Common.{◌≡◌, ◌≤◌, ℕ, List, [], ◌∷◌, ◌++◌, Ok, length, map, refl, sym, ap, subst, ◌∙◌, append_assoc, append-nil}
use Rattle.std.proofs.lemmas.List.{map-append}
use Rattle.s360_laws.specs.Machine.{Machine}
use Rattle.s360_laws.specs.declared.answers.Answer.{Answer}
use Rattle.s360_laws.specs.declared.events.Event.{Event}
use Rattle.s360_laws.specs.Answered.{IsAnswered, AllAnswered}
use Rattle.s360_laws.specs.Seen.{event_seen, answer_seen}
use Rattle.s360_channel.specs.Channel.{ChannelState, StandsFor}
use Rattle.s360_channel.specs.Lists.{Follows}
use Rattle.s360_channel.proofs.AllAnswered.{all_answered_one_more}
use Rattle.s360_channel.proofs.OneMore.{Drove, drove_none, drove_one_more, drove_follows}
use Rattle.s360_trace.specs.Looks.{IsDone}
use Rattle.s360_deck.specs.Deck.{lines_of, events_of, events_in_lines}
use Rattle.s360_deck.specs.Texts.{HasRun}

-- the events that a text in capitals spells
abbrev pub spelled_by : List ℕ → List Event
spelled_by text = events_in_lines (lines_of text)

-- these events were the first of a text; they were answered, and drove the channel
pub record Happened (text rest : List ℕ) (events : List Event) (answers : List Answer) (old new : ChannelState) : Type 0 where
  pub spelled : events ++ spelled_by rest ≡ spelled_by text
  pub answered : AllAnswered events answers
  pub drove : (m : Machine) → StandsFor old m → Drove m (map event_seen events) (map answer_seen answers) old new

-- none yet
pub none_happened : (text : List ℕ) (c : ChannelState) → Happened text text [] [] c c
none_happened text c = record { spelled = refl; answered = tt; drove = λ m stands. drove_none m c stands }

-- the next event of a text
module _ (text rest behind : List ℕ) (event : Event) (answer : Answer) (old mid new : ChannelState)
    (next : spelled_by rest ≡ event ∷ spelled_by behind) where
  pub one_happened : (events : List Event) (answers : List Answer)
      → Happened text rest events answers old mid → IsDone (event_seen event) (answer_seen answer) mid new → IsAnswered event answer
      → Happened text behind (events ++ event ∷ []) (answers ++ answer ∷ []) old new
  one_happened events answers h done is = record {
    spelled = append_assoc events (event ∷ []) (spelled_by behind) ∙ ap (λ l. events ++ l) (sym next) ∙ h.spelled;
    answered = all_answered_one_more events answers event answer h.answered is;
    drove = λ m stands.
        let drove = h.drove m stands in
        subst (λ es. Drove m es (map answer_seen (answers ++ answer ∷ [])) old new) (sym (map-append event_seen events (event ∷ [])))
        (subst (λ all. Drove m (map event_seen events ++ event_seen event ∷ []) all old new)
        (sym (map-append answer_seen answers (answer ∷ [])))
        (drove_one_more m _ _ old mid new _ _ (record { does = λ now is. (done now is).does; calls = (done _ drove.stands).calls }) drove));
  }

-- the whole text
module _ (text rest : List ℕ) (events : List Event) (answers : List Answer) (old new : ChannelState)
    (h : Happened text rest events answers old new) (none : spelled_by rest ≡ []) where
  pub all_spelled : events ≡ spelled_by text
  all_spelled = sym (append-nil events) ∙ ap (λ l. events ++ l) (sym none) ∙ h.spelled

  pub all_answered : AllAnswered (spelled_by text) answers
  all_answered = subst (λ es. AllAnswered es answers) all_spelled h.answered

  pub all_follow : (m : Machine) → StandsFor old m
      → Follows m (map event_seen (spelled_by text)) (map answer_seen answers) old new
  all_follow m stands =
      drove_follows m _ _ _ _ stands
      (subst (λ es. Drove m (map event_seen es) (map answer_seen answers) old new) all_spelled (h.drove m stands))

-- a deck has run whose events have all happened
pub deck_has_run : (text capitals seen : List ℕ) (old new : ChannelState) (answers : List Answer) → seen ≡ capitals
    → length text ≤ 1048576 → events_of text ≡ Ok (spelled_by capitals) → AllAnswered (spelled_by seen) answers
    → ((m : Machine) → StandsFor old m → Follows m (map event_seen (spelled_by seen)) (map answer_seen answers) old new)
    → HasRun text old new answers
deck_has_run text capitals seen old new answers is size deck answered follows = record {
  size = size;
  events = spelled_by seen;
  are_these = subst (λ (t : List ℕ). events_of text ≡ Ok (spelled_by t)) (sym is) deck;
  answered = answered;
  follows = follows;
}

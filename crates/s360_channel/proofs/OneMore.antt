-- Lists of events at a channel, one event more at a time.
use Rattle.std.proofs.Common.{◌≡◌, ◌<◌, ◌≤◌, take, drop, length, length-drop, get_or, ℕ, ◌+◌, List, [], ◌∷◌, ◌++◌, map, Option, Some, None}
use Rattle.std.proofs.Common.{refl, sym, ap, ◌∙◌, subst, arith}
use Rattle.s360_laws.specs.Events.{Event, Answer, WithCode, StatusStored, CswStored, Stepped, HasArrived, Interrupted, WasReset, WasKept}
use Rattle.s360_laws.specs.Events.{Shown, FaultAfter, Input}
use Rattle.s360_laws.specs.Machine.{Machine, react, answers, after_all, plain}
use Rattle.s360_laws.proofs.Headlines.{headline}
use Rattle.std.proofs.lemmas.List.{append-nil, map-append, map_more, take_all}
use Rattle.s360_laws.specs.Seen.{event_seen, answer_seen}
use Rattle.s360_laws.specs.declared.answers.Answer as deck_answer
use Rattle.s360_laws.specs.declared.events.Event as deck_event
use Rattle.s360_channel.specs.Calls.{CallsAtMost, Does, IsMet, Reports, most_calls}
use Rattle.s360_channel.specs.Channel.{ChannelState, StandsFor, failures_of}
use Rattle.attached_drives.specs.Drives.{AttachedState}
use Rattle.s360_channel.specs.Lists.{AllMet, Follows, AllReported, faults_in}

-- What these events did at a channel, without what follows from it.
pub record Drove (m : Machine) (events : List Event) (given : List Answer) (old new : ChannelState) : Type 0 where
  pub inputs : List Input
  pub are_these : map (λ i. i.0) inputs ≡ events
  pub faults : failures_of new ≡ failures_of old + faults_in inputs
  pub met : AllMet m inputs given old new
  pub same_answers : given ≡ answers inputs m
  pub stands : StandsFor new (after_all inputs m)
  pub reported : AllReported inputs m

plus_none : (n : ℕ) → n ≡ n + 0
plus_none n = omega arith

-- no event
pub drove_none : (m : Machine) (c : ChannelState) → StandsFor c m → Drove m [] [] c c
drove_none m c stands = record {
  inputs = [];
  are_these = refl;
  faults = plus_none (failures_of c);
  met = refl;
  same_answers = refl;
  stands = stands;
  reported = tt;
}

abbrev met : Option FaultAfter → ℕ
met None = 0
met (Some x) = 1

-- the count of failures rises where a fault is met
met_counts : (x : Option FaultAfter) (a : Answer) (old new : ChannelState) → IsMet x a old new → failures_of new ≡ failures_of old + met x
met_counts None a old new h = h ∙ plus_none (failures_of old)
met_counts (Some x) (Stepped done) old new h = h.0
met_counts (Some x) (WithCode c) old new h = h
met_counts (Some x) (StatusStored u c) old new h = h
met_counts (Some x) (CswStored c) old new h = h
met_counts (Some x) (HasArrived a) old new h = h
met_counts (Some x) (Interrupted i) old new h = h
met_counts (Some x) (WasReset u) old new h = h
met_counts (Some x) (WasKept k) old new h = h
met_counts (Some x) (Shown s) old new h = h

faults_one_more : (es : List Input) (e : Event) (x : Option FaultAfter) → faults_in (es ++ (e, x) ∷ []) ≡ faults_in es + met x
faults_one_more [] e None = refl
faults_one_more [] e (Some x) = refl
faults_one_more ((d, None) ∷ es) e x = faults_one_more es e x
faults_one_more ((d, Some y) ∷ es) e x = let h = faults_one_more es e x in omega (arith, h)

answers_one_more : (es : List Input) (i : Input) (m : Machine) → answers (es ++ i ∷ []) m ≡ answers es m
    ++ (react i.0 i.1 (after_all es m)).0 ∷ []
answers_one_more [] i m = refl
answers_one_more (e ∷ es) i m = ap (λ l. (react e.0 e.1 m).0 ∷ l) (answers_one_more es i (react e.0 e.1 m).1)

after_one_more : (es : List Input) (i : Input) (m : Machine) → after_all (es ++ i ∷ []) m ≡ (react i.0 i.1 (after_all es m)).1
after_one_more [] i m = refl
after_one_more (e ∷ es) i m = after_one_more es i (react e.0 e.1 m).1

reported_one_more : (es : List Input) (i : Input) (m : Machine) → AllReported es m → Reports i.0 (after_all es m) i.1
    → AllReported (es ++ i ∷ []) m
reported_one_more [] i m h r = (r, tt)
reported_one_more (e ∷ es) i m h r = (h.0, reported_one_more es i (react e.0 e.1 m).1 h.1 r)

-- it names the channel before, between and behind, since it joins what was met and one event more
met_one_more : (m : Machine) (es : List Input) (given : List Answer) (old mid new : ChannelState) (i : Input) (a : Answer)
    → AllMet m es given old mid → IsMet i.1 a mid new → CallsAtMost (most_calls i.0 a) mid new
    → StandsFor new (react i.0 i.1 (after_all es m)).1
    → AllMet m (es ++ i ∷ []) (given ++ a ∷ []) old new
met_one_more m [] [] old mid new i a h k l s =
    (new, subst (λ old. IsMet i.1 a old new) h k, subst (λ old. CallsAtMost (most_calls i.0 a) old new) h l, s, refl)
met_one_more m [] (b ∷ given) old mid new i a h k l s = absurd h
met_one_more m (e ∷ es) [] old mid new i a h k l s = absurd h
met_one_more m (e ∷ es) (b ∷ given) old mid new i a h k l s =
    (h.0, h.1, h.2, h.3, met_one_more (react e.0 e.1 m).1 es given h.0 mid new i a h.4 k l s)

-- what stays at each call stays along the list
along : {A : Type 0} (f : AttachedState → A) → ((most : ℕ) (old new : ChannelState) → CallsAtMost most old new
    → map f new.drives ≡ map f old.drives)
    → (m : Machine) (es : List Input) (given : List Answer) (old new : ChannelState) → AllMet m es given old new
    → map f new.drives ≡ map f old.drives
along f kept m [] [] old new h = ap (λ (c : ChannelState). map f c.drives) h
along f kept m [] (b ∷ given) old new h = absurd h
along f kept m (e ∷ es) [] old new h = absurd h
along f kept m (e ∷ es) (b ∷ given) old new h = along f kept (react e.0 e.1 m).1 es given h.0 new h.4 ∙ kept _ _ _ h.2

-- it names the channel before, between and behind, since it joins a list of events and one more
does_one_more : (m : Machine) (events : List Event) (given : List Answer) (old mid new : ChannelState) (d : Drove m events given old mid)
    (e : Event) (a : Answer)
    → Does e (after_all d.inputs m) a mid new → CallsAtMost (most_calls e a) mid new → Drove m (events ++ e ∷ []) (given ++ a ∷ []) old new
does_one_more m events given old mid new d e a does calls =
    let i : Input = (e, does.fault) in
    record {
      inputs = d.inputs ++ i ∷ [];
      are_these = map-append (λ (i : Input). i.0) d.inputs (i ∷ []) ∙ ap (λ l. l ++ e ∷ []) d.are_these;
      faults = omega (arith, d.faults, met_counts does.fault a mid new does.met, faults_one_more d.inputs e does.fault);
      met = met_one_more m d.inputs given old mid new i a d.met does.met calls does.stands;
      same_answers = rw (d.same_answers, does.answers, answers_one_more d.inputs i m) refl;
      stands = rw (after_one_more d.inputs i m) does.stands;
      reported = reported_one_more d.inputs i m d.reported does.reports;
    }

-- A channel reacts to an event with this answer, as each machine does that it stands for, and calls its stores no more often than the
-- event may.
pub record Reacts (e : Event) (a : Answer) (old new : ChannelState) : Type 0 where
  pub does : (now : Machine) → StandsFor old now → Does e now a old new
  pub calls : CallsAtMost (most_calls e a) old new

-- one event more; it names the channel before, between and behind, since it joins a list of events and that one
pub drove_one_more : (m : Machine) (events : List Event) (given : List Answer) (old mid new : ChannelState) (e : Event) (a : Answer)
    → Reacts e a mid new → Drove m events given old mid → Drove m (events ++ e ∷ []) (given ++ a ∷ []) old new
drove_one_more m events given old mid new e a reacts d =
    does_one_more m events given old mid new d e a (reacts.does (after_all d.inputs m) d.stands) reacts.calls

-- one event more of a list of a deck's events; it names the channel before, between and behind, since it joins the
-- events up to there and that one
pub goes_on : (m : Machine) (events : List deck_event.Event) (i : ℕ) (d : deck_event.Event) (given : List deck_answer.Answer)
    (old mid new : ChannelState) (a : deck_answer.Answer)
    → i < length events → Reacts (event_seen (get_or events i d)) (answer_seen a) mid new
    → Drove m (map event_seen (take i events)) (map answer_seen given) old mid
    → Drove m (map event_seen (take (i + 1) events)) (map answer_seen (given ++ a ∷ [])) old new
goes_on m events i d given old mid new a within reacts drove =
    rw (map_more event_seen events i d within, map-append) (drove_one_more m _ _ old mid new _ _ reacts drove)

-- where no fault is met, the events come without faults
none_met : (es : List Input) → faults_in es ≡ 0 → es ≡ plain (map (λ i. i.0) es)
none_met [] h = refl
none_met ((e, None) ∷ es) h = ap (λ l. (e, None) ∷ l) (none_met es h)
none_met ((e, Some x) ∷ es) h = absurd (omega (arith, h))

are_plain : (m : Machine) (events : List Event) (given : List Answer) (old new : ChannelState) (d : Drove m events given old new)
    → failures_of new ≡ failures_of old → d.inputs ≡ plain events
are_plain m events given old new d same =
    rw d.are_these at (none_met d.inputs (omega (arith, d.faults, same)))

-- what follows from it
pub drove_follows : (m : Machine) (events : List Event) (given : List Answer) (old new : ChannelState) → StandsFor old m
    → Drove m events given old new → Follows m events given old new
drove_follows m events given old new stands d = record {
  inputs = d.inputs;
  are_these = d.are_these;
  faults = d.faults;
  met = d.met;
  lasting = along (λ u. u.drive.image.lasting) (λ most a b c. c.lasting) m d.inputs given old new d.met;
  geometries = along (λ u. u.drive.image.geometry) (λ most a b c. c.geometries) m d.inputs given old new d.met;
  same_answers = d.same_answers;
  stands = d.stands;
  reported = d.reported;
  headline = headline m d.inputs stands.sound;
  without_faults = λ same.
      let plainly = are_plain m events given old new d same in
      record {
        same_answers = d.same_answers ∙ ap (λ es. answers es m) plainly;
        stands = subst (λ es. StandsFor new (after_all es m)) plainly d.stands;
        is_serial = (headline m (plain events) stands.sound).is_serial (plain events) [] (sym (append-nil (plain events)));
      };
}

-- room for the answers that are left
pub room_for_one : {A : Type 0} (answers room i : ℕ) (events : List A) → i < length events → answers + length (drop i events) ≤ room
    → answers < room
room_for_one answers room i events within h = omega (arith, length-drop i events, within, h)

pub room_for_others : {A : Type 0} (answers room more i : ℕ) (events : List A) → i < length events → answers + length (drop i events) ≤ room
    → room ≤ more → answers + 1 + length (drop (i + 1) events) ≤ more
room_for_others answers room more i events within h grows =
    omega (arith, length-drop i events, length-drop (i + 1) events, within, h, grows)

pub take_past : {A : Type 0} (i : ℕ) (xs : List A) → length xs ≤ i → take i xs ≡ xs
take_past i xs h = take_all i xs h

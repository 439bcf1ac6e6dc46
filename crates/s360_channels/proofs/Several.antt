-- Calls at several channels: what they are to one of them.
use Rattle.std.proofs.Common.{◌≡◌, ℕ, zero, suc, ◌+◌, ◌*◌, ◌==◌, ◌++◌, refl, sym, ap, ◌∙◌, subst, true, false, Bool, cond, length, List, []}
use Rattle.std.proofs.Common.{◌∷◌, Option, Some, None, inl, inr}
use Rattle.std.proofs.lemmas.Bool.{eq-eqb, eqb-true}
use Rattle.std.proofs.lemmas.List.{append-nil, get_or-set_other}
use Rattle.std.specs.Prelude.{option_map, slice_index_or, slice_set}
use Rattle.s360_words.specs.Storage.{Storage}
use Rattle.s360_laws.specs.Events.{Answer, Event, Exchange, FaultAfter, Input, SetKey, Store}
use Rattle.s360_laws.specs.Machine.{Machine, after_all, exchanges, plain, react}
use Rattle.s360_laws.proofs.Headlines.{headline}
use Rattle.s360_channel.specs.Calls.{Does}
use Rattle.s360_channel.specs.Channel.{ChannelState, StandsFor}
use Rattle.s360_channel.specs.Selector.{SelectorState, over}
use Rattle.s360_channel.specs.Shares.{IsAsLarge, all_stored, finding, keys_set, with_storage}
use Rattle.s360_channel.proofs.Kept.{finds_another}
use Rattle.attached_drives.proofs.Places.{inside, none_is_some}
use Rattle.s360_channel.proofs.Quiet.{quiet_does}
use Rattle.s360_channels.specs.Channels.{Calls, ChannelsState, OnChannel, OnFound, channel_at, selector_at}
use Rattle.s360_channels.specs.Several.{AllMade, AtChannel, ByProcessor, Call, Course, Happens, HeadlineOfEach, OwnCall, add_call, asked}
use Rattle.s360_channels.specs.Several.{behind, inputs_of, is_store, told, own_calls}
use Rattle.s360_channels.proofs.Changes.{changed_size}

-- Lists of inputs.

after_more : (xs ys : List Input) (m : Machine) → after_all (xs ++ ys) m ≡ after_all ys (after_all xs m)
after_more [] ys m = refl
after_more (x ∷ xs) ys m = after_more xs ys (react x.0 x.1 m).1

exchanges_more : (xs ys : List Input) (m : Machine) → exchanges (xs ++ ys) m ≡ exchanges xs m ++ exchanges ys (after_all xs m)
exchanges_more [] ys m = refl
exchanges_more (x ∷ xs) ys m = ap (λ l. (x.0, x.1, (react x.0 x.1 m).0) ∷ l) (exchanges_more xs ys (react x.0 x.1 m).1)

-- What the processor stores is not told.
told_keys : (block : ℕ) (keys : List ℕ) (m : Machine) (rest : List Exchange) → told (exchanges (plain (keys_set block keys)) m ++ rest)
    ≡ told rest
told_keys block [] m rest = refl
told_keys block (key ∷ keys) m rest = told_keys (block + 1) keys (react (SetKey (2048 * block) key) None m).1 rest

told_stores : (s : Storage) (m : Machine) (rest : List Exchange) → told (exchanges (plain (all_stored s)) m ++ rest) ≡ told rest
told_stores s m rest = told_keys 0 s.keys (react (Store 0 s.bytes) None m).1 rest

told_found : (s : Storage) (is : List Input) (m : Machine) → told (exchanges (plain (all_stored s) ++ is) m)
    ≡ told (exchanges is (finding s m))
told_found s is m = ap told (exchanges_more (plain (all_stored s)) is m) ∙ told_stores s m (exchanges is (finding s m))

-- Channels in the list.

are_other : (n k : ℕ) → (n == k) ≡ false → k ≡ n → ⊥
are_other n k f e = no (sym f ∙ eq-eqb n k (sym e))
  where
    no : false ≡ true → ⊥
    no h = cc

-- the channel with a number, in a list in which it was put
is_set : (cs : List (Option SelectorState)) (n : ℕ) (c : SelectorState) (x : Option SelectorState) → slice_index_or cs n None ≡ Some c
    → slice_index_or (slice_set cs n x) n None ≡ x
is_set [] n c x e = none_is_some e
is_set (d ∷ cs) zero c x e = refl
is_set (d ∷ cs) (suc n) c x e = is_set cs n c x e

-- a channel over a storage is one of the list
seen_over : (o : Option SelectorState) (s : Storage) (c : ChannelState) → option_map (λ d. over d s) o ≡ Some c → (d : SelectorState)
    × (o ≡ Some d) × (over d s ≡ c)
seen_over None s c e = none_is_some e
seen_over (Some d) s c e = (d, refl, inside (over d s) c e)

-- An event, whether it calls a store or not.
happens_does : (e : Event) (answer : Answer) (old new : ChannelState) → Happens e answer old new → (m : Machine) → StandsFor old m
    → Does e m answer old new
happens_does e answer old new (inl q) m t = quiet_does e m answer old new t (q.does m t) q.calls
happens_does e answer old new (inr q) m t = q.1.does m t

-- From a moment on: what these calls of one channel are to it, where the channels are these behind all.
pub record Along (number : ℕ) (m : Machine) (last : ChannelsState) (its : List OwnCall) : Type 0 where
  pub faults : List (Option FaultAfter)
  pub as_many : length faults ≡ length its
  pub same_answers : told (exchanges (inputs_of its faults last.storage) m) ≡ asked its
  pub channel : ChannelState
  pub is_there : channel_at number last ≡ Some channel
  pub stands : StandsFor (with_storage channel last.storage) (after_all (inputs_of its faults last.storage) m)

-- A storage is as large as the one for which the channel last stood for a machine, and has a key for each block.

large_kept : (s t u : Storage) → IsAsLarge s t → length u.bytes ≡ length s.bytes → length u.keys ≡ length s.keys → IsAsLarge u t
large_kept s t u h b k = record { bytes = b ∙ h.bytes; keys = k ∙ h.keys; blocks = b ∙ (h.blocks ∙ ap (λ n. 2048 * n) (sym k)) }

large_self : (s t u : Storage) → IsAsLarge s t → length u.bytes ≡ length s.bytes → length u.keys ≡ length s.keys → IsAsLarge u u
large_self s t u h b k = record { bytes = refl; keys = refl; blocks = b ∙ (h.blocks ∙ ap (λ n. 2048 * n) (sym k)) }

module _ (number : ℕ) where
  none_left : (old : ChannelsState) (s : Storage) (c : SelectorState) (m : Machine) → IsAsLarge old.storage s
      → selector_at number old ≡ Some c → StandsFor (over c s) m → Along number m old []
  none_left old s c m large there stands = record {
    faults = [];
    as_many = refl;
    same_answers = ap (λ is. told (exchanges is m)) (sym (append-nil (plain (all_stored old.storage)))) ∙ told_found old.storage [] m;
    channel = over c old.storage;
    is_there = ap (option_map (λ c. over c old.storage)) there;
    stands = finds_another (over c s) m old.storage large stands;
  }

  -- a call of the channel itself, and what comes behind it
  own : (e : Event) (answer : Answer) (old last : ChannelsState) (m : Machine) (x : Option FaultAfter) (its : List OwnCall)
      → is_store e ≡ false → answer ≡ (react e x (finding old.storage m)).0
      → Along number (react e x (finding old.storage m)).1 last its → Along number m last (record {
        storage = old.storage;
        event =
            e;
        answer = answer;
      } ∷ its)
  own e answer old last m x its asks answers a =
      let found = finding old.storage m in
      let is = inputs_of its a.faults last.storage in
      let r = react e x found in
      record {
        faults = x ∷ a.faults;
        as_many = ap suc a.as_many;
        same_answers =
            told_found old.storage ((e, x) ∷ is) m
            ∙ (ap (λ b. cond b (told (exchanges is r.1)) ((e, r.0) ∷ told (exchanges is r.1))) asks
            ∙ (ap (λ answer. (e, answer) ∷ told (exchanges is r.1)) (sym answers)
            ∙ ap (λ l. (e, answer) ∷ l) a.same_answers));
        channel = a.channel;
        is_there = a.is_there;
        stands = subst (StandsFor (with_storage a.channel last.storage)) (sym (after_more (plain (all_stored old.storage)) ((e, x) ∷ is) m))
            a.stands;
      }

  -- what the calls from a moment on are, whichever channel has the shared storage then
  abbrev Goes : Course → Type 0
  Goes calls = (old : ChannelsState) (s : Storage) (c : SelectorState) (m : Machine) → IsAsLarge old.storage s
      → selector_at number old ≡ Some c → StandsFor (over c s) m → AllMade old calls
      → Along number m (behind old calls) (own_calls number old calls)

  mine : (n : ℕ) (e : Event) (answer : Answer) (next : ChannelsState) (calls : Course) → Goes calls → n ≡ number
      → (old : ChannelsState) (s : Storage) (c : SelectorState) (m : Machine) → IsAsLarge old.storage s
      → selector_at number old ≡ Some c → StandsFor (over c s) m → is_store e ≡ false → OnChannel n (Happens e answer) (Unit {0}) old next
      → AllMade next calls
      → Along number m (behind next calls) (record { storage = old.storage; event = e; answer = answer } ∷ own_calls number next calls)
  mine n e answer next calls goes is old s c m large there stands asks h rest =
      let k : Calls number (Happens e answer) c old next = subst (λ o. OnFound o number (Happens e answer) (Unit {0}) old next) there
      (subst (λ n. OnChannel n (Happens e answer) (Unit {0}) old next) is h) in
      let found = finds_another (over c s) m old.storage large stands in
      let d = happens_does e answer (over c old.storage) (over k.after next.storage) k.how (finding old.storage m) found in
      own e answer old (behind next calls) m d.fault (own_calls number next calls) asks d.answers
      (goes next next.storage k.after (react e d.fault (finding old.storage m)).1
      (large_self old.storage s next.storage large k.bytes k.keys)
      (ap (λ cs. slice_index_or cs number None) k.others_stay ∙ is_set old.channels number c (Some k.after) there)
      d.stands rest)

  others : (n : ℕ) (e : Event) (answer : Answer) (next : ChannelsState) (calls : Course) → Goes calls → (number ≡ n → ⊥)
      → (old : ChannelsState) (s : Storage) (c : SelectorState) (m : Machine) → IsAsLarge old.storage s
      → selector_at number old ≡ Some c → StandsFor (over c s) m → (o : Option SelectorState)
      → OnFound o n (Happens e answer) (Unit {0}) old next → AllMade next calls
      → Along number m (behind next calls) (own_calls number next calls)
  others n e answer next calls goes other old s c m large there stands None h rest =
      goes next s c m (subst (λ (t : ChannelsState). IsAsLarge t.storage s) (sym h.1) large) (ap (selector_at number) h.1
      ∙ there) stands rest
  others n e answer next calls goes other old s c m large there stands (Some d) h rest =
      goes next s c m (large_kept old.storage s next.storage large h.bytes h.keys)
      (ap (λ cs. slice_index_or cs number None) h.others_stay ∙ (get_or-set_other old.channels n number (Some h.after) None other
      ∙ there)) stands rest

  -- one call, and what comes behind it
  one_more : (call : Call) (next : ChannelsState) (calls : Course) → Goes calls → Goes ((call, next) ∷ calls)
  one_more (AtChannel n e answer) next calls goes old s c m large there stands h = go (n == number) refl
    where
      one : OwnCall
      one = record { storage = old.storage; event = e; answer = answer }

      go : (b : Bool) → (n == number) ≡ b → Along number m (behind next calls) (add_call (cond (n == number) (Some one) None)
          (own_calls number next calls))
      go true is = subst (λ b. Along number m (behind next calls) (add_call (cond b (Some one) None) (own_calls number next calls)))
          (sym is)
          (mine n e answer next calls goes (eqb-true n number is) old s c m large there stands h.0.0 h.0.1 h.1)
      go false is = subst (λ b. Along number m (behind next calls) (add_call (cond b (Some one) None) (own_calls number next calls)))
          (sym is)
          (others n e answer next calls goes (are_other n number is) old s c m large there stands (selector_at n old) h.0.1 h.1)
  one_more (ByProcessor change) next calls goes old s c m large there stands h =
      let size = changed_size change old.storage in
      let same = h.0.1 in
      goes next s c m (large_kept old.storage s next.storage large (ap (λ (s : Storage). length s.bytes) same
      ∙ size.0) (ap (λ (s : Storage). length s.keys) same ∙ size.1))
      (ap (λ cs. slice_index_or cs number None) h.0.0 ∙ there) stands h.1

  along : (calls : Course) → Goes calls
  along [] old s c m large there stands h = none_left old s c m large there stands
  along (made ∷ calls) old s c m large there stands h = one_more made.0 made.1 calls (along calls) old s c m large there stands h

pub headline_of_each : HeadlineOfEach
headline_of_each number old calls c m whole there stands h =
    let d = seen_over (selector_at number old) old.storage c there in
    let a = along number calls old old.storage d.0 m (record { bytes = refl; keys = refl; blocks = whole }) d.1
    (subst (λ c. StandsFor (with_storage c old.storage) m) (sym d.2) stands) h in
    let inputs = inputs_of (own_calls number old calls) a.faults (behind old calls).storage in
    record {
      faults = a.faults;
      inputs = inputs;
      are_these = refl;
      as_many = a.as_many;
      same_answers = a.same_answers;
      channel = a.channel;
      is_there = a.is_there;
      stands = a.stands;
      headline = headline m inputs stands.sound;
    }

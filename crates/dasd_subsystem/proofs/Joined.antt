-- Calls at one of several channels, one behind another.
use Rattle.std.proofs.Common.{◌≡◌, ◌∙◌, ℕ, zero, suc, refl, ap, subst, List, [], ◌∷◌, Option, Some, None}
use Rattle.std.specs.Prelude.{option_map, slice_set}
use Rattle.s360_channel.specs.Channel.{ChannelState}
use Rattle.s360_channel.specs.Selector.{SelectorState, over}
use Rattle.s360_channels.specs.Channels.{Calls, ChannelsState, OnChannel, OnFound, channel_at, numbered, selector_at}

-- Channels in the list.

pub none_is_some : {A : Type 0} (a : A) → ◌≡◌ {A = Option A} None (Some a) → ⊥
none_is_some a h = cc

-- the channel with a number, where it was put
is_set : (cs : List (Option SelectorState)) (n : ℕ) (c : SelectorState) (x : Option SelectorState) → numbered n cs ≡ Some c
    → numbered n (slice_set cs n x) ≡ x
is_set [] n c x e = absurd (none_is_some c e)
is_set (d ∷ cs) zero c x e = refl
is_set (d ∷ cs) (suc n) c x e = is_set cs n c x e

-- it is put where it is
set_same : (cs : List (Option SelectorState)) (n : ℕ) (c : SelectorState) → numbered n cs ≡ Some c → cs ≡ slice_set cs n (Some c)
set_same [] n c e = absurd (none_is_some c e)
set_same (d ∷ cs) zero c e = ap (λ d. d ∷ cs) e
set_same (d ∷ cs) (suc n) c e = ap (λ r. d ∷ r) (set_same cs n c e)

-- it is put twice
set_twice : (cs : List (Option SelectorState)) (n : ℕ) (x y : Option SelectorState) → slice_set (slice_set cs n x) n y ≡ slice_set cs n y
set_twice [] n x y = refl
set_twice (d ∷ cs) zero x y = refl
set_twice (d ∷ cs) (suc n) x y = ap (λ r. d ∷ r) (set_twice cs n x y)

-- One call.

-- the channel that was called is there behind it
stays_there : (number : ℕ) (How : ChannelState → ChannelState → Type 0) (before : SelectorState) (old new : ChannelsState)
    → selector_at number old ≡ Some before → (h : Calls number How before old new) → selector_at number new ≡ Some h.after
stays_there number How before old new is h = ap (numbered number) h.others_stay ∙ is_set old.channels number before (Some h.after) is

-- What a call of a channel does, told in other words, by what the channel is before it and behind it.
pub told : (number : ℕ) (How Other : ChannelState → ChannelState → Type 0) (Missing Lacking : Type 0) (old new : ChannelsState)
    → ((c d : ChannelState) → channel_at number new ≡ Some d → d.storage ≡ new.storage → How c d → Other c d) → (Missing → Lacking)
    → OnChannel number How Missing old new → OnChannel number Other Lacking old new
told number How Other Missing Lacking old new does misses h = go (selector_at number old) refl h
  where
    go : (o : Option SelectorState) → selector_at number old ≡ o → OnFound o number How Missing old new
        → OnFound o number Other Lacking old new
    go None is h = (misses h.0, h.1)
    go (Some c) is h = record {
      after = h.after;
      how = does (over c old.storage) (over h.after new.storage)
          (ap (option_map (λ c. over c new.storage)) (stays_there number How c old new is h)) refl h.how;
      same = h.same;
      others_stay = h.others_stay;
      bytes = h.bytes;
      keys = h.keys;
    }

-- Nothing is called, and the channel stays, or there is none.
pub at_rest : (number : ℕ) (How : ChannelState → ChannelState → Type 0) (Missing : Type 0) (s : ChannelsState)
    → ((c : ChannelState) → channel_at number s ≡ Some c → c.storage ≡ s.storage → How c c) → (channel_at number s ≡ None → Missing)
    → OnChannel number How Missing s s
at_rest number How Missing s how missing = go (selector_at number s) refl
  where
    go : (o : Option SelectorState) → selector_at number s ≡ o → OnFound o number How Missing s s
    go None is = (missing (ap (option_map (λ c. over c s.storage)) is), refl)
    go (Some c) is = record {
      after = c;
      how = how (over c s.storage) (ap (option_map (λ c. over c s.storage)) is) refl;
      same = record { number = refl; size = refl };
      others_stay = set_same s.channels number c is;
      bytes = refl;
      keys = refl;
    }

-- A call and another one behind it, of a channel that is there.
module _ (number : ℕ) (old mid new : ChannelsState) where
  pub joined : (How Then Whole : ChannelState → ChannelState → Type 0) (Missing : Type 0)
      → ((b c d : ChannelState) → How b c → Then c d → Whole b d) → OnChannel number How ⊥ old mid → OnChannel number Then Missing mid new
      → OnChannel number Whole ⊥ old new
  joined How Then Whole Missing both h k = go (selector_at number old) refl h
    where
      go : (o : Option SelectorState) → selector_at number old ≡ o → OnFound o number How ⊥ old mid → OnFound o number Whole ⊥ old new
      go None is h = absurd h.0
      go (Some c) is h =
          let then : Calls number Then h.after mid new =
          subst (λ o. OnFound o number Then Missing mid new) (stays_there number How c old mid is h) k in
          record {
            after = then.after;
            how = both (over c old.storage) (over h.after mid.storage) (over then.after new.storage) h.how then.how;
            same = record { number = then.same.number ∙ h.same.number; size = then.same.size ∙ h.same.size };
            others_stay = then.others_stay ∙ ap (λ cs. slice_set cs number (Some then.after)) h.others_stay
                ∙ set_twice old.channels number (Some h.after) (Some then.after);
            bytes = then.bytes ∙ h.bytes;
            keys = then.keys ∙ h.keys;
          }

-- What a call at one of several channels does, told in other words.
use Rattle.std.proofs.Common.{◌≡◌, ap, arith, refl, sym, ◌∙◌, subst, ℕ, Option, Some, None}
use Rattle.std.specs.Prelude.{ℤ, pos}
use Rattle.s360_laws.specs.Seen.{condition_seen}
use Rattle.s360_laws.specs.declared.status.Condition.{Condition}
use Rattle.s360_laws.specs.declared.status.Condition.TheVariants as condition
use Rattle.s360_words.specs.declared.words.Csw.{Csw}
use Rattle.s360_laws.specs.Events.{Answer, Interrupted}
use Rattle.subsystem_calls.specs.Codes.{address_from, code_of}
use Rattle.s360_channel.specs.Channel.{ChannelState}
use Rattle.s360_channel.specs.Selector.{SelectorState}
use Rattle.s360_channels.specs.Channels.{ChannelsState, OnChannel, OnFound, selector_at}

module _ (How Other : ChannelState → ChannelState → Type 0) (Missing Lacking : Type 0) (number : ℕ) (old new : ChannelsState)
    (does : (c d : ChannelState) → How c d → Other c d) (misses : Missing → Lacking) where
  found : (o : Option SelectorState) → OnFound o number How Missing old new → OnFound o number Other Lacking old new
  found None h = (misses h.0, h.1)
  found (Some c) h = record {
    after = h.after;
    how = does _ _ h.how;
    same = h.same;
    others_stay = h.others_stay;
    bytes = h.bytes;
    keys = h.keys;
  }

  pub told : OnChannel number How Missing old new → OnChannel number Other Lacking old new
  told h = found (selector_at number old) h

pub not_both : {A : Type 0} (a : A) → ◌≡◌ {A = Option A} (Some a) None → ⊥
not_both a h = cc

-- An answer that is there only where the channel is: what it was, and that there was none.
module _ {A : Type 0} (To : Option A → ChannelState → ChannelState → Type 0) (number : ℕ) (old new : ChannelsState) where
  pub there : (Other : ChannelState → ChannelState → Type 0) (Lacking : Type 0) (r : Option A) (a : A) → r ≡ Some a
      → ((c d : ChannelState) → To (Some a) c d → Other c d) → OnChannel number (To r) (r ≡ None) old new
      → OnChannel number Other Lacking old new
  there Other Lacking r a is does h =
      told (To (Some a)) Other (◌≡◌ {A = Option A} (Some a) None) Lacking number old new does (λ e. absurd (not_both a e))
      (subst (λ (r : Option A). OnChannel number (To r) (r ≡ None) old new) is h)

  pub nobody : (Other : ChannelState → ChannelState → Type 0) (Lacking : Type 0) (r : Option A) → r ≡ None
      → ((c d : ChannelState) → To None c d → ⊥)
      → Lacking → OnChannel number (To r) (r ≡ None) old new → OnChannel number Other Lacking old new
  nobody Other Lacking r is none lacks h =
      told (To None) Other (◌≡◌ {A = Option A} None None) Lacking number old new (λ c d h. absurd (none c d h)) (λ e. lacks)
      (subst (λ (r : Option A). OnChannel number (To r) (r ≡ None) old new) is h)

-- C is told 3 where condition code 3 was answered, and nowhere else.
abbrev size_of : ℤ → ℕ
size_of (pos n) = n
size_of z = 0

module _ {A : Type 0} (seen : A → Answer) (stored : (a : A) → code_of (seen a) ≡ pos 1) where
  pub is_three : (r : Condition A) → code_of (condition_seen seen r) ≡ pos 3 → r ≡ condition.Three
  is_three condition.Zero h = absurd (omega (arith, ap size_of h))
  is_three (condition.Stored a) h = absurd (omega (arith, ap size_of (sym (stored a) ∙ h)))
  is_three condition.Two h = absurd (omega (arith, ap size_of h))
  is_three condition.Three h = refl

-- without an interruption its address is not told
pub untold : (taken : Option (ℕ × Csw)) (before : ℕ) {code : ℤ} → code ≡ code_of (Interrupted taken) → (code ≡ pos 1 → ⊥)
    → address_from (Interrupted taken) before ≡ before
untold None before told h = refl
untold (Some i) before told h = absurd (h told)

-- That no interruption pends, and what is known of it.
use Rattle.std.proofs.Common.{◌≡◌, ◌<◌, ℕ, zero, suc, refl, subst, arith, Bool, true, false, length, List, [], ◌∷◌, Option, Some, None}
use Rattle.std.proofs.lemmas.Bool.{ltb-true}
use Rattle.std.specs.Prelude.{◌&&◌, nat_lt, not, option_map, slice_index_or}
use Rattle.s360_words.specs.Storage.{Storage}
use Rattle.s360_channel.specs.Selector.{SelectorState, over}
use Rattle.attached_drives.proofs.Places.{none_is_some}
use Rattle.s360_channels.specs.Asked.{InterruptsAt}
use Rattle.s360_channels.specs.Channels.{channel_at, numbered}
use Rattle.s360_channels.specs.Inside.{AllFit, NonePends, PendsAt}
use Rattle.s360_channels.specs.Interrupting.{FirstPending, is_open}
use Rattle.s360_channels.specs.Selectors.{SelectorsState, across}

-- What is so of a channel whatever the storage is, is so over the shared one.
pub pends_here : (answer : Bool) (number : ℕ) (v : SelectorsState) (s : Storage) → PendsAt answer (numbered number v.channels)
    → InterruptsAt answer s (channel_at number (across v s))
pends_here answer number v s h = go (numbered number v.channels) h
  where
    go : (o : Option SelectorState) → PendsAt answer o → InterruptsAt answer s (option_map (λ c. over c s) o)
    go None h = h
    go (Some c) h = h s

-- what is seen of a channel that does not pend
pub not_pending : (pending : Bool) → not pending ≡ true → false ≡ pending
not_pending true h = absurd (cc)
not_pending false h = refl

-- the mask is open for channels alone
pub open_below : (mask number : ℕ) → is_open mask number ≡ true → number < 7
open_below mask number h = ltb-true number 7 (first_of (nat_lt number 7) _ h)
  where
    first_of : (a b : Bool) → (a && b) ≡ true → a ≡ true
    first_of true b h = refl
    first_of false b h = absurd (cc)

-- Where it is known of all channels that nothing pends, none is the first one
pub none_first : {size : ℕ} {quiet : Bool} {cs : List (Option SelectorState)} {v : SelectorsState} (mask : ℕ) (s : Storage)
    → record { size = size; channels = cs } ≡ v
    → AllFit size quiet cs → quiet ≡ true → FirstPending mask (across v s) None
none_first {size} {quiet} {cs} {v} mask s view h q =
    subst (λ v. FirstPending mask (across v s) None) view (λ number asked. pends_here false number (record { size = size; channels = cs }) s
    (go number (numbered number cs) refl))
  where
    go : (number : ℕ) (o : Option SelectorState) → numbered number cs ≡ o → PendsAt false o
    go number None e = refl
    go number (Some c) e = (h.fit number c e).silent q

within : (cs : List (Option SelectorState)) (n : ℕ) (c : SelectorState) → slice_index_or cs n None ≡ Some c → n < length cs
within [] n c e = none_is_some e
within (d ∷ cs) zero c e = omega arith
within (d ∷ cs) (suc n) c e = let l = within cs n c e in omega (arith, l)

-- all fit still, where now it is known that nothing pends
pub fit_quiet : (size : ℕ) (was quiet : Bool) (cs : List (Option SelectorState)) → AllFit size was cs → (quiet ≡ true → NonePends cs)
    → AllFit size quiet cs
fit_quiet size was quiet cs h none = record {
  seven = h.seven;
  fit = λ number c e. let d = h.fit number c e in record {
    own_number = d.own_number;
    as_large = d.as_large;
    is_selector = d.is_selector;
    silent = λ q. subst (PendsAt false) e (none q number (subst (λ k. number < k) h.seven (within cs number c e)));
  };
}

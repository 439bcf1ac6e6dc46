-- A channel at the place of its number, and the list of channels behind a call of it.
use Rattle.std.proofs.Common.{◌≡◌, ◌<◌, ◌≤◌, ◌⊎◌, inl, inr, ℕ, zero, suc, refl, sym, ap, ◌∙◌, subst, arith, true, false, Bool, length, ◌++◌}
use Rattle.std.proofs.Common.{replicate, ◌/◌, List, [], ◌∷◌, Option, Some, None}
use Rattle.std.proofs.lemmas.Bool.{cases_eq}
use Rattle.std.proofs.lemmas.List.{get_or_default, get_or_past, get_or-set_other, length-replicate, length-set}
use Rattle.std.specs.Prelude.{option_map, slice_index_or, slice_set}
use Rattle.s360_words.specs.Storage.{Storage, cleared, is_size}
use Rattle.ckd_image.specs.Image.{ImageState}
use Rattle.s360_storage.specs.Kept.{KeepsStorage}
use Rattle.s360_laws.specs.Events.{Event, Answer}
use Rattle.s360_laws.specs.Machine as machine
use Rattle.s360_laws.specs.Machine.{Machine, react}
use Rattle.s360_channel.specs.Calls.{Does, DoesQuietly}
use Rattle.s360_channel.specs.Attaches.{NotRefused}
use Rattle.s360_channel.specs.Channel.{ChannelState, IsChannel, StandsFor}
use Rattle.attached_drives.specs.Drives.{AttachedState, new_attached}
use Rattle.s360_channel.specs.declared.subchannel.Subchannel.TheVariants.{Idle}
use Rattle.s360_channel.specs.Selector.{IsSelector, KeepsSelector, SelectorState, over}
use Rattle.attached_drives.proofs.Places.{inside, none_is_some}
use Rattle.s360_channel.proofs.Selecting.{is_over, still_over, still_selector}
use Rattle.s360_channels.specs.Adding.{AttachesAt, AttachesTo}
use Rattle.s360_channels.specs.Channels.{OnChannel, OnFound, channel_at, numbered}
use Rattle.s360_channels.specs.Ending.{Ends, Parts, RemovesAt, RemovesFound}
use Rattle.s360_channels.specs.Inside.{AllFit, Fits, IsFound, IsPlace, PendsNot}
use Rattle.s360_channels.specs.Selectors.{AreOver, SelectorsState, across}

-- Lists of channels.

-- what stands at a place where something was put
set_at : (cs : List (Option SelectorState)) (n : ℕ) (x : Option SelectorState) (c : SelectorState)
    → slice_index_or (slice_set cs n x) n None ≡ Some c → x ≡ Some c
set_at [] n x c e = none_is_some e
set_at (d ∷ cs) zero x c e = e
set_at (d ∷ cs) (suc n) x c e = set_at cs n x c e

nobody : (n k : ℕ) (c : SelectorState) → slice_index_or (replicate n None) k None ≡ Some c → ⊥
nobody zero k c e = none_is_some e
nobody (suc n) zero c e = none_is_some e
nobody (suc n) (suc k) c e = nobody n k c e

pub none_fit : (size : ℕ) (quiet : Bool) → AllFit size quiet (replicate 7 None)
none_fit size quiet = record { seven = refl; fit = λ n c e. absurd (nobody 7 n c e) }

-- all fit where what is put at a place does
pub fit_set : (size : ℕ) (was quiet : Bool) (cs : List (Option SelectorState)) (n : ℕ) (x : Option SelectorState) → AllFit size was cs
    → (quiet ≡ true → was ≡ true)
    → ((c : SelectorState) → x ≡ Some c → Fits n size quiet c) → AllFit size quiet (slice_set cs n x)
fit_set size was quiet cs n x h still f = record { seven = length-set cs n x ∙ h.seven; fit = λ k c e. go k c e (cases_eq k n) }
  where
    go : (k : ℕ) (c : SelectorState) → slice_index_or (slice_set cs n x) k None ≡ Some c → (k ≡ n) ⊎ (k ≡ n → ⊥) → Fits k size quiet c
    go k c e (inl same) =
        subst (λ k. Fits k size quiet c) (sym same)
        (f c (set_at cs n x c (subst (λ k. slice_index_or (slice_set cs n x) k None ≡ Some c) same e)))
    go k c e (inr other) =
        let d = h.fit k c (sym (get_or-set_other cs n k x None other) ∙ e) in
        record { own_number = d.own_number; as_large = d.as_large; is_selector = d.is_selector; silent = λ q. d.silent (still q) }

-- it is not known of them that nothing pends
pub loud : {A : Type 0} → false ≡ true → A
loud e = absurd (cc)

-- The channel with a number.

pub found_at : {quiet : Bool} (number size : ℕ) (s : Storage) (a : ℕ) (cs : List (Option SelectorState)) (c : SelectorState)
    → AllFit size quiet cs → a ≡ length s.bytes
    → (is_size a ≡ true) × (length s.keys ≡ a / 2048) → length s.bytes ≡ size → numbered number cs ≡ Some c → IsFound number c s
found_at {quiet} number size s a cs c h e (z, k) large there =
    let f = h.fit number c there in
    record { own_number = f.own_number; is_over = is_over c s a f.is_selector e z k (large ∙ sym f.as_large) }

-- none stands past the seven
pub none_beyond : {quiet : Bool} (size number : ℕ) (cs : List (Option SelectorState)) → AllFit size quiet cs → 7 ≤ number
    → numbered number cs ≡ None
none_beyond {quiet} size number cs h few = get_or_past cs number None (subst (λ n. n ≤ number) (sym h.seven) few)

-- A channel that a call has found in the list.
pub record Here (number place size : ℕ) (quiet : Bool) (cs : List (Option SelectorState)) (c : SelectorState) : Type 0 where
  pub fit : AllFit size quiet cs
  pub same : place ≡ number
  pub is_there : numbered number cs ≡ Some c
  pub fits : Fits number size quiet c

pub here : {number place size : ℕ} {quiet : Bool} {cs : List (Option SelectorState)} {c : SelectorState} (r : Option SelectorState)
    → IsPlace number place → AllFit size quiet cs → slice_index_or cs place r ≡ Some c → Here number place size quiet cs c
here {number} {place} {size} {quiet} {cs} {c} r p fit is =
    let there = subst (λ n. slice_index_or cs n None ≡ Some c) p.same (get_or_default cs place None r
    (subst (λ n. place < n) (sym fit.seven) p.within) ∙ is) in
    record { fit = fit; same = p.same; is_there = there; fits = fit.fit number c there }

-- what a call leaves is a selector: where it was lent a storage, and where it needs none
pub still_lent : {number : ℕ} {c c' : SelectorState} {s t : Storage} → IsFound number c s → KeepsSelector c c' → KeepsStorage s t
    → IsChannel (over c' t) → IsSelector c'
still_lent {number} {c} {c'} {s} {t} found same keeps is = still_selector c c' s t found.is_over same.size keeps is

module _ {number place size : ℕ} {was : Bool} {cs : List (Option SelectorState)} {c : SelectorState}
    (h : Here number place size was cs c) where
  -- it is over a storage that all are over
  pub lent : {v : SelectorsState} {s : Storage} → record { size = size; channels = cs } ≡ v → AreOver v s → IsFound number c s
  lent {v} {s} view over = subst (λ v. AreOver v s) (sym view) over number c h.is_there

  pub some_channel : IsChannel (over c h.fits.is_selector.storage)
  some_channel = h.fits.is_selector.is_over.channel

  pub still_alone : {c' : SelectorState} → KeepsSelector c c' → IsChannel (over c' h.fits.is_selector.storage) → IsSelector c'
  still_alone {c'} same is = still_over c c' h.fits.is_selector same.size is

  -- all fit behind a call of it
  pub fit_behind : {c' : SelectorState} {quiet : Bool} → KeepsSelector c c' → IsSelector c' → (quiet ≡ true → was ≡ true)
      → (quiet ≡ true → PendsNot c')
      → AllFit size quiet (slice_set cs place (Some c'))
  fit_behind {c'} {quiet} same is still silent =
      fit_set size was quiet cs place (Some c') h.fit still (λ d e. subst (Fits place size quiet) (inside c' d e)
      (record {
        own_number = same.number ∙ (h.fits.own_number ∙ sym h.same);
        as_large = same.size ∙ h.fits.as_large;
        is_selector =
            is;
        silent = silent;
      }))

  -- which is what it did to the channels
  pub calls_behind : (How : ChannelState → ChannelState → Type 0) (Missing : Type 0) {v : SelectorsState} {s t : Storage}
      {c' : SelectorState} → record { size = size; channels = cs } ≡ v
      → KeepsSelector c c' → KeepsStorage s t → How (over c s) (over c' t) → OnChannel number How Missing (across v s) (record {
        storage =
            t;
        channels = slice_set cs place (Some c');
      })
  calls_behind How Missing {v} {s} {t} {c'} view same keeps how =
      subst (λ v. OnChannel number How Missing (across v s) (record { storage = t; channels = slice_set cs place (Some c') })) view
      (subst (λ o. OnFound o number How Missing (record { storage = s; channels = cs }) (record {
        storage = t;
        channels =
            slice_set cs place (Some c');
      })) (sym h.is_there)
      (record {
        after = c';
        how = how;
        same = same;
        others_stay = ap (λ n. slice_set cs n (Some c')) h.same;
        bytes = keeps.size;
        keys =
            ap length keeps.keys;
      }))

  -- what is so of it over a storage is so of the channel with its number
  pub seen_here : (P : Option ChannelState → Storage → Type 0) {v : SelectorsState} {s : Storage} → record { size = size; channels = cs }
      ≡ v → P (Some (over c s)) s → P (channel_at number (across v s)) s
  seen_here P {v} {s} view x = subst (λ v. P (channel_at number (across v s)) s) view (subst (λ o. P (option_map (λ c. over c s) o) s)
      (sym h.is_there) x)

  -- a drive that was attached to it
  pub attached_behind : (device : ℕ) (image : ImageState) {v : SelectorsState} (s : Storage) {c' : SelectorState}
      → record { size = size; channels = cs } ≡ v
      → c' ≡ record c { drives = c.drives ++ new_attached device image ∷ [] } → NotRefused device (over c s)
      → AttachesAt number device image (across v s) (record { storage = s; channels = slice_set cs place (Some c') })
  attached_behind device image {v} s {c'} view is not =
      subst (λ v. AttachesAt number device image (across v s) (record { storage = s; channels = slice_set cs place (Some c') })) view
      (subst (λ o. AttachesTo o number device image (record { storage = s; channels = cs }) (record {
        storage = s;
        channels =
            slice_set cs place (Some c');
      })) (sym h.is_there)
      (not, ap (λ n. slice_set cs n (Some c')) h.same ∙ ap (λ c. slice_set cs number (Some c)) is))

  -- and it may be taken away
  pub removed_behind : {parts : Parts} {v : SelectorsState} (s : Storage) {x : Option SelectorState} → record { size = size; channels = cs }
      ≡ v → x ≡ None → Ends (over c s) parts s
      → RemovesAt number (Some parts) (across v s) (record { storage = s; channels = slice_set cs place x })
  removed_behind {parts} {v} s {x} view none ends =
      subst (λ v. RemovesAt number (Some parts) (across v s) (record { storage = s; channels = slice_set cs place x })) view
      (subst (λ o. RemovesFound (option_map (λ c. over c s) o) number (Some parts) (record { storage = s; channels = cs })
      (record { storage = s; channels = slice_set cs place x })) (sym h.is_there)
      (record { ends = ends; others_stay = ap (λ n. slice_set cs n x) h.same ∙ ap (slice_set cs number) none }))

pub none_removed : (number : ℕ) (v : SelectorsState) (s : Storage) → numbered number v.channels ≡ None
    → RemovesAt number None (across v s) (across v s)
none_removed number v s e = subst (λ o. RemovesFound (option_map (λ c. over c s) o) number None (across v s) (across v s)) (sym e) (
  refl,
  refl,
)

-- A new channel fits.

few : 0 ≤ 8
few = omega arith

pub new_fits : (number size : ℕ) (c : SelectorState) → c ≡ record { number = number; size = size; subchannel = Idle; drives = [] }
    → number < 7 → Fits number size false c
new_fits number size c is h = subst (Fits number size false) (sym is) (record {
  own_number = refl;
  as_large = refl;
  is_selector = record {
    storage = cleared size;
    is_over = record {
      size = length-replicate size 0;
      keys = length-replicate (size / 2048) 0;
      channel = record {
        machine = record { channel = number; storage = cleared size; subchannel = machine.Idle; devices = [] };
        stands = record { number = h; few = few; shows = (refl, tt); sound = (tt, tt) };
      };
    };
  };
  silent = loud;
})

-- What is so of a channel that is lent is so of the one with its number.
pub shown : (P : Option ChannelState → Type 0) (number : ℕ) (v : SelectorsState) (s : Storage) (c : SelectorState)
    → Some c ≡ numbered number v.channels → P (Some (over c s)) → P (channel_at number (across v s))
shown P number v s c e h = subst (λ o. P (option_map (λ c. over c s) o)) e h

-- A call leaves a channel.

pub same_storage : (s : Storage) → KeepsStorage s s
same_storage s = record { size = refl; keys = refl }

pub keeps_selector : {c c' : SelectorState} {drives : List AttachedState} → c' ≡ record c { drives = drives } → KeepsSelector c c'
keeps_selector e = record { number = ap (λ (c : SelectorState). c.number) e; size = ap (λ (c : SelectorState). c.size) e }

pub quiet_channel : (e : Event) {answer : Answer} {old new : ChannelState} → IsChannel old → ((m : Machine) → StandsFor old m
    → DoesQuietly e m answer new) → IsChannel new
quiet_channel e k does = record { machine = (react e None k.machine).1; stands = (does k.machine k.stands).stands }

pub does_channel : (e : Event) {answer : Answer} {old new : ChannelState} → IsChannel old → ((m : Machine) → StandsFor old m
    → Does e m answer old new) → IsChannel new
does_channel e k does = let d = does k.machine k.stands in record { machine = (react e d.fault k.machine).1; stands = d.stands }

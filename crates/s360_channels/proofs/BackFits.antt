-- Channels that are put back as they were saved fit as before.
use Rattle.std.proofs.Common.{◌≡◌, ◌<◌, ℕ, zero, suc, ◌+◌, arith, take, ◌∙◌, ap, refl}
use Rattle.std.proofs.Common.{sym, subst, Bool, true, false, List, [], ◌∷◌, length, Option, Some, None}
use Rattle.std.specs.Prelude.{option_map, slice_index_or, slice_set}
use Rattle.s360_channel.specs.Saves.{put_back, why_not_back}
use Rattle.s360_channel.specs.Selector.{SelectorState}
use Rattle.s360_channel.specs.declared.saving.SavedChannel.{SavedChannel}
use Rattle.s360_channel.specs.declared.faults.SavedFault.{SavedFault as WhyElsewhere}
use Rattle.attached_drives.proofs.Places.{inside, none_is_some}
use Rattle.s360_channel.proofs.Saved.{selector_back}
use Rattle.s360_channels.specs.Channels.{numbered}
use Rattle.s360_channels.specs.Inside.{AllFit, Fits}
use Rattle.s360_channels.specs.Saves.{all_back, back_at, first_of, why_not_all, why_not_at}
use Rattle.s360_channels.specs.declared.faults.SavedFault.{SavedFault}
use Rattle.s360_channels.specs.declared.faults.SavedFault.TheVariants.{OtherChannels, Refused}
use Rattle.s360_channels.proofs.Fitting.{loud}

back_length : (saved : List (Option SavedChannel)) (cs : List (Option SelectorState)) → length (all_back saved cs) ≡ length cs
back_length [] cs = refl
back_length (v ∷ vs) [] = refl
back_length (v ∷ vs) (c ∷ cs) = ap suc (back_length vs cs)

pub none_first : (a b : Option SavedFault) → first_of a b ≡ None → (a ≡ None) × (b ≡ None)
none_first None b h = (refl, h)
none_first (Some why) b h = none_is_some (sym h)

pub not_refused : (x : Option WhyElsewhere) → option_map Refused x ≡ None → x ≡ None
not_refused None h = refl
not_refused (Some why) h = none_is_some (sym h)

-- the channel that stands at a place behind it fits, if the one before it did
fits_at : (number size : ℕ) (quiet : Bool) (v : Option SavedChannel) (x : Option SelectorState) → why_not_at v x ≡ None
    → ((c : SelectorState) → x ≡ Some c → Fits number size quiet c) → (c : SelectorState) → back_at v x ≡ Some c → Fits number size false c
fits_at number size quiet None None h f c e = none_is_some e
fits_at number size quiet None (Some d) h f c e = none_is_some (sym h)
fits_at number size quiet (Some v) None h f c e = none_is_some e
fits_at number size quiet (Some v) (Some d) h f c e =
    let k = f d refl in
    subst (Fits number size false) (inside (put_back v d) c e) (record {
      own_number = k.own_number;
      as_large = k.as_large;
      is_selector = selector_back v d k.is_selector (not_refused _ h);
      silent = loud;
    })

-- the same of each number from one on, whose place in the list this is
fits_all : (from size : ℕ) (quiet : Bool) (saved : List (Option SavedChannel)) (cs : List (Option SelectorState))
    → why_not_all saved cs ≡ None
    → ((k : ℕ) (c : SelectorState) → numbered k cs ≡ Some c → Fits (from + k) size quiet c)
    → (k : ℕ) (c : SelectorState) → numbered k (all_back saved cs) ≡ Some c → Fits (from + k) size false c
fits_all from size quiet [] cs h f k c e = let d = f k c e in
    record { own_number = d.own_number; as_large = d.as_large; is_selector = d.is_selector; silent = loud }
fits_all from size quiet (v ∷ vs) [] h f k c e = none_is_some e
fits_all from size quiet (v ∷ vs) (x ∷ cs) h f zero c e =
    fits_at (from + zero) size quiet v x (none_first _ _ h).0 (λ d at. f zero d at) c e
fits_all from size quiet (v ∷ vs) (x ∷ cs) h f (suc k) c e =
    subst (λ n. Fits n size false c) (next from k)
    (fits_all (suc from) size quiet vs cs (none_first _ _ h).1
    (λ j d at. subst (λ n. Fits n size quiet d) (sym (next from j)) (f (suc j) d at)) k c e)
  where
    next : (a b : ℕ) → suc a + b ≡ a + suc b
    next a b = omega arith

pub all_fit_back : (size : ℕ) (quiet : Bool) (saved : List (Option SavedChannel)) (cs new : List (Option SelectorState))
    → AllFit size quiet cs → why_not_all saved cs ≡ None → new ≡ all_back saved cs → AllFit size false new
all_fit_back size quiet saved cs new h free e =
    subst (AllFit size false) (sym e) (record {
      seven = back_length saved cs ∙ h.seven;
      fit = λ k c at. subst (λ n. Fits n size false c) (own k)
          (fits_all 0 size quiet saved cs free
          (λ j d at. subst (λ n. Fits n size quiet d) (sym (own j)) (h.fit j d at)) k c at);
    })
  where
    own : (k : ℕ) → 0 + k ≡ k
    own k = omega arith

-- Channels that are put back one after another.

get_back : (i : ℕ) (saved : List (Option SavedChannel)) (cs : List (Option SelectorState)) (d : Option SelectorState)
    → slice_index_or (all_back (take i saved) cs) i d ≡ slice_index_or cs i d
get_back zero saved cs d = refl
get_back (suc i) [] cs d = refl
get_back (suc i) (v ∷ vs) [] d = refl
get_back (suc i) (v ∷ vs) (c ∷ cs) d = get_back i vs cs d

set_back : (i : ℕ) (saved : List (Option SavedChannel)) (cs : List (Option SelectorState)) (d : Option SelectorState) → i < length saved
    → i < length cs
    → slice_set (all_back (take i saved) cs) i (back_at (slice_index_or saved i None) (slice_index_or cs i d))
    ≡ all_back (take (suc i) saved) cs
set_back i [] cs d a b = absurd (omega (arith, a))
set_back i (v ∷ vs) [] d a b = absurd (omega (arith, b))
set_back zero (v ∷ vs) (c ∷ cs) d a b = refl
set_back (suc i) (v ∷ vs) (c ∷ cs) d a b = ap (λ r. back_at v c ∷ r) (set_back i vs cs d (omega (arith, a)) (omega (arith, b)))

none_here : (i : ℕ) (saved : List (Option SavedChannel)) (cs : List (Option SelectorState)) (d : Option SelectorState)
    → why_not_all saved cs ≡ None → i < length saved → i < length cs
    → why_not_at (slice_index_or saved i None) (slice_index_or cs i d) ≡ None
none_here i [] cs d h a b = absurd (omega (arith, a))
none_here i (v ∷ vs) [] d h a b = absurd (omega (arith, b))
none_here zero (v ∷ vs) (c ∷ cs) d h a b = (none_first _ _ h).0
none_here (suc i) (v ∷ vs) (c ∷ cs) d h a b = none_here i vs cs d (none_first _ _ h).1 (omega (arith, a)) (omega (arith, b))

-- the next one may be put back
pub back_next : (saved : List (Option SavedChannel)) (cs now : List (Option SelectorState)) (i : ℕ) (item : Option SelectorState)
    → now ≡ all_back (take i saved) cs → item ≡ slice_index_or now i item → why_not_all saved cs ≡ None → i < length saved → i < length cs
    → why_not_at (slice_index_or saved i None) item ≡ None
back_next saved cs now i item e is h a b =
    ap (why_not_at (slice_index_or saved i None)) (is ∙ ap (λ cs. slice_index_or cs i item) e ∙ get_back i saved cs item)
    ∙ none_here i saved cs item h a b

pub one_more : (saved : List (Option SavedChannel)) (cs now : List (Option SelectorState)) (i : ℕ) (item new : Option SelectorState)
    → now ≡ all_back (take i saved) cs → item ≡ slice_index_or now i item → new ≡ back_at (slice_index_or saved i None) item
    → i < length saved → i < length cs → slice_set now i new ≡ all_back (take (i + 1) saved) cs
one_more saved cs now i item new e is n a b =
    ap (slice_set now i) (n ∙ ap (back_at (slice_index_or saved i None))
    (is ∙ ap (λ cs. slice_index_or cs i item) e ∙ get_back i saved cs item))
    ∙ ap (λ now. slice_set now i (back_at (slice_index_or saved i None) (slice_index_or cs i item))) e
    ∙ set_back i saved cs item a b
    ∙ ap (λ n. all_back (take n saved) cs) (more i)
  where
    more : (i : ℕ) → suc i ≡ i + 1
    more i = omega arith

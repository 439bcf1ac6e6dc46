-- Entries that say the same.
use Rattle.std.proofs.Common.{◌≡◌, ◌≢◌, ◌∙◌, ap, ap₂, sym, refl, ℕ, suc, ◌+◌, ◌<◌, ◌≤◌}
use Rattle.std.proofs.Common.{nat_eq, Bool, true, false, ◌&&◌, List, [], ◌∷◌, length, drop, get_or, map}
use Rattle.std.proofs.Common.{bytes_eq, Option, Some, None, rules, tests, arith}
use Rattle.std.proofs.lemmas.List.{at_drop_more, at_drop_all, length-map}
use Rattle.std.proofs.lemmas.Slice.Eq.{bytes_eq-Decides}
use Rattle.record_tracks.specs.Entries.{EntryContents}
use Rattle.member_changes.specs.Confirms.{is_same_bool, is_same, are_same, are_these}

one_more : (d e : EntryContents) (ds es : List EntryContents) → are_same (d ∷ ds) (e ∷ es) ≡ (is_same d e && are_same ds es)
unfolding are_same
one_more d e ds es = refl

no_more : are_same [] [] ≡ true
unfolding are_same
no_more = refl

and_false : (b : Bool) → (b && false) ≡ false
and_false true = refl
and_false false = refl

-- lists of different lengths don't
lengths_differ : (ds es : List EntryContents) → length ds ≢ length es → are_same ds es ≡ false
unfolding are_same
lengths_differ [] [] other = absurd (other refl)
lengths_differ [] (e ∷ es) other = refl
lengths_differ (d ∷ ds) [] other = refl
lengths_differ (d ∷ ds) (e ∷ es) other =
    ap (λ (b : Bool). is_same d e && b) (lengths_differ ds es (λ same. other (ap (λ (n : ℕ). suc n) same))) ∙ and_false (is_same d e)

-- Lists of what is said by entries, which are compared from one on.
module _ {A : Type 0} (of : A → EntryContents) (ds es : List A) where
  pub apart : length ds ≢ length es → are_same (map of ds) (map of es) ≡ false
  apart other = lengths_differ (map of ds) (map of es) (λ same. other (sym (length-map ds of) ∙ same ∙ length-map es of))

  module _ (i : ℕ) where
    module _ (d e : A) (inside : i < length ds) (size : length ds ≡ length es) where
      here : are_same (map of (drop i ds)) (map of (drop i es))
          ≡ (is_same (of (get_or ds i d)) (of (get_or es i e)) && are_same (map of (drop (i + 1) ds)) (map of (drop (i + 1) es)))
      here =
          at_drop_more (λ (l : List A). are_same (map of l) (map of (drop i es))) ds i d inside
          ∙ at_drop_more (λ (l : List A). are_same (map of (get_or ds i d ∷ drop (i + 1) ds)) (map of l)) es i e (omega arith)
          ∙ one_more (of (get_or ds i d)) (of (get_or es i e)) (map of (drop (i + 1) ds)) (map of (drop (i + 1) es))

      pub unequal : is_same (of (get_or ds i d)) (of (get_or es i e)) ≡ false → are_same (map of (drop i ds)) (map of (drop i es)) ≡ false
      unequal differ = here ∙ ap (λ (b : Bool). b && are_same (map of (drop (i + 1) ds)) (map of (drop (i + 1) es))) differ

      pub equal : is_same (of (get_or ds i d)) (of (get_or es i e)) ≡ true
          → are_same (map of (drop i ds)) (map of (drop i es)) ≡ are_same (map of (drop (i + 1) ds)) (map of (drop (i + 1) es))
      equal agree = here ∙ ap (λ (b : Bool). b && are_same (map of (drop (i + 1) ds)) (map of (drop (i + 1) es))) agree

    pub ended : length ds ≤ i → length ds ≡ length es → are_same (map of (drop i ds)) (map of (drop i es)) ≡ true
    ended past size =
        at_drop_all (λ (l : List A). are_same (map of l) (map of (drop i es))) ds i past
        ∙ at_drop_all (λ (l : List A). are_same [] (map of l)) es i (omega arith) ∙ no_more

-- both sides of a test that passes
both : (a b : Bool) → (a && b) ≡ true → (a ≡ true) × (b ≡ true)
both true b is = (refl, is)
both false b is = cc

same_bytes : (xs ys : List ℕ) → bytes_eq xs ys ≡ true → xs ≡ ys
same_bytes xs ys is = (bytes_eq-Decides xs ys).0 is

same_bool : (a b : Bool) → is_same_bool a b ≡ true → a ≡ b
same_bool true b is = sym is
same_bool false true is = cc
same_bool false false is = refl

same_number : (m n : ℕ) → nat_eq m n ≡ true → m ≡ n
same_number m n is = search (rules, tests)

-- an entry of these fields
abbrev entry : (name : List ℕ) → (track number : ℕ) → (alias : Bool) → (notes : ℕ) → (user : List ℕ) → EntryContents
entry name track number alias notes user =
    record { name = name; address = record { track = track; number = number }; is_alias = alias; notes = notes; user_data = user }

-- Two entries have the same fields.
record FieldsAre (d e : EntryContents) : Type 0 where
  name : d.name ≡ e.name
  track : d.address.track ≡ e.address.track
  number : d.address.number ≡ e.address.number
  alias : d.is_alias ≡ e.is_alias
  notes : d.notes ≡ e.notes
  user : d.user_data ≡ e.user_data

same_fields : (d e : EntryContents) → FieldsAre d e → d ≡ e
same_fields d e s =
    let da = d.address in
    let ea = e.address in
    ap (λ (v : List ℕ). entry v da.track da.number d.is_alias d.notes d.user_data) s.name
    ∙ ap (λ (v : ℕ). entry e.name v da.number d.is_alias d.notes d.user_data) s.track
    ∙ ap (λ (v : ℕ). entry e.name ea.track v d.is_alias d.notes d.user_data) s.number
    ∙ ap (λ (v : Bool). entry e.name ea.track ea.number v d.notes d.user_data) s.alias
    ∙ ap (λ (v : ℕ). entry e.name ea.track ea.number e.is_alias v d.user_data) s.notes
    ∙ ap (λ (v : List ℕ). entry e.name ea.track ea.number e.is_alias e.notes v) s.user

-- entries that say the same are the same
same_entry : (d e : EntryContents) → is_same d e ≡ true → d ≡ e
same_entry d e is =
    let b0 = both _ _ is in
    let b1 = both _ _ b0.1 in
    let b2 = both _ _ b1.1 in
    let b3 = both _ _ b2.1 in
    let b4 = both _ _ b3.1 in
    same_fields d e (record {
      name = same_bytes d.name e.name b0.0;
      track = same_number d.address.track e.address.track b1.0;
      number = same_number d.address.number e.address.number b2.0;
      alias = same_bool d.is_alias e.is_alias b3.0;
      notes = same_number d.notes e.notes b4.0;
      user = same_bytes d.user_data e.user_data b4.1;
    })

all_same : (ds es : List EntryContents) → are_same ds es ≡ true → ds ≡ es
unfolding are_same
all_same [] [] is = refl
all_same [] (e ∷ es) is = cc
all_same (d ∷ ds) [] is = cc
all_same (d ∷ ds) (e ∷ es) is =
    let b = both (is_same d e) (are_same ds es) is in
    ap₂ (λ (x : EntryContents) (xs : List EntryContents). x ∷ xs) (same_entry d e b.0) (all_same ds es b.1)

pub these_are : (entries : List EntryContents) (found : Option (List EntryContents)) → are_these entries found ≡ true → found ≡ Some entries
these_are entries None is = cc
these_are entries (Some found) is = ap Some (all_same found entries is)

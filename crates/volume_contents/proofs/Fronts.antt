-- Findings of which only the first were added.
use Rattle.std.proofs.Common.{◌≡◌, ◌∙◌, ap, sym, refl, subst, List, [], ◌++◌, append_assoc, append-nil, Result, Ok, Err, OnErr}
use Rattle.std.proofs.lemmas.List.{append_cancel_left}
use Rattle.volume_contents.specs.declared.findings.Finding.{Finding}
use Rattle.volume_contents.specs.Checks.{AddsFront}

-- those before are the first of those now
pub record Begins (before now : List Finding) : Type 0 where
  pub front : List Finding
  pub is : now ≡ before ++ front

pub begins_none : (a : List Finding) → Begins a a
begins_none a = record { front = []; is = sym (append-nil a) }

pub begins_more : (a b c more : List Finding) → Begins a b → c ≡ b ++ more → Begins a c
begins_more a b c more first next = record {
  front = first.front ++ more;
  is = next ∙ ap (λ l. l ++ more) first.is ∙ append_assoc a first.front more;
}

-- none was added
pub front_none : (a b found : List Finding) → b ≡ a → AddsFront a b found
front_none a b found same = record { front = []; rest = found; whole = refl; added = same ∙ sym (append-nil a) }

-- some of the first part were
pub front_before : (a b first more : List Finding) → AddsFront a b first → AddsFront a b (first ++ more)
front_before a b first more f = record {
  front = f.front;
  rest = f.rest ++ more;
  whole = ap (λ l. l ++ more) f.whole ∙ append_assoc f.front f.rest more;
  added = f.added;
}

-- the first part was, and some of the second
pub front_behind : (a b c first more : List Finding) → b ≡ a ++ first → AddsFront b c more → AddsFront a c (first ++ more)
front_behind a b c first more are f = record {
  front = first ++ f.front;
  rest = f.rest;
  whole = ap (λ l. first ++ l) f.whole ∙ sym (append_assoc first f.front f.rest);
  added = f.added ∙ ap (λ l. l ++ f.front) are ∙ append_assoc a first f.front;
}

-- those so far were, and some of the others
pub front_so_far : (a b c rest found : List Finding) → Begins a b → b ++ rest ≡ a ++ found → AddsFront b c rest → AddsFront a c found
front_so_far a b c rest found begun known f =
    let whole : found ≡ begun.front ++ rest =
    append_cancel_left a found (begun.front ++ rest) (sym known ∙ ap (λ l. l ++ rest) begun.is ∙ append_assoc a begun.front rest) in
    subst (λ l. AddsFront a c l) (sym whole) (front_behind a b c begun.front rest begun.is f)

-- what holds anyway holds where there is an error
pub at_error : {T E P : Type 0} (r : Result T E) → P → OnErr r P
at_error (Ok _) p = tt
at_error (Err _) p = p

-- A line has no more words than half its bytes, and one.
use Rattle.std.proofs.Common.{ℕ, ◌+◌, ◌*◌, ◌≤◌, ◌≡◌, List, [], ◌∷◌, Bool, true, false, not, length, drop, filter}
use Rattle.std.proofs.Common.{arith, refl, sym, rules, tests}
use Rattle.std.proofs.Math.Numerals.{one-add}
use Rattle.std.specs.List.{slice_split, onto_first}
use Rattle.std.proofs.lemmas.List.Splits.{slice_split-cons_yes, slice_split-cons_no}
use Rattle.s360_deck.specs.Deck.{is_blank, is_empty, words_of}

-- parts that are words
abbrev words_in : List (List ℕ) → List (List ℕ)
words_in parts = filter (λ word. not (is_empty word)) parts

-- the parts of a line
abbrev parts_of : List ℕ → List (List ℕ)
parts_of text = slice_split is_blank text

some : (byte : ℕ) (part : List ℕ) → is_empty (byte ∷ part) ≡ false
some byte part = search (rules, tests)

longer_first : (byte : ℕ) (parts : List (List ℕ)) → length (words_in (onto_first byte parts)) ≡ 1 + length (words_in (drop 1 parts))
longer_first byte [] = refl
longer_first byte (part ∷ parts) = rw (some byte part) (sym (one-add (length (words_in parts))))

same_others : (byte : ℕ) (parts : List (List ℕ)) → drop 1 (onto_first byte parts) ≡ drop 1 parts
same_others byte [] = refl
same_others byte (part ∷ parts) = refl

-- how many words a line has, and how many behind its first part
record FewWords (text : List ℕ) : Type 0 where
  pub all : 2 * length (words_in (parts_of text)) ≤ length text + 1
  pub others : 2 * length (words_in (drop 1 (parts_of text))) ≤ length text

by_byte : (byte : ℕ) (text : List ℕ) (v : Bool) → is_blank byte ≡ v → FewWords text → FewWords (byte ∷ text)
by_byte byte text true is few =
    let parts = slice_split-cons_yes is_blank byte text is in
    record { all = rw parts (omega (arith, few.all)); others = rw parts (omega (arith, few.all)) }
by_byte byte text false is few =
    let parts = slice_split-cons_no is_blank byte text is in
    record {
      all = rw parts (omega (arith, longer_first byte (parts_of text), few.others));
      others = rw (parts, same_others byte (parts_of text)) (omega (arith, few.others));
    }

few_words : (text : List ℕ) → FewWords text
few_words [] = record { all = omega arith; others = omega arith }
few_words (byte ∷ text) = by_byte byte text (is_blank byte) refl (few_words text)

-- the words of a line of at most 512 bytes
pub words_fit : (text : List ℕ) → length text ≤ 512 → length (words_of text) ≤ 256
words_fit text short = let few = few_words text in omega (arith, few.all, short)

-- A text that is taken apart into lines, and a line into words.
use Rattle.std.proofs.Common.{ℕ, ◌<◌, ◌≡◌, ◌==◌, ◌∙◌, List, [], ◌∷◌, ◌++◌, Bool, true, false, not, nat_lt, ne_eqb, length, filter, cond}
use Rattle.std.proofs.Common.{append-nil, ap, refl, arith}
use Rattle.std.specs.List.{All, list_all, slice_split}
use Rattle.std.proofs.lemmas.Bool.{ltb-true}
use Rattle.std.proofs.lemmas.Bool.Decides.{nat_tests}
use Rattle.std.proofs.lemmas.List.Sums.{AllPass-from_list_all}
use Rattle.std.proofs.lemmas.List.Elements.{All-weaker, All-append, All-cons, All-nil}
use Rattle.std.proofs.lemmas.List.Splits.{slice_split_none, slice_split_at}
use Rattle.set_forms.specs.Forms.{spaced}
use Rattle.set_forms.specs.Parsing.{is_blank, words_of, lines_of}

-- a character that may stand in a word
abbrev pub is_inner : ℕ → Bool
is_inner c = nat_lt 32 c

pub record IsWord (word : List ℕ) : Type 0 where
  pub some : 0 < length word
  pub inner : list_all is_inner word ≡ true

abbrev pub AreWords : List (List ℕ) → Type 0
AreWords [] = Unit {0}
AreWords (word ∷ words) = IsWord word × AreWords words

not_blank : (c : ℕ) → is_inner c ≡ true → is_blank c ≡ false
not_blank c is = grind (arith, nat_tests)

not_feed : (c : ℕ) → is_inner c ≡ true → (c == 10) ≡ false
not_feed c is = ne_eqb c 10 (λ e. omega (arith, ltb-true 32 c is, e))

no_blank : (word : List ℕ) → IsWord word → All (λ c. is_blank c ≡ false) word
no_blank word w = All-weaker (λ c. is_inner c ≡ true) (λ c. is_blank c ≡ false) not_blank word (AllPass-from_list_all is_inner word w.inner)

no_feed : (word : List ℕ) → IsWord word → All (λ c. (c == 10) ≡ false) word
no_feed word w = All-weaker (λ c. is_inner c ≡ true) (λ c. (c == 10) ≡ false) not_feed word (AllPass-from_list_all is_inner word w.inner)

abbrev has_some : List ℕ → Bool
has_some word = not (length word == 0)

kept : (word : List ℕ) (words : List (List ℕ)) → IsWord word → filter has_some (word ∷ words) ≡ word ∷ filter has_some words
kept word words w =
    ap (λ b. cond (not b) (word ∷ filter has_some words) (filter has_some words)) (ne_eqb (length word) 0 (λ e. omega (arith, w.some, e)))

-- the words of a line that has a blank between each two
pub words_back : (first : List ℕ) (words : List (List ℕ)) → IsWord first → AreWords words → words_of (first ++ spaced words) ≡ first ∷ words
words_back first [] f a = cc (append-nil first, slice_split_none is_blank first (no_blank first f), kept first [] f)
words_back first (word ∷ words) f a =
    let others = kept first (slice_split is_blank (word ++ spaced words)) f in
    cc (slice_split_at is_blank first 32 (word ++ spaced words) (no_blank first f) refl, words_back word words a.0 a.1)

spaced_has_none : (words : List (List ℕ)) → AreWords words → All (λ c. (c == 10) ≡ false) (spaced words)
spaced_has_none [] a = All-nil (λ c. (c == 10) ≡ false)
spaced_has_none (word ∷ words) a = All-cons (λ c. (c == 10) ≡ false) 32 (word ++ spaced words) refl
    (All-append (λ c. (c == 10) ≡ false) word (spaced words) (no_feed word a.0) (spaced_has_none words a.1))

-- the lines of a text that begins with such a line
pub line_back : (first : List ℕ) (words : List (List ℕ)) (text : List ℕ) → IsWord first → AreWords words
    → lines_of ((first ++ spaced words) ++ 10 ∷ text) ≡ (first ++ spaced words) ∷ lines_of text
line_back first words text f a = slice_split_at (λ c. c == 10) (first ++ spaced words) 10 text
    (All-append (λ c. (c == 10) ≡ false) first (spaced words) (no_feed first f) (spaced_has_none words a)) refl

-- words, and others behind them
pub both_words : (first second : List (List ℕ)) → AreWords first → AreWords second → AreWords (first ++ second)
both_words [] second a b = b
both_words (word ∷ first) second a b = (a.0, both_words first second a.1 b)

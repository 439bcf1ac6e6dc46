use Rattle.std.proofs.Common.{◌≡◌, ℕ, List, [], ◌∷◌, Bool, true, false, Option, Some, None, find, cond, ap, subst, refl}
use Rattle.std.proofs.lemmas.Bool.Decides.{Decides-or}
use Rattle.std.proofs.lemmas.Slice.Eq.{bytes_eq-Decides}
use Rattle.s360_explain.specs.Mnemonics.{word_of, quoted_name_of, names, worded_codes}
use Rattle.s360_explain.proofs.laws.words_and_codes_are_inverse.Goals as goal

value : Option ℕ → ℕ
value (Some n) = n
value None = 0

first_names : (word : List ℕ) (code k : ℕ) (ks : List ℕ) (b : Bool) → names k word ≡ b
    → (find (λ k. names k word) ks ≡ Some code → names code word ≡ true)
    → cond b (Some k) (find (λ k. names k word) ks) ≡ Some code → names code word ≡ true
unfolding value
first_names word code k ks true is others found = subst (λ n. names n word ≡ true) (ap value found) is
first_names word code k ks false is others found = others found

-- the code that is found has the word
found_names : (word : List ℕ) (code : ℕ) (ks : List ℕ) → find (λ k. names k word) ks ≡ Some code → names code word ≡ true
found_names word code [] found = absurd (cc)
found_names word code (k ∷ ks) found = first_names word code k ks (names k word) refl (found_names word code ks) found

pub returns-clause-words : goal.returns-clause-words
returns-clause-words c word code found =
    (Decides-or _ _ (bytes_eq-Decides (word_of code) word) (bytes_eq-Decides (quoted_name_of code) word)).0
    (found_names word code worded_codes found)

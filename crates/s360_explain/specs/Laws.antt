-- The words of commands and their codes.
use Rattle.std.specs.Prelude.{◌≡◌, ◌⊎◌, ℕ, List, Some}
use Rattle.std.specs.List.{AllByRecursion}
use Rattle.s360_explain.specs.Mnemonics.{word_of, quoted_name_of, code_named, worded_codes}

-- Each code that has a word is the code of its word, and of its long name: so no two codes have one.
abbrev pub EachCodeHasItsWord : Type 0
EachCodeHasItsWord =
    AllByRecursion (λ code. (code_named (word_of code) ≡ Some code) × (code_named (quoted_name_of code) ≡ Some code)) worded_codes

-- A word that has a code is that code's word, or its long name.
abbrev pub EachWordIsItsCodes : Type 0
EachWordIsItsCodes =
    (word : List ℕ) (code : ℕ) → code_named word ≡ Some code → (word_of code ≡ word) ⊎ (quoted_name_of code ≡ word)

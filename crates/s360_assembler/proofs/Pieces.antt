-- The bytes of a file in storage, and the names of files: one piece more, and one line more.
use Rattle.std.proofs.Common.{◌≡◌, ℕ, zero, suc, ◌+◌, ◌-◌, ◌<◌, List, ◌∷◌, take, drop, Result, Ok, Err, ap, subst, arith}
use Rattle.s360_deck.specs.Deck.{lines_of, without_return}
use Rattle.s360_assembler.specs.declared.fault.Cause.{Cause}
use Rattle.s360_assembler.specs.Files.{name_loaded, with_name, names_behind}
use Rattle.s360_assembler.specs.Parts.{DeckState, with_bytes, with_pieces}

abbrev deck_in : DeckState → Result DeckState Cause → DeckState
deck_in d (Ok now) = now
deck_in d (Err why) = d

one_less : (n : ℕ) → n ≡ suc n - 1
one_less n = omega arith

-- a piece that is added
pub next_piece : (left : ℕ) (d now : DeckState) (at : ℕ) (rest : List ℕ) (all : DeckState) → 0 < left
    → ◌≡◌ {A = Result DeckState Cause} (Ok (with_bytes d at (take 128 rest))) (Ok now) → with_pieces left d at rest ≡ all
    → with_pieces (left - 1) now (at + 128) (drop 128 rest) ≡ all
next_piece zero d now at rest all some made is = absurd (omega (arith, some))
next_piece (suc left) d now at rest all some made is =
    subst (λ (k : ℕ). with_pieces k now (at + 128) (drop 128 rest) ≡ all) (one_less left)
    (subst (λ (s : DeckState). with_pieces left s (at + 128) (drop 128 rest) ≡ all) (ap (deck_in d) made) is)

-- the names with those of a line
pub next_named : (names more : List (List ℕ)) (text line behind : List ℕ) (all : List (List ℕ)) → lines_of text ≡ line ∷ lines_of behind
    → more ≡ with_name names (name_loaded (without_return line)) → names_behind names (lines_of text) ≡ all
    → names_behind more (lines_of behind) ≡ all
next_named names more text line behind all first added is = rw added (rw first at is)

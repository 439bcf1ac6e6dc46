-- The two passes over the lines of a text: one line more.
use Rattle.std.proofs.Common.{◌≡◌, ◌⊎◌, inl, inr, ◌∙◌, ◌+◌, ℕ, List, ◌∷◌, Result, Ok, Err, refl, sym}
use Rattle.s360_deck.specs.Deck.{lines_of, without_return}
use Rattle.s360_assembler.specs.declared.fault.AssemblyFault.{AssemblyFault}
use Rattle.s360_assembler.specs.declared.fault.AssemblyFault.TheVariants as fault
use Rattle.s360_assembler.specs.declared.fault.Cause.TheVariants as cause
use Rattle.s360_assembler.specs.declared.fault.Mistake.{Mistake}
use Rattle.s360_assembler.specs.declared.files.LoadableFile.{LoadableFile}
use Rattle.s360_assembler.specs.declared.symbols.Symbol.{Symbol}
use Rattle.s360_assembler.specs.Symbols.{noted}
use Rattle.s360_assembler.specs.Parts.{DeckState}
use Rattle.s360_assembler.specs.Assembled.{told, on_line, symbols_behind, written, deck_behind}

-- the fault of a line, where memory ran out
told_memory : (number : ℕ) (m : Mistake) → m.cause ≡ cause.OutOfMemory → told number m ≡ fault.OutOfMemory
told_memory number m is = rw is refl

-- The first pass.

module _ (files : List LoadableFile) where
  first_noted : (symbols : List Symbol) (here number : ℕ) (text line behind : List ℕ) (all : Result (List Symbol) AssemblyFault)
      → lines_of text ≡ line ∷ lines_of behind → symbols_behind files symbols here number (lines_of text) ≡ all
      → on_line number (noted files symbols here (without_return line))
      (λ more. symbols_behind files more.0 more.1 (number + 1) (lines_of behind)) ≡ all
  first_noted symbols here number text line behind all first is = rw first at is

  -- a line that is noted
  pub next_noted : (symbols more : List Symbol) (here next number : ℕ) (text line behind : List ℕ)
      (all : Result (List Symbol) AssemblyFault)
      → lines_of text ≡ line ∷ lines_of behind → noted files symbols here (without_return line) ≡ Ok (more, next)
      → symbols_behind files symbols here number (lines_of text) ≡ all
      → symbols_behind files more next (number + 1) (lines_of behind) ≡ all
  next_noted symbols more here next number text line behind all first is_noted is =
      rw is_noted at (first_noted symbols here number text line behind all first is)

  -- a line that is wrong
  pub faulty_noted : (symbols : List Symbol) (m : Mistake) (here number : ℕ) (text line behind : List ℕ)
      (all : Result (List Symbol) AssemblyFault) → lines_of text ≡ line ∷ lines_of behind
      → (m.cause ≡ cause.OutOfMemory) ⊎ (noted files symbols here (without_return line) ≡ Err m)
      → symbols_behind files symbols here number (lines_of text) ≡ all → (told number m ≡ fault.OutOfMemory) ⊎ (all ≡ Err (told number m))
  faulty_noted symbols m here number text line behind all first (inl memory) is = inl (told_memory number m memory)
  faulty_noted symbols m here number text line behind all first (inr wrong) is =
      inr (sym (rw wrong at (first_noted symbols here number text line behind all first is)))

-- The second pass.

module _ (files : List LoadableFile) (symbols : List Symbol) where
  first_written : (d : DeckState) (here number : ℕ) (text line behind : List ℕ)
      (all : Result (List ℕ) AssemblyFault)
      → lines_of text ≡ line ∷ lines_of behind → deck_behind files symbols d here number (lines_of text) ≡ all
      → on_line number (written files symbols d here (without_return line))
      (λ more. deck_behind files symbols more.0 more.1 (number + 1) (lines_of behind)) ≡ all
  first_written d here number text line behind all first is = rw first at is

  -- a line that is written
  pub next_written : (d : DeckState) (more : DeckState × ℕ) (here number : ℕ) (text line behind : List ℕ)
      (all : Result (List ℕ) AssemblyFault)
      → lines_of text ≡ line ∷ lines_of behind → written files symbols d here (without_return line) ≡ Ok more
      → deck_behind files symbols d here number (lines_of text) ≡ all
      → deck_behind files symbols more.0 more.1 (number + 1) (lines_of behind) ≡ all
  next_written d more here number text line behind all first is_written is =
      rw is_written at (first_written d here number text line behind all first is)

  -- a line that is wrong
  pub faulty_written : (d : DeckState) (m : Mistake) (here number : ℕ) (text line behind : List ℕ)
      (all : Result (List ℕ) AssemblyFault) → lines_of text ≡ line ∷ lines_of behind
      → (m.cause ≡ cause.OutOfMemory) ⊎ (written files symbols d here (without_return line) ≡ Err m)
      → deck_behind files symbols d here number (lines_of text) ≡ all → (told number m ≡ fault.OutOfMemory) ⊎ (all ≡ Err (told number m))
  faulty_written d m here number text line behind all first (inl memory) is = inl (told_memory number m memory)
  faulty_written d m here number text line behind all first (inr wrong) is =
      inr (sym (rw wrong at (first_written d here number text line behind all first is)))

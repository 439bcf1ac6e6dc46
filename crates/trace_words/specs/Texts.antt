-- The lines of a look, one behind another.
use Rattle.std.specs.Prelude.{◌≡◌, ℕ, List, true, Option}
use Rattle.std.specs.Fmt.{AppendsText, with_newline}
use Rattle.trace_words.specs.declared.text.Text.{Text}

-- A line more, behind which all are whole: those before it were, and it stands behind them, with its end. Where a value has no text that is
-- known, nothing is said of it.
pub record TellsWhole (line : Option (List ℕ)) (old new : Text) : Type 0 where
  pub was_whole : old.is_whole ≡ true
  pub text : AppendsText old.lines.bytes new.lines.bytes (with_newline line)

-- a line more, if there was room
abbrev pub Tells : Option (List ℕ) → (old new : Text) → Type 0
Tells line old new = new.is_whole ≡ true → TellsWhole line old new

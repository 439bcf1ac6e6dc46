-- What is kept of a trace comes back as it was.
use Rattle.std.specs.Prelude.{◌≡◌, ℕ, ◌<◌, Option, Some, None}
use Rattle.ckd_command.specs.declared.registers.Credit.{Credit}
use Rattle.s360_words.specs.declared.words.Ccw.{Ccw}
use Rattle.trace_words.specs.declared.line.TraceLine.{TraceLine}
use Rattle.trace_words.specs.declared.met.Met.{Met}
use Rattle.trace_words.specs.declared.passed.Passed.{Passed}
use Rattle.trace_kept.specs.Kept.{one_more, number_below, kept_word, word_in, kept_area, met_in, number_of_credit, record_of_credit, credit_of}
use Rattle.trace_kept.specs.Kept.{kept_line, line_in, kept_bytes, bytes_in}

-- no number does
abbrev pub NoNumberComesBack : Type 0
NoNumberComesBack = (limit : ℕ) → number_below limit (one_more None) ≡ None

-- a number below a limit does
abbrev pub NumberComesBack : Type 0
NumberComesBack = (limit n : ℕ) → n < limit → number_below limit (one_more (Some n)) ≡ Some n

-- a word does
abbrev pub WordComesBack : Type 0
WordComesBack = (w : Ccw) → word_in (kept_word w) ≡ w

-- an area that was met does, with its count area
abbrev pub AreaComesBack : Type 0
AreaComesBack = (m : Option Met) → met_in (kept_area m) ≡ m

-- a credit does
abbrev pub CreditComesBack : Type 0
CreditComesBack = (c : Option Credit) → credit_of (number_of_credit c) (record_of_credit c) ≡ c

-- the line of a word does
abbrev pub LineComesBack : Type 0
LineComesBack = (l : Option TraceLine) → line_in (kept_line l) ≡ l

-- what has passed does
abbrev pub BytesComeBack : Type 0
BytesComeBack = (p : Passed) → bytes_in (kept_bytes p) ≡ p

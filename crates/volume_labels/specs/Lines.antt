-- Lines of text.
use Rattle.std.specs.Prelude.{ℕ, ◌-◌, ◌==◌, Bool, List, take, length}
use Rattle.std.specs.List.{suffix_len}

-- a blank of EBCDIC
abbrev pub is_blank : ℕ → Bool
is_blank b = b == 0x40

-- bytes without the blanks at their end
abbrev pub without_blanks : List ℕ → List ℕ
without_blanks bytes = take (length bytes - suffix_len is_blank bytes) bytes

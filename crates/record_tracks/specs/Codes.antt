-- Characters in EBCDIC, by the table of code page 037.
use Rattle.std.specs.Prelude.{◌≡◌, ℕ, ◌<◌, ◌==◌, List, [], ◌∷◌, Option, Some, None, position, slice_index_or, if◌then◌else◌}
use Rattle.std.specs.Str.{is_utf8, chars}
use Rattle.volume_labels.specs.Ebcdic.{code_page_037}
use Rattle.dasd_extract.specs.Blocks.{is_control}

-- The byte of EBCDIC that is a character. A character that code page 037 lacks has none, and neither has one that controls a terminal or a
-- file, which the reader would not write.
abbrev pub code_of : (character : ℕ) → Option ℕ
code_of character = if is_control character then None else position (λ it. it == character) code_page_037

-- a byte before others
abbrev pub before : Option ℕ → Option (List ℕ) → Option (List ℕ)
before (Some code) (Some codes) = Some (code ∷ codes)
before (Some code) None = None
before None codes = None

-- the bytes of characters, one for each; none where one of them has none
unfoldable pub codes_of : (characters : List ℕ) → Option (List ℕ)
codes_of [] = Some []
codes_of (c ∷ cs) = before (code_of c) (codes_of cs)

-- the bytes of a line's characters; none where the line is not UTF-8
abbrev pub line_codes : (line : List ℕ) → Option (List ℕ)
line_codes line = if is_utf8 line then codes_of (chars line) else None

-- at the place of each character below 256 stands the byte that it is, if there is one
abbrev pub IsTable : List (Option ℕ) → Type 0
IsTable table = (c : ℕ) → c < 256 → slice_index_or table c None ≡ position (λ it. it == c) code_page_037

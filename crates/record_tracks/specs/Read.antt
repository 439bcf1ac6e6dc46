-- What the reader of text writes of such records.
use Rattle.std.specs.Prelude.{◌≡◌, ◌⊎◌, ℕ, ◌-◌, ◌*◌, ◌==◌, List, [], ◌∷◌, ◌++◌, length, take, drop, flat_map}
use Rattle.std.specs.List.{suffix_len}
use Rattle.volume_labels.specs.declared.records.RecordForm.TheVariants.{Fixed}
use Rattle.dasd_extract.specs.Written.{these_bytes}
use Rattle.dasd_extract.specs.Blocks.{lines_written}
use Rattle.record_tracks.specs.Lines.{lines_of}

-- a line without the blanks at its end
abbrev pub without_blanks : (line : List ℕ) → List ℕ
without_blanks line = take (length line - suffix_len (λ it. it == 32) line) line

-- a line with its line feed
abbrev pub ended : (line : List ℕ) → List ℕ
ended line = line ++ 10 ∷ []

-- Each block of so many whole records, whichever they are, is read as the lines that they were made of, without the blanks at the end of
-- each.
abbrev pub IsReadAsLines : (size : ℕ) → (lines : List (List ℕ)) → (records : List ℕ) → Type 0
IsReadAsLines size lines records =
    (from count track number : ℕ)
    → lines_written (Fixed size) track number (take (count * size) (drop (from * size) records))
    ≡ these_bytes (flat_map (λ line. ended (without_blanks line)) (take count (drop from lines)))

-- These lines, each with its line feed, are a text, but for the line feed that the last one may have lacked.
abbrev pub AreLinesOf : (text : List ℕ) → (lines : List (List ℕ)) → Type 0
AreLinesOf text lines = (flat_map ended lines ≡ text) ⊎ (flat_map ended lines ≡ ended text)

-- Records are read as the lines of the text that they were made of.
pub record IsReadAsText (size : ℕ) (text records : List ℕ) : Type 0 where
  pub lines : AreLinesOf text (lines_of text)
  pub read : IsReadAsLines size (lines_of text) records

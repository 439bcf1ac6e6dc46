-- Files whose bytes a text puts into storage: LOAD and a name in apostrophes, C'..'.
use Rattle.std.specs.Prelude.{ℕ, List, [], ◌∷◌, ◌++◌, length, slice_get, Bool, ◌&&◌, not, ◌==◌, nat_lt, nat_le, Option, Some, None, is_some}
use Rattle.std.specs.Prelude.{option_and_then, position, codes, if◌then◌else◌}
use Rattle.std.specs.Str.{bytes_eq}
use Rattle.s360_deck.specs.Deck.{lines_of, without_return}
use Rattle.s360_assembler.specs.declared.fields.Quoting.TheVariants.{Outside}
use Rattle.s360_assembler.specs.declared.files.LoadableFile.{LoadableFile}
use Rattle.s360_assembler.specs.Fields.{is_apostrophe, raised, operation_of, operands_of}
use Rattle.s360_assembler.specs.Constants.{letter_and_text}

-- Names.

-- C'..' with a byte or more is a name, where no apostrophe is among them
abbrev pub name_in : (letter : ℕ) → List ℕ → Option (List ℕ)
name_in letter text =
    if letter == 67 && (nat_lt 0 (length text) && not (is_some (position is_apostrophe text))) then Some text else None

-- the name of the file that operands name
abbrev pub file_name_of : List ℕ → Option (List ℕ)
file_name_of operands = option_and_then (λ parts. name_in parts.0 parts.1) (letter_and_text operands)

-- the name of the file that a line loads
abbrev pub name_loaded : (line : List ℕ) → Option (List ℕ)
name_loaded line =
    if nat_le (length line) 512 && bytes_eq (operation_of line) (codes "LOAD") then file_name_of (operands_of line) else None

-- these names, and one more, if there is one
abbrev pub with_name : List (List ℕ) → Option (List ℕ) → List (List ℕ)
with_name names None = names
with_name names (Some name) = names ++ name ∷ []

-- these names, and those that these lines name
abbrev pub names_behind : List (List ℕ) → List (List ℕ) → List (List ℕ)
names_behind names [] = names
names_behind names (line ∷ lines) = names_behind (with_name names (name_loaded (without_return line))) lines

-- The names of the files that a text loads, in the order of its lines, each as often as it stands there.
abbrev pub files_named : List ℕ → List (List ℕ)
files_named text = names_behind [] (lines_of (raised Outside text))

-- Files that are given.

-- a file has this name
abbrev pub has_name : (name : List ℕ) → LoadableFile → Bool
has_name name f = bytes_eq f.name.items name

-- what a file holds, if there is one
abbrev pub held : Option LoadableFile → List ℕ
held None = []
held (Some f) = f.bytes.items

-- what the file at this place holds
abbrev pub bytes_at : List LoadableFile → (place : ℕ) → List ℕ
bytes_at files place = held (slice_get files place)

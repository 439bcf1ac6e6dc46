-- The words of a command line after the name of its program: options, their values, and operands.
use Rattle.command_words.specs.declared.CommandLine.{CommandLine}
use Rattle.std.specs.Prelude.{ℕ, ◌+◌, ◌==◌, nat_lt, Bool, true, false, ◌&&◌, ◌||◌, not, List, [], ◌∷◌, ◌++◌, length, map, take, drop, slice_get, slice_index, codes}
use Rattle.std.specs.Prelude.{Option, Some, None, is_some, if◌then◌else◌}
use Rattle.std.specs.Cmp.Lexicographic.{pointwise}
use Rattle.std.specs.List.{list_any}
use Rattle.std.specs.Str.{bytes_eq}

-- the mark that ends the options: each word after it is an operand
abbrev pub is_mark : (word : List ℕ) → Bool
is_mark word = bytes_eq word (codes "--")

-- an option begins with a hyphen; a hyphen alone is none
abbrev pub is_option : (word : List ℕ) → Bool
is_option [] = false
is_option (c ∷ []) = false
is_option (c ∷ d ∷ rest) = c == 45

-- a word is one of these names
abbrev pub is_one_of : (names : List (List ℕ)) → (word : List ℕ) → Bool
is_one_of names word = list_any (λ name. bytes_eq name word) names

-- the operands among words, of which the first may be the value of an option
unfoldable pub operands_among : (valued : List (List ℕ)) → (is_value : Bool) → (words : List (List ℕ)) → List (List ℕ)
operands_among valued is_value [] = []
operands_among valued is_value (word ∷ words) =
    if is_mark word then words
    else (if is_value || is_option word then operands_among valued (is_one_of valued word) words
    else word ∷ operands_among valued (is_one_of valued word) words)

-- The operands of a command line: the words that are neither options nor the values after those options that take one; and all after the mark.
abbrev pub operands_of : (valued words : List (List ℕ)) → List (List ℕ)
operands_of valued words = operands_among valued false words

-- an option is there, before the mark
unfoldable pub has_option : (words : List (List ℕ)) → (name : List ℕ) → Bool
has_option [] name = false
has_option (word ∷ words) name = not (is_mark word) && (bytes_eq word name || has_option words name)

-- a word begins with a name and an equals sign
abbrev pub has_attached : (name word : List ℕ) → Bool
has_attached name word = nat_lt (length name) (length word) && bytes_eq (take (length name) word) name && slice_index word (length name) == 61

-- what is in a word after a name and an equals sign
abbrev pub attached : (name word : List ℕ) → Option (List ℕ)
attached name word = if has_attached name word then Some (drop (length name + 1) word) else None

-- this value, or another where there is none
abbrev pub or_else : Option (List ℕ) → Option (List ℕ) → Option (List ℕ)
or_else (Some value) other = Some value
or_else None other = other

-- The value of an option: what is in its word after an equals sign, or the next word.
unfoldable pub value_of : (words : List (List ℕ)) → (name : List ℕ) → Option (List ℕ)
value_of [] name = None
value_of (word ∷ words) name =
    if is_mark word then None
    else (if bytes_eq word name then slice_get words 0 else or_else (attached name word) (value_of words name))

-- A command line: its words, and those among them that are operands.
pub record Line : Type 0 where
  pub words : List (List ℕ)
  pub operands : List (List ℕ)

-- the line of these words, where these options take a value
abbrev pub line_of : (valued words : List (List ℕ)) → Line
line_of valued words = record { words = words; operands = operands_of valued words }

-- as the code keeps it
abbrev pub seen : CommandLine → Line
seen line = record { words = map (λ word. word.now) line.words.now; operands = map (λ word. word.now) line.operands.items }

-- an option is there
abbrev pub has : Line → (name : List ℕ) → Bool
has line name = has_option line.words name

-- it is there where that is asked, and else it is not
abbrev pub is_set : Line → (name : List ℕ) → (asked : Bool) → Bool
is_set line name true = has line name
is_set line name false = not (has line name)

-- it has a value
abbrev pub has_value : Line → (name : List ℕ) → Bool
has_value line name = is_some (value_of line.words name)

-- it has one where that is asked, and else it has none
abbrev pub is_valued : Line → (name : List ℕ) → (asked : Bool) → Bool
is_valued line name true = has_value line name
is_valued line name false = not (has_value line name)

-- two values are the same, or there is neither
abbrev pub is_same : Option (List ℕ) → Option (List ℕ) → Bool
is_same None None = true
is_same (Some one) (Some other) = bytes_eq one other
is_same one other = false

-- this is the value of an option, or it has none
abbrev pub gives : Line → (name : List ℕ) → Option (List ℕ) → Bool
gives line name value = is_same (value_of line.words name) value

-- The operands are the name of a command, these words after it, and then these others.
abbrev pub asks : Line → (command : List ℕ) → (words others : List (List ℕ)) → Bool
asks line command words others = pointwise bytes_eq line.operands (command ∷ words ++ others)

-- words begin with the name of a command and these words after it
abbrev pub are_front : (words : List (List ℕ)) → (command : List ℕ) → (front : List (List ℕ)) → Bool
are_front [] command front = false
are_front (word ∷ words) command front = bytes_eq word command && pointwise bytes_eq (take (length front) words) front

-- the operands begin so
abbrev pub begins : Line → (command : List ℕ) → (front : List (List ℕ)) → Bool
begins line command front = are_front line.operands command front

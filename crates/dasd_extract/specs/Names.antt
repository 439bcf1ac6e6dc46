-- Names as somebody writes them, and as a volume has them.
use Rattle.std.specs.Prelude.{◌≡◌, ℕ, ◌≤◌, ◌<◌, Bool, ◌&&◌, nat_lt, nat_le, List, length, slice_index}
use Rattle.std.specs.List.{list_all}
use Rattle.volume_labels.specs.Ebcdic.{character_of}

-- from a byte on there are blanks
abbrev pub IsBlank : (from : ℕ) → List ℕ → Type 0
IsBlank from name = (i : ℕ) → from ≤ i → i < length name → slice_index name i ≡ 0x40

-- a name in EBCDIC has the characters of this text, and blanks behind them
pub record Names (text name : List ℕ) : Type 0 where
  pub few : length text ≤ length name
  pub characters : (i : ℕ) → i < length text → character_of (slice_index name i) ≡ slice_index text i
  pub blanks : IsBlank (length text) name

-- a character of ASCII, each of which the code page has
abbrev pub is_ascii : ℕ → Bool
is_ascii character = nat_lt character 128

-- a text can be a name of so many bytes: it has a character, no more than there is room for, and each is one of ASCII
abbrev pub is_name : (room : ℕ) → (text : List ℕ) → Bool
is_name room text = (nat_lt 0 (length text) && nat_le (length text) room) && list_all is_ascii text

-- What the table of a volume leaves out of a data set, in words.
use Rattle.std.specs.Prelude.{ℕ, Bool, true, false, List, [], ◌∷◌, ◌++◌, codes, Option, Some, None}
use Rattle.std.specs.List.{concat, flat_map}
use Rattle.std.specs.Fmt.{decimal}
use Rattle.volume_labels.specs.declared.fields.Extent.{Extent}
use Rattle.dasd_volumes.specs.Lines.{line_feed}
use Rattle.dasd_contents.specs.Words.{extent_text}
use Rattle.volume_details.specs.declared.indicators.Protection.{Protection}
use Rattle.volume_details.specs.declared.indicators.Protection.TheVariants as protection
use Rattle.volume_details.specs.declared.long.Described.{Described}
use Rattle.volume_details.specs.Indicators.{is_last_volume, protection_of, type_text}

-- a data set: its name, as that of a file; its extents; which of its volumes this is, the first being 1, and whether it is the last; the length
-- of its keys; and what a password is needed for
pub record Said : Type 0 where
  pub name : List ℕ
  pub extents : List Extent
  pub volume : ℕ
  pub is_last : Bool
  pub key_length : ℕ
  pub protection : Protection

abbrev pub described_by : Described → Said
described_by d = record {
  name = d.name.now;
  extents = d.set.now.extents.items;
  volume = d.set.now.block.volume;
  is_last = is_last_volume d.block.now;
  key_length = d.set.now.block.key_length;
  protection = protection_of d.block.now;
}

-- Lines.

-- an extent: its number, its type, and its first and last track
unfoldable pub extent_line : Extent → List ℕ
extent_line e =
    concat (codes "  extent " ∷ decimal e.number ∷ codes " " ∷ type_text e.kind ∷ codes " " ∷ extent_text e ∷ line_feed ∷ [])

abbrev pub last_words : Bool → List ℕ
last_words true = codes "the last"
last_words false = codes "not marked as the last"

unfoldable pub volume_line : (number : ℕ) → (is_last : Bool) → List ℕ
volume_line number is_last = concat (codes "  volume " ∷ decimal number ∷ codes ", " ∷ last_words is_last ∷ line_feed ∷ [])

abbrev pub protection_words : Protection → List ℕ
protection_words protection.None = codes "no password"
protection_words protection.Writes = codes "password to write"
protection_words protection.All = codes "password to read and to write"

unfoldable pub key_line : (length : ℕ) → Protection → List ℕ
key_line length p = concat (codes "  key length " ∷ decimal length ∷ codes ", " ∷ protection_words p ∷ line_feed ∷ [])

abbrev pub lines_text : Said → List ℕ
lines_text s = flat_map extent_line s.extents ++ (volume_line s.volume s.is_last ++ key_line s.key_length s.protection)

-- An object of JSON.

abbrev pub last_member : Bool → List ℕ
last_member true = codes "true"
last_member false = codes "false"

abbrev pub protection_member : Protection → List ℕ
protection_member protection.None = codes "none"
protection_member protection.Writes = codes "write"
protection_member protection.All = codes "all"

unfoldable pub object_text : (path : List ℕ) → Said → List ℕ
object_text path s = concat (
    codes "{\"path\":" ∷ path ∷ codes ",\"data_set\":\"" ∷ s.name ∷ codes "\",\"volume\":" ∷ decimal s.volume ∷ codes ",\"last_volume\":"
    ∷ last_member s.is_last ∷ codes ",\"password\":\"" ∷ protection_member s.protection ∷ codes "\"}" ∷ line_feed ∷ [])

-- one or the other
abbrev pub long_text : (json : Option (List ℕ)) → Said → List ℕ
long_text (Some path) s = object_text path s
long_text None s = lines_text s

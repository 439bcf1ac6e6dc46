-- What is printed of a volume's hash.
use Rattle.std.specs.Prelude.{ℕ, ◌==◌, Bool, if◌then◌else◌, List, [], ◌∷◌, ◌++◌, codes}
use Rattle.std.specs.List.{concat, flat_map}
use Rattle.std.specs.Fmt.{decimal}
use Rattle.hex.specs.Hex.{encode_lower}
use Rattle.ckd_track.specs.declared.geometries.Geometry.{Geometry}
use Rattle.counted_io.specs.Quantities.{quantity_text}
use Rattle.dasd_volumes.specs.Lines.{line_feed}
use Rattle.volume_hash.specs.Message.{volume_hash, unreadable_in}

-- a byte of a path: of one that would end the line, or that stands before such, a backslash and a letter or a backslash
abbrev pub escaped : ℕ → List ℕ
escaped byte = if byte == 10 then codes "\\n" else (if byte == 13 then codes "\\r" else (if byte == 92 then codes "\\\\" else byte ∷ []))

abbrev pub path_text : (path : List ℕ) → List ℕ
path_text path = flat_map escaped path

-- what was hashed: a volume, with its tracks that can't be read, if it has some
abbrev pub unreadable_kind : (unreadable : ℕ) → List ℕ
unreadable_kind unreadable = codes "volume with " ++ quantity_text unreadable (codes "unreadable track") (codes "unreadable tracks")

abbrev pub volume_kind : (unreadable : ℕ) → List ℕ
volume_kind unreadable = if unreadable == 0 then codes "volume" else unreadable_kind unreadable

-- the hash in hexadecimal digits, two blanks, what was hashed, and the path of the volume
abbrev pub volume_line : (path digits : List ℕ) → (unreadable : ℕ) → List ℕ
volume_line path digits unreadable =
    concat (digits ∷ codes "  " ∷ volume_kind unreadable ∷ codes " " ∷ path_text path ∷ line_feed ∷ [])

-- the same as an object of JSON; the path is a string of JSON, with its quotes
abbrev pub volume_object : (path digits : List ℕ) → (unreadable : ℕ) → List ℕ
volume_object path digits unreadable = concat (
    codes "{\"path\":" ∷ path ∷ codes ",\"hash\":\"" ∷ digits ∷ codes "\",\"unreadable\":" ∷ decimal unreadable ∷ codes "}" ∷ line_feed ∷ [])

abbrev pub line_or_object : (path : List ℕ) → (json : Bool) → (digits : List ℕ) → (unreadable : ℕ) → List ℕ
line_or_object path json digits unreadable = if json then volume_object path digits unreadable else volume_line path digits unreadable

-- what is printed of a volume
abbrev pub hash_text : (path : List ℕ) → (json : Bool) → Geometry → (slots : List (List ℕ)) → List ℕ
hash_text path json g slots = line_or_object path json (encode_lower (volume_hash g slots)) (unreadable_in g slots)

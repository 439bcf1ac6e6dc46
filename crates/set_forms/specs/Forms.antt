-- The lines of data sets and of the entries of their directories.
use Rattle.std.specs.Prelude.{ℕ, ◌==◌, Bool, not, List, [], ◌∷◌, ◌++◌, map, length, if◌then◌else◌, bit_and, codes, Option, Some, None}
use Rattle.std.specs.Prelude.{option_map}
use Rattle.std.specs.List.{flat_map, concat}
use Rattle.std.specs.Fmt.{decimal}
use Rattle.counted_io.specs.Text.{hexadecimal, bytes_text}
use Rattle.volume_labels.specs.Names.{safe_name_of}
use Rattle.set_forms.specs.declared.forms.SetForm.{SetForm}
use Rattle.set_forms.specs.declared.forms.SetDetails.{SetDetails}
use Rattle.set_forms.specs.declared.forms.EntryForm.{EntryForm}
use Rattle.set_forms.specs.declared.forms.Note.{Note}
use Rattle.set_forms.specs.declared.forms.Note.TheVariants.{Block, Address}
use Rattle.set_forms.specs.declared.forms.FormLine.{FormLine}
use Rattle.set_forms.specs.declared.forms.FormLine.TheVariants.{Set, Entry}
use Rattle.set_forms.specs.Numbers.{day_text}
use Rattle.set_forms.specs.Words.{bits_text, organisation_text, format_text}

-- a data set of this organisation has a directory
abbrev pub is_partitioned : ℕ → Bool
is_partitioned organisation = not (bit_and organisation 0x0200 == 0)

-- words, with a blank before each
abbrev pub spaced : List (List ℕ) → List ℕ
spaced words = flat_map (λ word. 32 ∷ word) words

-- the same at the end of a line
abbrev pub closed : List (List ℕ) → List ℕ
closed [] = 10 ∷ []
closed (word ∷ words) = 32 ∷ (word ++ closed words)

-- A line of a data set: its name, its organisation, its record format, the lengths of its records, blocks and keys, the days when it was
-- made and when it may be scratched, of a partitioned one how many blocks its directory has, and its volume and its extents, if these are told.

abbrev pub directory_words : Option ℕ → List (List ℕ)
directory_words None = []
directory_words (Some blocks) = codes "directory" ∷ decimal blocks ∷ []

-- the number of its volume among those of the data set, and the types of its extents that are no plain ones
abbrev pub details_words : Option SetDetails → List (List ℕ)
details_words None = []
details_words (Some d) = codes "volume" ∷ decimal d.volume ∷ codes "extents" ∷ bits_text (d.extents ∷ []) ∷ []

abbrev pub start_text : (name : List ℕ) → SetForm → List ℕ
start_text name s = concat (codes "data set" ∷ spaced (name ∷ organisation_text s.organisation ∷ format_text s.format ∷ []) ∷ [])

abbrev pub lengths_text : SetForm → List ℕ
lengths_text s = spaced (decimal s.record_length ∷ decimal s.block_length ∷ decimal s.key_length ∷ [])

abbrev pub days_text : SetForm → List ℕ
days_text s = spaced (day_text s.created ∷ day_text s.expires ∷ [])

-- the line of one whose file has this name
abbrev pub named_set_line : (name : List ℕ) → SetForm → List ℕ
named_set_line name s =
    start_text name s ++ (lengths_text s ++ (days_text s ++ (spaced (directory_words s.directory) ++ closed (details_words s.details))))

abbrev pub set_line : SetForm → List ℕ
set_line s = named_set_line (safe_name_of s.name) s

-- A line of an entry: its name, of another name of a member also that of the member, and its user data: where its notes lead, and the bytes
-- behind these.

abbrev pub names_text : (name : List ℕ) → (member : Option (List ℕ)) → List ℕ
names_text name None = concat (codes "member" ∷ spaced (name ∷ []) ∷ [])
names_text name (Some member) = concat (codes "alias" ∷ spaced (name ∷ member ∷ []) ∷ [])

-- a block of the member by its number, or an address of six digits; and the byte behind the address
abbrev pub note_text : Note → List ℕ
note_text (Block number byte) = concat (decimal number ∷ codes "/" ∷ hexadecimal 2 byte ∷ [])
note_text (Address address byte) = concat (codes "@" ∷ bytes_text address ∷ codes "/" ∷ hexadecimal 2 byte ∷ [])

abbrev pub user_words : List ℕ → List (List ℕ)
user_words bytes = if length bytes == 0 then [] else bytes_text bytes ∷ []

-- its user data, and the end of the line
unfoldable pub user_data_text : (notes : List Note) → (user : List ℕ) → List ℕ
user_data_text notes user = spaced (map note_text notes) ++ closed (user_words user)

-- the line of one whose files have these names
abbrev pub named_entry_line : (name : List ℕ) → (member : Option (List ℕ)) → EntryForm → List ℕ
named_entry_line name member e = names_text name member ++ user_data_text e.notes.items e.user.items

abbrev pub entry_line : EntryForm → List ℕ
entry_line e = named_entry_line (safe_name_of e.name) (option_map safe_name_of e.member) e

unfoldable pub form_line : FormLine → List ℕ
form_line (Set s) = set_line s
form_line (Entry e) = entry_line e

-- The text of lines.
abbrev pub text_of : List FormLine → List ℕ
text_of forms = flat_map form_line forms

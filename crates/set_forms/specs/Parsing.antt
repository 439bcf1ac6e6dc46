-- The forms that a text has.
use Rattle.std.specs.Prelude.{◌≡◌, ℕ, ◌+◌, ◌-◌, ◌*◌, ◌%◌, ◌==◌, Bool, true, false, ◌&&◌, ◌||◌, not, nat_lt, nat_le, if◌then◌else◌, List, []}
use Rattle.std.specs.Prelude.{◌∷◌, ◌++◌}
use Rattle.std.specs.Prelude.{length, take, drop, filter, slice_get, slice_index, bytes_eq, codes, Option, Some, None, option_map}
use Rattle.std.specs.Prelude.{option_and_then, is_some}
use Rattle.std.specs.Prelude.{Result, Ok, Err}
use Rattle.std.specs.List.{slice_split}
use Rattle.std.specs.Global.{Vec}
use Rattle.set_forms.specs.declared.forms.SetForm.{SetForm}
use Rattle.set_forms.specs.declared.forms.SetDetails.{SetDetails}
use Rattle.set_forms.specs.declared.sets.SetEnd.{SetEnd}
use Rattle.set_forms.specs.declared.forms.EntryForm.{EntryForm}
use Rattle.set_forms.specs.declared.forms.Note.{Note}
use Rattle.set_forms.specs.declared.forms.Note.TheVariants.{Block, Address}
use Rattle.set_forms.specs.declared.forms.FormLine.{FormLine}
use Rattle.set_forms.specs.declared.forms.FormLine.TheVariants.{Set, Entry}
use Rattle.set_forms.specs.declared.fault.FormLineFault.{FormLineFault}
use Rattle.set_forms.specs.declared.fault.FormLineFault.TheVariants as fault
use Rattle.set_forms.specs.declared.fault.TextFault.{TextFault}
use Rattle.set_forms.specs.declared.fault.TextFault.TheVariants.{OutOfMemory, Line}
use Rattle.set_forms.specs.Numbers.{number_of, byte_of, bytes_of, three_of, day_of}
use Rattle.set_forms.specs.Names.{name_of}
use Rattle.set_forms.specs.Words.{byte_in, organisation_of, format_of}
use Rattle.set_forms.specs.Forms.{is_partitioned}

-- what is read on of a word that says something; one that says nothing is wrong in this way
abbrev pub read_on : {A B : Type 0} → FormLineFault → Option A → (A → Result B FormLineFault) → Result B FormLineFault
read_on f None next = Err f
read_on f (Some x) next = next x

-- The words of a data set's line.

-- its volume and its extents, by the values of their words
abbrev pub details_of : (volume extents : List ℕ) → Option SetDetails
details_of volume extents =
    option_and_then (λ v. option_map (λ e. record { volume = v; extents = e }) (byte_in extents)) (number_of 65535 volume)

-- both stand there, or none
abbrev pub details_read : List (List ℕ) → Result (Option SetDetails) FormLineFault
details_read [] = Ok None
details_read (key ∷ volume ∷ other ∷ extents ∷ []) =
    if bytes_eq key (codes "volume") && bytes_eq other (codes "extents") then read_on fault.Details (details_of volume extents) (λ d. Ok (Some d))
    else Err fault.Details
details_read words = Err fault.Details

-- the words behind the days of a data set whose directory has so many blocks, behind which these details stand
abbrev pub ended : (directory : Option ℕ) → Result (Option SetDetails) FormLineFault → Result SetEnd FormLineFault
ended directory (Ok details) = Ok (record { directory = directory; details = details })
ended directory (Err f) = Err f

-- how long the directory is, and what stands behind that
abbrev pub directory_read : List (List ℕ) → Result SetEnd FormLineFault
directory_read [] = Err fault.Directory
directory_read (blocks ∷ words) = read_on fault.Directory (number_of 65535 blocks) (λ n. ended (Some n) (details_read words))

-- a partitioned one, and no other, says how long its directory is
abbrev pub end_read : (is_partitioned : Bool) → List (List ℕ) → Result SetEnd FormLineFault
end_read p [] = if p then Err fault.Directory else ended None (details_read [])
end_read p (word ∷ words) =
    if bytes_eq word (codes "directory") then (if p then directory_read words else Err fault.Directory)
    else (if p then Err fault.Directory
    else ended None (details_read (word ∷ words)))

-- what stands at the end of its line, if all else is read
abbrev pub with_end : SetForm → Result SetEnd FormLineFault → Result SetForm FormLineFault
with_end s (Ok e) = Ok (record s { directory = e.directory; details = e.details })
with_end s (Err f) = Err f

abbrev pub set_read : List (List ℕ) → Result SetForm FormLineFault
set_read (kind ∷ name ∷ organisation ∷ format ∷ record_length ∷ block_length ∷ key_length ∷ created ∷ expires ∷ end) =
    if not (bytes_eq kind (codes "set")) then Err fault.Kind
    else read_on fault.Name (name_of 44 name)
    (λ n. read_on fault.Organisation (organisation_of organisation)
    (λ o. read_on fault.Format (format_of format)
    (λ f. read_on fault.RecordLength (number_of 65535 record_length)
    (λ r. read_on fault.BlockLength (number_of 65535 block_length)
    (λ b. read_on fault.KeyLength (number_of 255 key_length)
    (λ k. read_on fault.Day (day_of created)
    (λ c. read_on fault.Day (day_of expires)
    (λ e. with_end (record {
      name = n;
      organisation = o;
      format = f;
      record_length = r;
      block_length = b;
      key_length = k;
      created = c;
      expires = e;
      directory = None;
      details = None;
    }) (end_read (is_partitioned o) end)))))))))
set_read words = Err fault.Words

-- The words of an entry's line.

-- a note has a slash before its last two characters
abbrev pub is_note : List ℕ → Bool
is_note word = nat_le 3 (length word) && (slice_index word (length word - 3) == 47)

-- a block of the member by its number, the first being 1
abbrev pub block_note : (byte number : ℕ) → Option Note
block_note byte number = if number == 0 then None else Some (Block number byte)

-- or an address behind an @
abbrev pub note_at : List ℕ → (byte : ℕ) → Option Note
note_at front byte =
    if nat_lt 0 (length front) && (slice_index front 0 == 64) then option_map (λ address. Address address byte) (three_of (drop 1 front))
    else option_and_then (block_note byte) (number_of 4294967295 front)

abbrev pub note_of : List ℕ → Option Note
note_of word =
    option_and_then (note_at (take (length word - 3) word)) (byte_of (slice_index word (length word - 2)) (slice_index word
    (length word - 1)))

-- at most three notes, and before the user data
abbrev pub note_added : EntryForm → Option Note → Result EntryForm FormLineFault
note_added e None = Err fault.Note
note_added e (Some note) =
    if nat_le 3 (length e.notes.items) || nat_lt 0 (length e.user.items) then Err fault.Note
    else Ok (record e { notes = record { items = e.notes.items ++ note ∷ [] } })

-- user data in one word, of whole halfwords, and with four bytes for each note at most 62 bytes
abbrev pub user_added : EntryForm → Option (List ℕ) → Result EntryForm FormLineFault
user_added e None = Err fault.UserData
user_added e (Some bytes) =
    if nat_lt 0 (length e.user.items) || (not (length bytes % 2 == 0) || nat_lt 62 (4 * length e.notes.items + length bytes))
    then Err fault.UserData
    else Ok (record e { user = record { items = bytes } })

abbrev pub added : EntryForm → (word : List ℕ) → Result EntryForm FormLineFault
added e word = if is_note word then note_added e (note_of word) else user_added e (if nat_lt 124 (length word) then None else bytes_of word)

-- the first word that is wrong ends it
abbrev pub and_behind : Result EntryForm FormLineFault → (EntryForm → Result EntryForm FormLineFault) → Result EntryForm FormLineFault
and_behind (Ok e) next = next e
and_behind (Err f) next = Err f

abbrev pub entry_behind : EntryForm → List (List ℕ) → Result EntryForm FormLineFault
entry_behind e [] = Ok e
entry_behind e (word ∷ words) = and_behind (added e word) (λ more. entry_behind more words)

-- an entry without user data
abbrev pub entry_of : (name : List ℕ) → (member : Option (List ℕ)) → EntryForm
entry_of name member = record { name = name; member = member; notes = record { items = [] }; user = record { items = [] } }

abbrev pub member_read : List (List ℕ) → Result EntryForm FormLineFault
member_read [] = Err fault.Words
member_read (name ∷ words) = read_on fault.Name (name_of 8 name) (λ n. entry_behind (entry_of n None) words)

abbrev pub alias_read : List (List ℕ) → Result EntryForm FormLineFault
alias_read (name ∷ member ∷ words) =
    read_on fault.Name (name_of 8 name) (λ n. read_on fault.Name (name_of 8 member) (λ m. entry_behind (entry_of n (Some m)) words))
alias_read words = Err fault.Words

-- what is left of an entry: it is this, or it is wrong
abbrev pub left_by : {A : Type 0} → Result A FormLineFault → EntryForm → Result EntryForm FormLineFault
left_by (Ok _) e = Ok e
left_by (Err f) e = Err f

-- Lines.

-- words are separated by blanks, tabs and carriage returns
abbrev pub is_blank : ℕ → Bool
is_blank c = (c == 32) || ((c == 9) || (c == 13))

abbrev pub words_of : List ℕ → List (List ℕ)
words_of line = filter (λ word. not (length word == 0)) (slice_split is_blank line)

-- a comment begins with a number sign
abbrev pub is_comment : List ℕ → Bool
is_comment [] = false
is_comment (c ∷ word) = c == 35

-- a line of a data set, or of an entry
abbrev pub a_set : Result SetForm FormLineFault → Result (Option FormLine) FormLineFault
a_set (Ok s) = Ok (Some (Set s))
a_set (Err f) = Err f

abbrev pub an_entry : Result EntryForm FormLineFault → Result (Option FormLine) FormLineFault
an_entry (Ok e) = Ok (Some (Entry e))
an_entry (Err f) = Err f

abbrev pub words_read : List (List ℕ) → Result (Option FormLine) FormLineFault
words_read [] = Ok None
words_read (first ∷ words) =
    if is_comment first then Ok None
    else (if bytes_eq first (codes "data") then a_set (set_read words)
    else (if bytes_eq first (codes "member") then an_entry (member_read words)
    else (if bytes_eq first (codes "alias") then an_entry (alias_read words)
    else Err fault.Kind)))

abbrev pub line_read : List ℕ → Result (Option FormLine) FormLineFault
line_read line = words_read (words_of line)

-- Texts.

-- an entry stands behind its data set, which has a directory, or behind another entry of it
abbrev pub may_have_entry : Option FormLine → Bool
may_have_entry None = false
may_have_entry (Some (Set s)) = is_some s.directory
may_have_entry (Some (Entry e)) = true

abbrev pub fits : List FormLine → FormLine → Bool
fits forms (Set s) = true
fits forms (Entry e) = may_have_entry (slice_get forms (length forms - 1))

-- the forms of the lines so far, with that of one line more, if it has one
abbrev pub line_added : List FormLine → Result (Option FormLine) FormLineFault → Result (List FormLine) FormLineFault
line_added forms (Err f) = Err f
line_added forms (Ok None) = Ok forms
line_added forms (Ok (Some form)) = if fits forms form then Ok (forms ++ form ∷ []) else Err fault.NoDirectory

-- the first line that is wrong ends it
abbrev pub on_line : (number : ℕ) → Result (List FormLine) FormLineFault → (List FormLine → Result (List FormLine) TextFault)
    → Result (List FormLine) TextFault
on_line number (Ok forms) next = next forms
on_line number (Err f) next = Err (Line number f)

-- these forms, and behind them those of lines that are numbered from here on
abbrev pub forms_behind : List FormLine → (number : ℕ) → List (List ℕ) → Result (List FormLine) TextFault
forms_behind forms number [] = Ok forms
forms_behind forms number (line ∷ lines) =
    on_line number (line_added forms (line_read line)) (λ more. forms_behind more (number + 1) lines)

-- each line ends with a line feed, which the last may lack
abbrev pub lines_of : List ℕ → List (List ℕ)
lines_of text = slice_split (λ c. c == 10) text

-- The forms of a text, or its first line that is wrong.
abbrev pub parsed : List ℕ → Result (List FormLine) TextFault
parsed text = forms_behind [] 1 (lines_of text)

-- A line was added so. Where memory ran out, this says nothing.
abbrev pub IsAdded : {A : Type 0} → (number : ℕ) → (all : Result (List FormLine) FormLineFault) → Result A TextFault
    → (forms : List FormLine) → Type 0
IsAdded number all (Ok _) forms = all ≡ Ok forms
IsAdded number all (Err OutOfMemory) forms = Unit {0}
IsAdded number all (Err (Line n f)) forms = (n ≡ number) × (all ≡ Err f)

-- A text was parsed so, likewise.
abbrev pub IsParsed : Result (List FormLine) TextFault → Result (Vec FormLine) TextFault → Type 0
IsParsed all (Ok forms) = all ≡ Ok forms.items
IsParsed all (Err OutOfMemory) = Unit {0}
IsParsed all (Err (Line n f)) = all ≡ Err (Line n f)

-- The lines of members, and of what is wrong with them. The name of a member or of a library is that of a file for it.
use Rattle.std.specs.Prelude.{ℕ, ◌-◌, Bool, true, false, if◌then◌else◌, List, [], ◌∷◌, ◌++◌, length, replicate, codes, Option, Some, None}
use Rattle.std.specs.Option.{option_copied}
use Rattle.std.specs.List.{concat}
use Rattle.std.specs.Fmt.{decimal}
use Rattle.volume_labels.specs.declared.directories.DirectoryEntry.{DirectoryEntry}
use Rattle.volume_labels.specs.declared.directories.DirectoryFault.{DirectoryFault}
use Rattle.volume_labels.specs.declared.directories.DirectoryFault.TheVariants.{UsedBytes, EntryPastUsed}
use Rattle.dasd_volumes.specs.Lines.{hexadecimal, bytes_text, line_feed}
use Rattle.dasd_extract.specs.declared.stops.Cause.{Cause}
use Rattle.dasd_extract.specs.declared.stops.Cause.TheVariants.{EndOfFile}
use Rattle.dasd_extract.specs.declared.stops.Stop.{Stop}
use Rattle.dasd_extract.specs.Stops.{stop_text}
use Rattle.library_contents.specs.declared.lines.MembersForm.{MembersForm}
use Rattle.library_contents.specs.declared.lines.Listed.{Listed}
use Rattle.library_contents.specs.declared.lines.Wrong.{Wrong}
use Rattle.library_contents.specs.declared.lines.Wrong.TheVariants.{Directory, Ends}
use Rattle.library_contents.specs.Report.{Line, plain, wrong}

-- how members are listed: as objects of JSON with the paths of the volume, or as lines behind a margin; and the name of their library
pub record Shown : Type 0 where
  pub json : Option (List ℕ)
  pub margin : List ℕ
  pub name : List ℕ

abbrev pub shown : MembersForm → Shown
shown f = record { json = option_copied f.json; margin = f.margin.now; name = f.name.now }

-- a member that is listed: its entry, its name, its user data, and how many bytes its blocks have
pub record Member : Type 0 where
  pub entry : DirectoryEntry
  pub name : List ℕ
  pub user : List ℕ
  pub bytes : ℕ

abbrev pub listed_by : Listed → Member
listed_by l = record { entry = l.entry; name = l.name.now; user = l.user.now; bytes = l.bytes }

-- A line of text: where the member begins, its track and its record in hexadecimal digits; whether it is another name; how many bytes its
-- user data and its blocks have; and its name.

-- a number, with blanks before it up to a width
abbrev pub at_right : (width n : ℕ) → List ℕ
at_right width n = replicate (width - length (decimal n)) 32 ++ decimal n

abbrev pub alias_word : Bool → List ℕ
alias_word true = codes "yes  "
alias_word false = codes "no   "

unfoldable pub member_line : (margin : List ℕ) → Member → List ℕ
member_line margin m = concat (
    margin ∷ hexadecimal 4 m.entry.address.track ∷ hexadecimal 2 m.entry.address.number ∷ codes " " ∷ alias_word m.entry.is_alias ∷ codes " "
    ∷ at_right 4 (length m.user) ∷ codes " " ∷ at_right 8 m.bytes ∷ codes " " ∷ m.name ∷ line_feed ∷ [])

-- what stands above the columns
unfoldable pub heading : (margin : List ℕ) → List ℕ
heading margin = concat (margin ∷ codes "TTR    Alias User    Bytes Member" ∷ line_feed ∷ [])

-- An object of JSON, with the user data in hexadecimal digits.

abbrev pub true_or_false : Bool → List ℕ
true_or_false true = codes "true"
true_or_false false = codes "false"

-- its names
unfoldable pub name_members : (path data_set name : List ℕ) → List ℕ
name_members path data_set name = concat (
    codes "{\"path\":" ∷ path ∷ codes ",\"data_set\":\"" ∷ data_set ∷ codes "\",\"member\":\"" ∷ name ∷ codes "\"" ∷ [])

-- what its entry says, and how many bytes its blocks have
unfoldable pub entry_members : Member → List ℕ
entry_members m = concat (
    codes ",\"alias\":" ∷ true_or_false m.entry.is_alias ∷ codes ",\"track\":" ∷ decimal m.entry.address.track ∷ codes ",\"record\":"
    ∷ decimal m.entry.address.number ∷ codes ",\"user_data\":\"" ∷ bytes_text m.user ∷ codes "\",\"bytes\":" ∷ decimal m.bytes ∷ codes "}"
    ∷ line_feed ∷ [])

abbrev pub member_object : (path data_set : List ℕ) → Member → List ℕ
member_object path data_set m = name_members path data_set m.name ++ entry_members m

-- one or the other
abbrev pub text_for : (json : Option (List ℕ)) → Shown → Member → List ℕ
text_for (Some path) s m = member_object path s.name m
text_for None s m = member_line s.margin m

abbrev pub member_text : Shown → Member → List ℕ
member_text s m = text_for s.json s m

-- the heading, which objects have not
abbrev pub heading_for : (json : Option (List ℕ)) → Shown → List Line
heading_for (Some path) s = []
heading_for None s = plain (heading s.margin) ∷ []

abbrev pub heading_lines : Shown → List Line
heading_lines s = heading_for s.json s

-- What is wrong: with a library, or with a member of it.

abbrev pub what : (name : List ℕ) → (member : Option (List ℕ)) → List ℕ
what name None = name
what name (Some member) = concat (name ∷ codes "(" ∷ member ∷ codes ")" ∷ [])

abbrev pub finding_for : (json : Option (List ℕ)) → Shown → (what text : List ℕ) → List ℕ
finding_for (Some path) s what text =
    concat (codes "{\"path\":" ∷ path ∷ codes ",\"name\":\"" ∷ what ∷ codes "\",\"text\":\"" ∷ text ∷ codes "\"}" ∷ line_feed ∷ [])
finding_for None s what text = concat (s.margin ∷ what ∷ codes ": " ∷ text ∷ line_feed ∷ [])

abbrev pub finding_text : Shown → (member : Option (List ℕ)) → (text : List ℕ) → List ℕ
finding_text s member text = finding_for s.json s (what s.name member) text

-- why a directory is not read on
abbrev pub directory_text : DirectoryFault → List ℕ
directory_text UsedBytes = codes "a directory block has a count of bytes that can't be"
directory_text EntryPastUsed = codes "an entry of the directory ends after its block"

abbrev pub wrong_text : Wrong → List ℕ
wrong_text (Directory fault) = directory_text fault
wrong_text (Ends stop) = stop_text stop

-- blocks end as they must
abbrev pub is_end : Cause → Bool
is_end EndOfFile = true
is_end other = false

-- blocks that end before their end of file have a line
abbrev pub end_lines : Shown → (member : Option (List ℕ)) → Option Stop → List Line
end_lines s member None = []
end_lines s member (Some stop) = if is_end stop.cause then [] else wrong (finding_text s member (stop_text stop)) ∷ []

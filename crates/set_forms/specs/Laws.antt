-- What is written of forms is read as these forms.
use Rattle.std.specs.Prelude.{◌≡◌, ℕ, ◌+◌, ◌*◌, ◌%◌, ◌<◌, ◌≤◌, Bool, true, false, List, [], ◌∷◌, ◌++◌, length, Option, Some, None, IfSome}
use Rattle.std.specs.Prelude.{Ok}
use Rattle.std.specs.List.{All}
use Rattle.volume_labels.specs.declared.fields.Date.{Date}
use Rattle.set_forms.specs.declared.forms.SetForm.{SetForm}
use Rattle.set_forms.specs.declared.forms.SetDetails.{SetDetails}
use Rattle.set_forms.specs.declared.forms.EntryForm.{EntryForm}
use Rattle.set_forms.specs.declared.forms.Note.{Note}
use Rattle.set_forms.specs.declared.forms.Note.TheVariants.{Block, Address}
use Rattle.set_forms.specs.declared.forms.FormLine.{FormLine}
use Rattle.set_forms.specs.declared.forms.FormLine.TheVariants.{Set, Entry}
use Rattle.set_forms.specs.Forms.{is_partitioned, text_of}
use Rattle.set_forms.specs.Parsing.{fits, parsed}

-- so many bytes
pub record AreBytes (count : ℕ) (bytes : List ℕ) : Type 0 where
  pub many : length bytes ≡ count
  pub small : All (λ b. b < 256) bytes

pub record IsDay (d : Date) : Type 0 where
  pub year : d.year < 256
  pub day : d.day < 65536

-- a partitioned data set, and no other, has a directory
abbrev pub HasDirectory : (is_partitioned : Bool) → Option ℕ → Type 0
HasDirectory true (Some blocks) = blocks < 65536
HasDirectory false None = Unit {0}
HasDirectory is_partitioned directory = ⊥

pub record AreDetails (d : SetDetails) : Type 0 where
  pub volume : d.volume < 65536
  pub extents : d.extents < 256

-- what a label can say: numbers of one byte and of two
pub record IsSetForm (s : SetForm) : Type 0 where
  pub name : AreBytes 44 s.name
  pub organisation : s.organisation < 65536
  pub format : s.format < 256
  pub record_length : s.record_length < 65536
  pub block_length : s.block_length < 65536
  pub key_length : s.key_length < 256
  pub created : IsDay s.created
  pub expires : IsDay s.expires
  pub directory : HasDirectory (is_partitioned s.organisation) s.directory
  pub details : IfSome s.details AreDetails

abbrev pub IsNote : Note → Type 0
IsNote (Block number byte) = (0 < number) × (number < 4294967296) × (byte < 256)
IsNote (Address address byte) = AreBytes 3 address × (byte < 256)

-- what an entry can say: its user data are at most 31 halfwords, and each note takes two of them
pub record IsEntryForm (e : EntryForm) : Type 0 where
  pub name : AreBytes 8 e.name
  pub member : IfSome e.member (AreBytes 8)
  pub few : length e.notes.items ≤ 3
  pub notes : All IsNote e.notes.items
  pub user : All (λ b. b < 256) e.user.items
  pub halfwords : length e.user.items % 2 ≡ 0
  pub room : 4 * length e.notes.items + length e.user.items ≤ 62

abbrev pub IsForm : FormLine → Type 0
IsForm (Set s) = IsSetForm s
IsForm (Entry e) = IsEntryForm e

-- forms that can stand behind others: each entry behind its data set
abbrev pub AreForms : (before : List FormLine) → List FormLine → Type 0
AreForms before [] = Unit {0}
AreForms before (form ∷ forms) = IsForm form × (fits before form ≡ true) × AreForms (before ++ form ∷ []) forms

-- What is written of forms is read as these.
abbrev pub AreReadBack : Type 0
AreReadBack = (forms : List FormLine) → AreForms [] forms → parsed (text_of forms) ≡ Ok forms

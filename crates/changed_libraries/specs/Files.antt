-- What a change of a member of a library of a volume in files leaves and prints.
use Rattle.std.specs.Prelude.{◌≡◌, ◌⊎◌, ℕ, true, false, List, [], ◌∷◌, codes, Result, Err}
use Rattle.std.specs.List.{concat}
use Rattle.dasd_extract.specs.Names.{Names, is_name}
use Rattle.changed_volumes.specs.declared.fault.ChangeFault.{ChangeFault}
use Rattle.changed_volumes.specs.declared.fault.ChangeFault.TheVariants as fault
use Rattle.changed_volumes.specs.Files.{Around, TellsChange}
use Rattle.member_changes.specs.declared.entries.EntryChange.TheVariants.{Delete, Rename}
use Rattle.member_changes.specs.declared.refusal.MemberRefusal.{MemberRefusal}
use Rattle.member_changes.specs.declared.refusal.MemberRefusal.TheVariants as refusal
use Rattle.member_changes.specs.Names.{is_member_name}
use Rattle.changed_libraries.specs.Changes.{changing}

-- a member as it is written: the library's name, and its own in parentheses
abbrev pub member_word : (library member : List ℕ) → List ℕ
member_word library member = concat (library ∷ codes "(" ∷ member ∷ codes ")" ∷ [])

-- what a deletion prints
abbrev pub deleted_line : (library member : List ℕ) → List ℕ
deleted_line library member = concat (codes "deleted " ∷ member_word library member ∷ (10 ∷ []) ∷ [])

-- what a rename prints
abbrev pub renamed_line : (library old new : List ℕ) → List ℕ
renamed_line library old new = concat (codes "renamed " ∷ member_word library old ∷ codes " to " ∷ member_word library new ∷ (10 ∷ []) ∷ [])

-- these texts name a library and a member that a volume may have
pub record AreNames (library member library_name name : List ℕ) : Type 0 where
  pub of_library : Names library library_name
  pub of_member : Names member name

-- why names are refused before a file is opened: no library has the one, or no member the other
abbrev pub NoNames : MemberRefusal → (library member : List ℕ) → Type 0
NoNames refusal.NoDataSet library member = is_name 44 library ≡ false
NoNames refusal.NoMember library member = (is_name 44 library ≡ true) × (is_name 8 member ≡ false)
NoNames other library member = ⊥

-- A member of a library of the volume in files is deleted; or the names are refused, and no file is opened or written and nothing printed.
abbrev pub DeletesMember : {A : Type 0} → Result A (ChangeFault MemberRefusal) → (paths : List (List ℕ)) → (library member : List ℕ)
    → (before now : Around) → Type 0
DeletesMember result paths library member before now =
    ((r : MemberRefusal) × (result ≡ Err (fault.Refused r)) × NoNames r library member × (now ≡ before))
    ⊎ ((library_name name : List ℕ) × AreNames library member library_name name
    × TellsChange result (changing library_name (Delete name)) paths (λ done. deleted_line library member) before now)

-- the new name is none of a member; or it is one, and the library and the old name are refused
abbrev pub NoNewName : MemberRefusal → (library old new : List ℕ) → Type 0
NoNewName refusal.NoName library old new = is_member_name new ≡ false
NoNewName r library old new = (is_member_name new ≡ true) × NoNames r library old

-- A member gets another name; or the names are refused, and no file is opened or written and nothing printed.
abbrev pub RenamesMember : {A : Type 0} → Result A (ChangeFault MemberRefusal) → (paths : List (List ℕ)) → (library old new : List ℕ)
    → (before now : Around) → Type 0
RenamesMember result paths library old new before now =
    ((r : MemberRefusal) × (result ≡ Err (fault.Refused r)) × NoNewName r library old new × (now ≡ before))
    ⊎ ((library_name old_name new_name : List ℕ) × AreNames library old library_name old_name
    × (is_member_name new ≡ true) × Names new new_name
    × TellsChange result (changing library_name (Rename old_name new_name)) paths (λ done. renamed_line library old new) before now)

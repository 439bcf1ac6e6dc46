-- What is put into a library of a volume in files, and what that leaves and prints.
use Rattle.std.specs.Prelude.{◌≡◌, ◌⊎◌, ℕ, ◌==◌, true, false, if◌then◌else◌, List, [], ◌∷◌, codes, Result, Ok, Err}
use Rattle.std.specs.List.{concat}
use Rattle.std.specs.Fmt.{decimal}
use Rattle.dasd_extract.specs.Names.{Names}
use Rattle.dasd_jobs.specs.Sources.{ReadsFront}
use Rattle.dasd_jobs.specs.declared.faults.JobFault.TheVariants as job
use Rattle.volume_changes.specs.Names.{is_set_name}
use Rattle.changed_volumes.specs.Changes.{Changing}
use Rattle.changed_volumes.specs.Files.{Around, TellsChange}
use Rattle.loaded_folders.specs.declared.added.AddedMember.{AddedMember}
use Rattle.loaded_folders.specs.Faults.{NewMemberFault}
use Rattle.changed_volumes.specs.declared.fault.ChangeFault.TheVariants as fault
use Rattle.loaded_folders.specs.declared.member_fault.NewMemberRefusal.{NewMemberRefusal}
use Rattle.loaded_folders.specs.declared.member_fault.NewMemberRefusal.TheVariants as refusal
use Rattle.loaded_folders.specs.declared.member_saves.NewMemberFile.{NewMemberFile}
use Rattle.loaded_folders.specs.Added.{Added, Refuses}
use Rattle.member_changes.specs.Names.{is_member_name}

-- what is printed of a member that was put into a library with so many tracks
abbrev pub added_line : (library member : List ℕ) → (tracks : ℕ) → List ℕ
added_line library member tracks = concat (
    codes "loaded " ∷ library ∷ codes "(" ∷ member ∷ codes ") " ∷ decimal tracks ∷ (if tracks == 1 then codes " track" else codes " tracks")
    ∷ (10 ∷ []) ∷ [])

-- a member is put into a library, and so many tracks are answered
abbrev pub adding : AddedMember → Changing ℕ NewMemberRefusal
adding added = record {
  makes = λ g before tracks now. Added added g before tracks now;
  refuses = λ r g slots. Refuses r added g slots;
}

-- the names that are asked for may be those of a library and of a member
pub record AreNames (asked : NewMemberFile) : Type 0 where
  pub library : is_set_name asked.library.now ≡ true
  pub member : is_member_name asked.member.now ≡ true

-- why no volume is opened: the name of the library is none, or else that of the member, or else the file with the blocks is not read
abbrev pub IsUnread : NewMemberFault → NewMemberFile → Type 0
IsUnread (fault.Refused refusal.NoName) asked = is_set_name asked.library.now ≡ false
IsUnread (fault.Refused refusal.NoMemberName) asked =
    (is_set_name asked.library.now ≡ true) × (is_member_name asked.member.now ≡ false)
IsUnread (fault.Job job.OutOfMemory) asked = AreNames asked
IsUnread (fault.Job job.Read) asked = AreNames asked
IsUnread f asked = ⊥

-- This member is asked for: of this name, for the library of this name, with the first bytes of the file, which are all where a volume has
-- room for them. They were read, no file was written and nothing printed.
pub record IsAsked (asked : NewMemberFile) (added : AddedMember) (before now : Around) : Type 0 where
  pub named : AreNames asked
  pub library : Names asked.library.now added.library
  pub name : Names asked.member.now added.name
  pub source : added.source ≡ asked.source
  pub bytes : ReadsFront asked.path.now 9560245800 added.bytes.now before.opened now.opened
  pub kept : now.written ≡ before.written
  pub silent : now.printed ≡ before.printed

-- A member is put into a library of the volume in files; or a name is none or the file is not read, and no other file is opened, none
-- written and nothing printed.
abbrev pub LoadsMember : {A : Type 0} → Result A NewMemberFault → NewMemberFile → (paths : List (List ℕ)) → (before now : Around) → Type 0
LoadsMember result asked paths before now =
    ((f : NewMemberFault) × (result ≡ Err f) × IsUnread f asked × (now ≡ before))
    ⊎ ((added : AddedMember) × (between : Around) × IsAsked asked added before between
    × TellsChange result (adding added) paths (added_line asked.library.now asked.member.now) between now)

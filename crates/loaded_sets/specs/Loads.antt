-- What is put onto a volume in files, and what that leaves and prints.
use Rattle.std.specs.Prelude.{◌≡◌, ◌⊎◌, ℕ, ◌==◌, true, false, if◌then◌else◌, List, [], ◌∷◌, codes, Result, Ok, Err}
use Rattle.std.specs.List.{concat}
use Rattle.std.specs.Fmt.{decimal}
use Rattle.dasd_extract.specs.Names.{Names}
use Rattle.dasd_jobs.specs.Sources.{ReadsFront}
use Rattle.dasd_jobs.specs.declared.faults.JobFault.TheVariants as job
use Rattle.volume_changes.specs.Names.{is_set_name}
use Rattle.changed_volumes.specs.Changes.{Changing}
use Rattle.changed_volumes.specs.Files.{Around, TellsChange}
use Rattle.loaded_sets.specs.Loaded.{Loaded, Refuses}
use Rattle.loaded_sets.specs.Contents.{new_label}
use Rattle.loaded_sets.specs.Faults.{LoadFault}
use Rattle.changed_volumes.specs.declared.fault.ChangeFault.TheVariants as fault
use Rattle.loaded_sets.specs.declared.fault.LoadRefusal.{LoadRefusal}
use Rattle.loaded_sets.specs.declared.fault.LoadRefusal.TheVariants as refusal
use Rattle.loaded_sets.specs.declared.contents.LoadedSet.{LoadedSet}
use Rattle.loaded_sets.specs.declared.saves.NewSet.{NewSet}

-- what is printed of a data set with so many tracks
abbrev pub loaded_line : (name : List ℕ) → (tracks : ℕ) → List ℕ
loaded_line name tracks =
    concat (codes "loaded " ∷ name ∷ codes " " ∷ decimal tracks ∷ (if tracks == 1 then codes " track" else codes " tracks") ∷ (10 ∷ []) ∷ [])

-- a data set is put onto a volume, and so many tracks are answered
abbrev pub loading : LoadedSet → Changing ℕ LoadRefusal
loading set = record {
  makes = λ g before tracks now. Loaded set g before tracks now;
  refuses = λ r g slots. Refuses r set g slots;
}

-- why no volume is opened: the name is none, or the file with the blocks is not read
abbrev pub IsUnread : LoadFault → (name : List ℕ) → Type 0
IsUnread (fault.Refused refusal.NoName) name = is_set_name name ≡ false
IsUnread (fault.Job job.OutOfMemory) name = is_set_name name ≡ true
IsUnread (fault.Job job.Read) name = is_set_name name ≡ true
IsUnread f name = ⊥

-- This data set is asked for: of this name, with the first bytes of the file as its blocks, which are all where a volume has room for them. They
-- were read, no file was written and nothing printed.
pub record IsAsked (asked : NewSet) (set : LoadedSet) (before now : Around) : Type 0 where
  pub named : is_set_name asked.name.now ≡ true
  pub name : Names asked.name.now set.name
  pub form : set.form ≡ asked.form
  pub new : set.kept ≡ new_label
  pub source : set.source ≡ asked.source
  pub bytes : ReadsFront asked.path.now 9560245800 set.bytes.now before.opened now.opened
  pub kept : now.written ≡ before.written
  pub silent : now.printed ≡ before.printed

-- A data set is put onto the volume in files; or its name is none or its file is not read, and no other file is opened, none written and
-- nothing printed.
abbrev pub LoadsSet : {A : Type 0} → Result A LoadFault → NewSet → (paths : List (List ℕ)) → (before now : Around) → Type 0
LoadsSet result asked paths before now =
    ((f : LoadFault) × (result ≡ Err f) × IsUnread f asked.name.now × (now ≡ before))
    ⊎ ((set : LoadedSet) × (between : Around) × IsAsked asked set before between
    × TellsChange result (loading set) paths (loaded_line asked.name.now) between now)

-- What commands do that put the files of a folder onto a volume, or a member into a library.
use Rattle.std.specs.Prelude.{◌≡◌, map, Result, OnOk}
use Rattle.counted_io.specs.Streams.{IsFlushed}
use Rattle.loaded_folders.specs.MemberLoads.{LoadsMember}
use Rattle.loaded_folders.specs.Faults.{FolderFault, NewMemberFault}
use Rattle.loaded_folders.specs.declared.member_saves.NewMemberFile.{NewMemberFile}
use Rattle.dasd_run.specs.declared.commands.Ending.{Ending}
use Rattle.program_faults.specs.declared.fault.ProgramFault.{ProgramFault}
use Rattle.dasd_run.specs.Changes.{source_of}
use Rattle.dasd_run.specs.Ended.{done_or}
use Rattle.program_faults.specs.Faults.{folder_fault, add_fault}
use Rattle.dasd_run.specs.Outside.{Outside, around}
use Rattle.dasd_words.specs.declared.requests.LoadedFolder.{LoadedFolder}
use Rattle.dasd_words.specs.declared.requests.LoadedMember.{LoadedMember}
use Rattle.loaded_folders.specs.Loads.{LoadsFolder}
use Rattle.loaded_folders.specs.declared.saves.NewFolder.{NewFolder}

-- the data sets of the folder that is asked for are put onto the volume, and their lines printed and flushed
abbrev pub FolderAsked : Result Ending ProgramFault → LoadedFolder → (before now : Outside) → Type 0
FolderAsked result asked before now =
    (job : Result (Unit {0}) FolderFault) × (result ≡ done_or folder_fault job)
    × LoadsFolder job (record { folder = asked.folder; source = source_of asked.form }) (map (λ path. path.now) asked.paths.items)
    (around before) (around now)
    × OnOk job (IsFlushed now.printed)

-- the member that is asked for
abbrev pub new_member_of : LoadedMember → NewMemberFile
new_member_of asked = record { library = asked.library; member = asked.member; path = asked.source; source = source_of asked.form }

-- it is put into its library, and its line printed and flushed
abbrev pub MemberAsked : Result Ending ProgramFault → LoadedMember → (before now : Outside) → Type 0
MemberAsked result asked before now =
    (job : Result (Unit {0}) NewMemberFault) × (result ≡ done_or add_fault job)
    × LoadsMember job (new_member_of asked) (map (λ path. path.now) asked.paths.items) (around before) (around now) × OnOk job (IsFlushed now.printed)

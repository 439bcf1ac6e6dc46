-- What commands do that change a member of a library.
use Rattle.std.specs.Prelude.{◌≡◌, map, Result, OnOk}
use Rattle.counted_io.specs.Streams.{IsFlushed}
use Rattle.changed_volumes.specs.declared.fault.ChangeFault.{ChangeFault}
use Rattle.member_changes.specs.declared.refusal.MemberRefusal.{MemberRefusal}
use Rattle.changed_libraries.specs.Files.{DeletesMember, RenamesMember}
use Rattle.dasd_run.specs.declared.commands.Ending.{Ending}
use Rattle.program_faults.specs.declared.fault.ProgramFault.{ProgramFault}
use Rattle.dasd_run.specs.Ended.{done_or}
use Rattle.program_faults.specs.Faults.{member_fault}
use Rattle.dasd_run.specs.Outside.{Outside, around}
use Rattle.dasd_words.specs.declared.requests.DeletedMember.{DeletedMember}
use Rattle.dasd_words.specs.declared.requests.RenamedMember.{RenamedMember}

-- the member that is asked for is renamed, and its line printed and flushed
abbrev pub MemberRenamed : Result Ending ProgramFault → RenamedMember → (before now : Outside) → Type 0
MemberRenamed result asked before now =
    (job : Result (Unit {0}) (ChangeFault MemberRefusal)) × (result ≡ done_or member_fault job)
    × RenamesMember job (map (λ path. path.now) asked.paths.items) asked.library.now asked.old.now asked.new.now (around before) (around now)
    × OnOk job (IsFlushed now.printed)

-- the member that is asked for is deleted, and its line printed and flushed
abbrev pub MemberDeleted : Result Ending ProgramFault → DeletedMember → (before now : Outside) → Type 0
MemberDeleted result asked before now =
    (job : Result (Unit {0}) (ChangeFault MemberRefusal)) × (result ≡ done_or member_fault job)
    × DeletesMember job (map (λ path. path.now) asked.paths.items) asked.library.now asked.member.now (around before) (around now)
    × OnOk job (IsFlushed now.printed)

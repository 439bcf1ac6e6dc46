-- What is done of each request.
use Rattle.std.specs.Prelude.{◌≡◌, ◌⊎◌, ◌==◌, ◌||◌, ℕ, nat_lt, Bool, true, false, List, map, option_map, if◌then◌else◌, Result, Err, IfOk, OnOk}
use Rattle.counted_io.specs.Streams.{Stream, IsFlushed}
use Rattle.ckd_track.specs.declared.geometries.Geometry.{Geometry}
use Rattle.dasd_archive.specs.Dump.{dump_text, IsPartOf}
use Rattle.dasd_archive.specs.Numbered.{LacksRecords, TellsOf}
use Rattle.dasd_volumes.specs.Checks.{check_text, NumberIn}
use Rattle.dasd_volumes.specs.Listing.{volume_text}
use Rattle.dasd_volumes.specs.Reading.{KnownVolume}
use Rattle.dasd_words.specs.declared.requests.NewImage.{NewImage}
use Rattle.dasd_words.specs.declared.requests.HashedVolume.{HashedVolume}
use Rattle.dasd_words.specs.declared.requests.PrintedVolume.{PrintedVolume}
use Rattle.volume_hash.specs.SetLines.{Shown, shown}
use Rattle.dasd_words.specs.declared.requests.ListedPart.{ListedPart}
use Rattle.dasd_words.specs.declared.requests.DumpedPart.{DumpedPart}
use Rattle.dasd_words.specs.declared.requests.Request.{Request}
use Rattle.dasd_words.specs.declared.requests.Request.TheVariants as request
use Rattle.dasd_jobs.specs.Printed.{CountsLines, PrintsFiles}
use Rattle.dasd_jobs.specs.Sources.{OfVolume}
use Rattle.dasd_jobs.specs.Written.{Formats}
use Rattle.dasd_jobs.specs.declared.faults.JobFault.{JobFault}
use Rattle.dasd_run.specs.Labels.{FormatsWithLabel}
use Rattle.dasd_run.specs.declared.commands.Ending.{Ending}
use Rattle.program_faults.specs.declared.fault.ProgramFault.{ProgramFault}
use Rattle.program_faults.specs.declared.fault.ProgramFault.TheVariants as fault
use Rattle.dasd_run.specs.Folders.{FolderAsked, MemberAsked}
use Rattle.dasd_run.specs.Members.{MemberDeleted, MemberRenamed}
use Rattle.dasd_run.specs.Changes.{RenamesAsked, DeletesAsked, RelabelsAsked, LoadsAsked}
use Rattle.dasd_run.specs.Compared.{ComparesFiles}
use Rattle.dasd_run.specs.Details.{ListsDetails, ListsMembers}
use Rattle.dasd_run.specs.Held.{ListsContents}
use Rattle.dasd_run.specs.Ended.{ended, done_or, counted_ending}
use Rattle.dasd_run.specs.Outside.{Outside, Looks}
use Rattle.dasd_run.specs.Paths.{joined_paths, quoted_paths}
use Rattle.dasd_run.specs.Printed.{style_of, paths_of, asked_part, asked_list, HasCylinders, IsUnopened, HashesWhole, PrintsPart, TakesMemoryFirst}
use Rattle.dasd_run.specs.Reaches.{EndsOver}
use Rattle.dasd_run.specs.Recovered.{Recovers}
use Rattle.dasd_run.specs.Runs.{RunsOrStops}
use Rattle.dasd_run.specs.Strict.{ChecksStrictly}
use Rattle.dasd_run.specs.Unloads.{ExtractsSet, ExtractsTracks, ExtractsVolume}
use Rattle.dasd_run.specs.Whole.{ChecksContents}
use Rattle.dasd_run.specs.Words.{AssemblesText, PrintsWords, WithText}

-- the new image that is asked for is put at its path, and its line printed and flushed
abbrev pub FormatsVolume : Result Ending ProgramFault → NewImage → (before now : Outside) → Type 0
FormatsVolume result asked before now =
    (job : Result (Unit {0}) JobFault) × (result ≡ done_or fault.Job job)
    × Formats job asked.path.now asked.model asked.cylinders before.written now.written before.printed now.printed × OnOk job (IsFlushed now.printed)

-- the volume of the files at these paths is printed, and none of it held back
abbrev pub ListsVolume : Result Ending ProgramFault → (paths : List (List ℕ)) → (before now : Outside) → Type 0
ListsVolume result paths before now =
    (job : Result (Unit {0}) JobFault) × (result ≡ done_or fault.Job job)
    × PrintsFiles job volume_text paths before.opened now.opened before.printed now.printed × CountsLines job before.printed now.printed
    × OnOk job (IsFlushed now.printed)

-- its tracks that can't be read are printed, and it has findings where there are some
abbrev pub ChecksVolume : Result Ending ProgramFault → (paths : List (List ℕ)) → (before now : Outside) → Type 0
ChecksVolume result paths before now =
    (job : Result ℕ JobFault) × (result ≡ ended fault.Job counted_ending job)
    × IfOk job (λ n. OfVolume false paths before.opened now.opened (λ v. NumberIn v n))
    × PrintsFiles job check_text paths before.opened now.opened before.printed now.printed × CountsLines job before.printed now.printed
    × OnOk job (IsFlushed now.printed)

-- words name records, unless they ask for all from one on
abbrev pub names_records : DumpedPart → Bool
names_records part = nat_lt part.records.last 255 || part.records.first == part.records.last

-- A part of a volume is dumped, and has one of the records, if words name some, or a track that can't be read; or it lacks them, there is
-- no such record, and nothing is printed.
abbrev pub DumpsRecords : Result Ending ProgramFault → DumpedPart → (text : Geometry → List (List ℕ) → List ℕ) → KnownVolume → (before now : Stream) → Type 0
DumpsRecords result part text v before now =
    (PrintsPart result (IsPartOf (asked_part part)) text v before now
    × OnOk result (names_records part ≡ true → TellsOf true (LacksRecords (asked_part part)) v))
    ⊎ ((result ≡ Err fault.NoRecord) × (names_records part ≡ true) × TellsOf false (LacksRecords (asked_part part)) v × (now ≡ before))

-- this part of the volume in the files that are named is dumped
abbrev pub DumpsPart : Result Ending ProgramFault → PrintedVolume → DumpedPart → (before now : Outside) → Type 0
DumpsPart result asked part before now =
    IsUnopened asked.as_far result (paths_of asked) before.opened now.opened before.printed now.printed
    ⊎ EndsOver result asked.as_far (paths_of asked) before.opened now.opened
    (λ ended v. DumpsRecords ended part (dump_text (style_of asked.json) (quoted_paths (paths_of asked)) (asked_part part)) v before.printed now.printed)

-- some of its cylinders are listed
abbrev pub ListsPart : Result Ending ProgramFault → PrintedVolume → ListedPart → (before now : Outside) → Type 0
ListsPart result asked part before now =
    IsUnopened asked.as_far result (paths_of asked) before.opened now.opened before.printed now.printed
    ⊎ EndsOver result asked.as_far (paths_of asked) before.opened now.opened
    (λ ended v. PrintsPart ended (HasCylinders part.cylinders) (asked_list (style_of asked.json) (quoted_paths (paths_of asked)) part) v
    before.printed now.printed)

-- the path in the line of a hash: as it was typed, and as a string of JSON in an object
abbrev pub hashed_path : PrintedVolume → List ℕ
hashed_path asked = if asked.json then quoted_paths (paths_of asked) else joined_paths (paths_of asked)

-- for whom hashes are printed, and of what
abbrev pub hashes_shown : HashedVolume → Shown
hashes_shown asked = shown (hashed_path asked.volume) asked.volume.json asked.sets asked.members

-- its hash is printed, and those that are asked for, and it has findings where something of that is not whole
abbrev pub HashesVolume : Result Ending ProgramFault → HashedVolume → (before now : Outside) → Type 0
HashesVolume result asked before now =
    IsUnopened asked.volume.as_far result (paths_of asked.volume) before.opened now.opened before.printed now.printed
    ⊎ OfVolume asked.volume.as_far (paths_of asked.volume) before.opened now.opened
    (λ v. HashesWhole result (hashes_shown asked) v before.printed now.printed)

-- What is done of a request, and what it leaves outside of the program.
abbrev pub Answers : Request → Result Ending ProgramFault → (before now : Outside) → Type 0
Answers (request.Format asked) result before now = FormatsVolume result asked before now × (now.read ≡ before.read)
Answers (request.FormatLabelled asked label) result before now = FormatsWithLabel result asked label before now × (now.read ≡ before.read)
Answers (request.List paths) result before now = ListsVolume result (map (λ path. path.now) paths.items) before now × Looks before now
Answers (request.ListPart asked part) result before now =
    ListsPart result asked part before now × TakesMemoryFirst result before.printed now.printed × Looks before now
Answers (request.Check paths) result before now = ChecksVolume result (map (λ path. path.now) paths.items) before now × Looks before now
Answers (request.CheckStrictly asked) result before now = ChecksStrictly result asked before now × Looks before now
Answers (request.CheckContents asked) result before now = ChecksContents result asked before now × Looks before now
Answers (request.Dump asked part) result before now = DumpsPart result asked part before now × Looks before now
Answers (request.Compare asked) result before now = ComparesFiles result asked before now × Looks before now
Answers (request.Hash asked) result before now = HashesVolume result asked before now × Looks before now
Answers (request.Rename asked) result before now = RenamesAsked result asked before now × (now.read ≡ before.read)
Answers (request.RenameMember asked) result before now = MemberRenamed result asked before now × (now.read ≡ before.read)
Answers (request.Delete asked) result before now = DeletesAsked result asked before now × (now.read ≡ before.read)
Answers (request.DeleteMember asked) result before now = MemberDeleted result asked before now × (now.read ≡ before.read)
Answers (request.Relabel asked) result before now = RelabelsAsked result asked before now × (now.read ≡ before.read)
Answers (request.Recover asked) result before now = Recovers result before now
Answers (request.Load asked) result before now = LoadsAsked result asked before now × (now.read ≡ before.read)
Answers (request.LoadAll asked) result before now = FolderAsked result asked before now × (now.read ≡ before.read)
Answers (request.LoadMember asked) result before now = MemberAsked result asked before now × (now.read ≡ before.read)
Answers (request.Explain noted) result before now = OnOk result (IsFlushed now.printed) × (now.opened ≡ before.opened) × Looks before now
Answers (request.Assemble path) result before now = WithText AssemblesText result (option_map (λ path. path.now) path) before now
Answers (request.Disassemble path) result before now = WithText PrintsWords result (option_map (λ path. path.now) path) before now
Answers (request.Run asked) result before now = RunsOrStops result asked before now
Answers (request.ListContents asked) result before now = ListsContents result asked before now × Looks before now
Answers (request.ListDetails asked) result before now = ListsDetails result asked before now × Looks before now
Answers (request.ListMembers asked) result before now = ListsMembers result asked before now × Looks before now
Answers (request.Extract asked) result before now = ExtractsSet result asked before now × (now.read ≡ before.read)
Answers (request.ExtractTracks asked) result before now = ExtractsTracks result asked before now × (now.read ≡ before.read)
Answers (request.ExtractAll asked) result before now = ExtractsVolume result asked before now × (now.read ≡ before.read)

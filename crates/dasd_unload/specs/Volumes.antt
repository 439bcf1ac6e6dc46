-- All data sets of a volume, unloaded to the files of a folder: step by step, in the order of the table of contents and of the directories.
use Rattle.std.specs.Prelude.{◌≡◌, ◌⊎◌, ℕ, Bool, true, false, if◌then◌else◌, List, [], ◌∷◌, ◌++◌, length, map, codes, Option, Some, None}
use Rattle.std.specs.Prelude.{Result, Ok, Err}
use Rattle.std.specs.List.{flat_map, fold}
use Rattle.counted_io.specs.Streams.{Stream, Takes, TakesFront, NoneFailed, OneFailed}
use Rattle.volume_labels.specs.declared.fields.Extent.{Extent}
use Rattle.volume_labels.specs.declared.blocks.DataSetBlock.{DataSetBlock}
use Rattle.volume_labels.specs.Labels.{data_set_block_of}
use Rattle.volume_labels.specs.declared.directories.DirectoryEntry.{DirectoryEntry}
use Rattle.volume_labels.specs.Directories.{entries_of}
use Rattle.dasd_volumes.specs.Reading.{KnownVolume}
use Rattle.volume_contents.specs.declared.blocks.Block.{Block}
use Rattle.volume_contents.specs.declared.chains.ChainFault.{ChainFault}
use Rattle.volume_contents.specs.Contents.{Said, contents_of}
use Rattle.volume_contents.specs.Sets.{is_data_set, extents_behind, behind_block}
use Rattle.dasd_extract.specs.declared.blocks.ExtractedForm.{ExtractedForm}
use Rattle.dasd_extract.specs.Written.{Written}
use Rattle.dasd_extract.specs.Walk.{Wanted, wanted, source_written}
use Rattle.dasd_extract.specs.Members.{directory}
use Rattle.dasd_jobs.specs.Sources.{SourceFile, OfVolume}
use Rattle.dasd_jobs.specs.Unopened.{NotOpened}
use Rattle.dasd_jobs.specs.Written.{Replaced}
use Rattle.dasd_jobs.specs.declared.faults.JobFault.TheVariants as job
use Rattle.dasd_unload.specs.declared.fault.UnloadFault.{UnloadFault}
use Rattle.dasd_unload.specs.declared.fault.UnloadFault.TheVariants.{Job}
use Rattle.dasd_unload.specs.declared.report.Tally.{Tally}
use Rattle.dasd_unload.specs.declared.sets.BlockForm.{BlockForm}
use Rattle.dasd_unload.specs.Unloads.{Outcome, file_name, text_name}
use Rattle.dasd_unload.specs.Described.{described}
use Rattle.dasd_unload.specs.Parts.{is_partitioned, written_texts}
use Rattle.dasd_unload.specs.Asked.{form_of, beginning}
use Rattle.dasd_unload.specs.Told.{Line, FileLine, finding_lines, line_text, count_line, no_line, total_text, chain_texts, end_texts}
use Rattle.dasd_unload.specs.Told.{directory_texts}
use Rattle.dasd_unload.specs.Told.{contents_texts}

-- how a volume is unloaded: the folder of the files, how blocks are written, and the paths of the volume as a
-- string of JSON, where what is told are objects of JSON
pub record Plan : Type 0 where
  pub folder : List ℕ
  pub block_form : BlockForm
  pub json : Option (List ℕ)

abbrev pub plan : (folder : List ℕ) → (block_form : BlockForm) → (json : Option (List ℕ)) → Plan
plan folder block_form json = record { folder = folder; block_form = block_form; json = json }

-- objects of JSON have the path only if they are asked for
abbrev pub plan_of : (folder : List ℕ) → (block_form : BlockForm) → (json : Bool) → (path : List ℕ) → Plan
plan_of folder block_form json path = plan folder block_form (if json then Some path else None)

-- a volume, with its slots, and how it is unloaded
pub record Unloading : Type 0 where
  pub volume : KnownVolume
  pub slots : List (List ℕ)
  pub plan : Plan

abbrev pub unloading : KnownVolume → (slots : List (List ℕ)) → Plan → Unloading
unloading v slots p = record { volume = v; slots = slots; plan = p }

-- What is done of a volume: a data set without members, or a member, is unloaded to the file of this name, by the label of the data set; or it
-- is told what is wrong with what has this name, if something is; or a text is put into the file that describes all.
pub data Step : Type 0 where
  Unload : (name : List ℕ) → (source : Wanted) → (label : DataSetBlock) → Step
  Tell : (name : List ℕ) → (texts : List (List ℕ)) → Step
  Describe : (text : List ℕ) → Step

abbrev pub member_step : DataSetBlock → List Extent → ExtractedForm → DirectoryEntry → Step
member_step d extents form e = Unload (file_name d.name (Some e.name)) (wanted form extents e.address 65535) d

-- what is wrong with a directory, by what was read of it, is told, and then each of its members is unloaded
abbrev pub directory_steps : DataSetBlock → List Extent → ExtractedForm → (directory : Written) → List Step
directory_steps d extents form w =
    Tell (file_name d.name None) (directory_texts (entries_of w.bytes).fault ++ end_texts w.stop) ∷ map (member_step d extents form)
    (entries_of w.bytes).entries

abbrev pub partitioned_steps : Unloading → DataSetBlock → List Extent → ExtractedForm → List Step
partitioned_steps u d extents form = directory_steps d extents form (source_written (directory extents) u.volume.geometry u.slots)

-- a data set without members is unloaded, or the members of one that has some
abbrev pub steps_in_form : Unloading → DataSetBlock → List Extent → ExtractedForm → List Step
steps_in_form u d extents form =
    if is_partitioned d then partitioned_steps u d extents form else Unload (file_name d.name None) (wanted form extents beginning 65535) d ∷ []

-- none is, where its format has no records that could be lines
abbrev pub steps_of_form : Unloading → DataSetBlock → List Extent → Option ExtractedForm → List Step
steps_of_form u d extents (Some form) = steps_in_form u d extents form
steps_of_form u d extents None = Tell (file_name d.name None) (codes "its format is of no records" ∷ []) ∷ []

-- of a data set it is told first if the chain of its control blocks is broken
abbrev pub set_steps : Unloading → DataSetBlock → List Extent → Option ChainFault → List Step
set_steps u d extents fault = Tell (file_name d.name None) (chain_texts fault) ∷ steps_of_form u d extents (form_of d u.plan.block_form)

-- a format 1 block is that of a data set; no other is
abbrev pub block_steps : Unloading → List Block → Block → List Step
block_steps u blocks b =
    if is_data_set b.kind then set_steps u (data_set_block_of b.key b.bytes) (extents_behind blocks b) (behind_block blocks b).fault else []

-- the data sets of a table come in its order, and behind them the text of the table
abbrev pub table_steps : Unloading → List Block → List Step
table_steps u blocks = flat_map (block_steps u blocks) blocks ++ Describe (described blocks u.volume.geometry u.slots) ∷ []

abbrev pub said_steps : Unloading → Said → List Step
said_steps u said = Tell (codes "volume table of contents") (contents_texts (length said.findings)) ∷ table_steps u said.blocks

-- All steps of a volume: it is told if something is wrong with its table of contents; and then those of its data sets come, in the
-- order of the table, and the text.
abbrev pub volume_steps : Unloading → List Step
volume_steps u = said_steps u (contents_of u.volume.geometry u.slots)

-- a step that was done; what is to be unloaded is kept out where a file is at its path already
pub record Done : Type 0 where
  pub step : Step
  pub is_kept_out : Bool

abbrev pub path_in : (folder name : List ℕ) → List ℕ
path_in folder name = folder ++ codes "/" ++ name

-- the file of a step: the blocks, or the text, under the name in the folder
abbrev pub files_of_step : Unloading → Step → (is_kept_out : Bool) → List Replaced
files_of_step u (Unload name s d) false =
    record { path = path_in u.plan.folder name; bytes = (source_written s u.volume.geometry u.slots).bytes } ∷ []
files_of_step u (Unload name s d) true = []
files_of_step u (Tell name texts) is_kept_out = []
files_of_step u (Describe text) false = record { path = path_in u.plan.folder text_name; bytes = text } ∷ []
files_of_step u (Describe text) true = []

abbrev pub files_of : Unloading → Done → List Replaced
files_of u d = files_of_step u d.step d.is_kept_out

-- what is told of it: how long its file is, and where its blocks end, if they are not whole; or that it is kept out; and nothing of a text that
-- came
abbrev pub unloaded_lines : (name : List ℕ) → DataSetBlock → Written → List Line
unloaded_lines name d w = FileLine name (length w.bytes) ∷ finding_lines name (written_texts d w.stop)

abbrev pub lines_of_step : Unloading → Step → (is_kept_out : Bool) → List Line
lines_of_step u (Unload name s d) false = unloaded_lines name d (source_written s u.volume.geometry u.slots)
lines_of_step u (Unload name s d) true = finding_lines name (codes "file exists" ∷ [])
lines_of_step u (Tell name texts) is_kept_out = finding_lines name texts
lines_of_step u (Describe text) false = []
lines_of_step u (Describe text) true = finding_lines text_name (codes "file exists" ∷ [])

abbrev pub lines_of : Unloading → Done → List Line
lines_of u d = lines_of_step u d.step d.is_kept_out

abbrev pub text_of : Unloading → Done → List ℕ
text_of u d = flat_map (line_text u.plan.json) (lines_of u d)

abbrev pub counted_of : Unloading → Tally → Done → Tally
counted_of u t d = fold count_line t (lines_of u d)

-- Steps were done in their order, each once, but for the rest: exactly their files came, and their lines were told.
pub record DoesUpTo (rest : List Step) (u : Unloading) (steps : List Step) (before now : Outcome) (told_before told : Tally) : Type 0 where
  pub done : List Done
  pub in_order : map (λ d. d.step) done ++ rest ≡ steps
  pub written : now.written ≡ before.written ++ flat_map (files_of u) done
  pub printed : Takes before.printed now.printed (flat_map (text_of u) done)
  pub counted : told ≡ fold (counted_of u) told_before done

-- A fault stops a text: its first bytes are printed; and where no write of it failed, but that of a file, all of it is.
pub record StopsText (fault : UnloadFault) (text : List ℕ) (before after : Stream) : Type 0 where
  pub front : TakesFront before after text
  pub whole : fault ≡ Job job.Write → NoneFailed before after → Takes before after text

-- A fault stopped it: the first of the steps were done, and none behind them.
pub record DoesSome (fault : UnloadFault) (u : Unloading) (steps : List Step) (before now : Outcome) : Type 0 where
  pub done : List Done
  pub rest : List Step
  pub in_order : map (λ d. d.step) done ++ rest ≡ steps
  pub written : now.written ≡ before.written ++ flat_map (files_of u) done
  pub printed : StopsText fault (flat_map (text_of u) done) before.printed now.printed

-- all steps were done, or, with a fault, some of them
abbrev pub DoesOrStops : {A : Type 0} → Result A UnloadFault → Unloading → List Step → (before now : Outcome) → (told_before told : Tally) → Type 0
DoesOrStops (Ok _) u steps before now told_before told = DoesUpTo [] u steps before now told_before told
DoesOrStops (Err fault) u steps before now told_before told = DoesSome fault u steps before now

-- No write of what is told failed; or one did, with a write fault. Where a file can't be made, a write fault comes too.
abbrev pub CountsReport : {A : Type 0} → Result A UnloadFault → (before after : Stream) → Type 0
CountsReport (Ok _) before after = NoneFailed before after
CountsReport (Err fault) before after = NoneFailed before after ⊎ ((fault ≡ Job job.Write) × OneFailed before after)

-- the same of the steps of a volume, if its slots are known
pub record DoesOfVolume {A : Type 0} (r : Result A UnloadFault) (v : KnownVolume) (p : Plan) (steps : Unloading → List Step) (before now : Outcome)
    (told_before told : Tally) : Type 0 where
  pub counts : CountsReport r before.printed now.printed
  pub does : (slots : List (List ℕ)) → v.slots ≡ Some slots → DoesOrStops r (unloading v slots p) (steps (unloading v slots p)) before now told_before told

-- all steps of a volume were done: exactly their files came, and this was told, and so many findings
pub record AllDone (u : Unloading) (before now : Outcome) (Told : (text : List ℕ) → (findings : ℕ) → Type 0) : Type 0 where
  pub done : List Done
  pub in_order : map (λ d. d.step) done ≡ volume_steps u
  pub written : now.written ≡ before.written ++ flat_map (files_of u) done
  pub told : Told (flat_map (text_of u) done ++ total_text u.plan.json (fold (counted_of u) no_line done)) (fold (counted_of u) no_line done).findings

-- All were, and this is how many findings there are; or, with a fault, some, and the files that came until then stay; or all, and the last
-- line was not printed as a whole.
abbrev pub UnloadsAll : Result ℕ UnloadFault → Unloading → (before now : Outcome) → Type 0
UnloadsAll (Ok n) u before now = AllDone u before now (λ text findings. Takes before.printed now.printed text × (n ≡ findings))
UnloadsAll (Err fault) u before now =
    DoesSome fault u (volume_steps u) before now ⊎ AllDone u before now (λ text findings. TakesFront before.printed now.printed text)

abbrev pub UnloadsKnown : Result ℕ UnloadFault → KnownVolume → Plan → (before now : Outcome) → Type 0
UnloadsKnown r v p before now = (slots : List (List ℕ)) → v.slots ≡ Some slots → UnloadsAll r (unloading v slots p) before now

-- the volume in the files at these paths is not opened, for this fault
abbrev pub IsUnopened : (as_far : Bool) → UnloadFault → (paths : List (List ℕ)) → (opened_before opened : List SourceFile) → Type 0
IsUnopened as_far (Job f) paths opened_before opened = NotOpened as_far f paths opened_before opened
IsUnopened as_far fault paths opened_before opened = ⊥

-- The volume in the files at these paths was unloaded, if its slots are known; or it is not opened, and nothing came.
abbrev pub UnloadsVolume : (as_far : Bool) → Result ℕ UnloadFault → (paths : List (List ℕ)) → Plan → (opened_before opened : List SourceFile)
    → (before now : Outcome) → Type 0
UnloadsVolume as_far (Ok n) paths p opened_before opened before now = OfVolume as_far paths opened_before opened (λ v. UnloadsKnown (Ok n) v p before now)
UnloadsVolume as_far (Err fault) paths p opened_before opened before now =
    (IsUnopened as_far fault paths opened_before opened × (now ≡ before))
    ⊎ OfVolume as_far paths opened_before opened (λ v. UnloadsKnown (Err fault) v p before now)

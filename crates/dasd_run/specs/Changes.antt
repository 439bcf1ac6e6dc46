-- What commands do that change a volume.
use Rattle.std.specs.Prelude.{◌≡◌, map, Result, OnOk}
use Rattle.counted_io.specs.Streams.{IsFlushed}
use Rattle.changed_volumes.specs.declared.fault.ChangeFault.{ChangeFault}
use Rattle.changed_volumes.specs.Changes.{changing}
use Rattle.changed_volumes.specs.Files.{RenamesSet, DeletesSet, TellsChange, relabelled_line}
use Rattle.dasd_run.specs.declared.commands.Ending.{Ending}
use Rattle.program_faults.specs.declared.fault.ProgramFault.{ProgramFault}
use Rattle.dasd_run.specs.Ended.{done_or}
use Rattle.program_faults.specs.Faults.{change_fault, load_fault}
use Rattle.dasd_run.specs.Outside.{Outside, around}
use Rattle.dasd_words.specs.declared.requests.DeletedSet.{DeletedSet}
use Rattle.dasd_words.specs.declared.requests.LoadedFile.{LoadedFile}
use Rattle.dasd_words.specs.declared.requests.RelabelledVolume.{RelabelledVolume}
use Rattle.dasd_words.specs.declared.requests.RenamedSet.{RenamedSet}
use Rattle.loaded_sets.specs.Faults.{LoadFault}
use Rattle.loaded_sets.specs.Loads.{LoadsSet}
use Rattle.loaded_sets.specs.declared.saves.NewSet.{NewSet}
use Rattle.loaded_sets.specs.declared.contents.SourceForm.{SourceForm}
use Rattle.loaded_sets.specs.declared.contents.SourceForm.TheVariants as source
use Rattle.new_labels.specs.SetBlocks.{no_date}
use Rattle.dasd_words.specs.declared.requests.FileForm.{FileForm}
use Rattle.dasd_words.specs.declared.requests.FileForm.TheVariants as words
use Rattle.volume_changes.specs.declared.refusal.ChangeRefusal.{ChangeRefusal}
use Rattle.volume_changes.specs.Volumes.{relabelled}

-- the data set that is asked for is renamed, and its line printed and flushed
abbrev pub RenamesAsked : Result Ending ProgramFault → RenamedSet → (before now : Outside) → Type 0
RenamesAsked result asked before now =
    (job : Result (Unit {0}) (ChangeFault ChangeRefusal)) × (result ≡ done_or change_fault job)
    × RenamesSet job (map (λ path. path.now) asked.paths.items) asked.old.now asked.new.now (around before) (around now) × OnOk job (IsFlushed now.printed)

-- the data set that is asked for is deleted, and its line printed and flushed
abbrev pub DeletesAsked : Result Ending ProgramFault → DeletedSet → (before now : Outside) → Type 0
DeletesAsked result asked before now =
    (job : Result (Unit {0}) (ChangeFault ChangeRefusal)) × (result ≡ done_or change_fault job)
    × DeletesSet job (map (λ path. path.now) asked.paths.items) asked.name.now (around before) (around now) × OnOk job (IsFlushed now.printed)

-- the label of the volume that is asked for is changed, and its line printed and flushed
abbrev pub RelabelsAsked : Result Ending ProgramFault → RelabelledVolume → (before now : Outside) → Type 0
RelabelsAsked result asked before now =
    (job : Result (Unit {0}) (ChangeFault ChangeRefusal)) × (result ≡ done_or change_fault job)
    × TellsChange job (changing (relabelled (record { serial = asked.serial; owner = asked.owner }))) (map (λ path. path.now) asked.paths.items)
    relabelled_line (around before) (around now) × OnOk job (IsFlushed now.printed)

-- what a file has, as the loads have it
abbrev pub source_of : FileForm → SourceForm
source_of words.Blocks = source.Blocks
source_of words.WithLengths = source.WithLengths
source_of words.Text = source.Text

-- the data set that is asked for: a sequential one, that was made on no day and expires on none
abbrev pub new_set_of : LoadedFile → NewSet
new_set_of asked = record {
  name = asked.name;
  path = asked.source;
  source = source_of asked.form;
  form = record {
    organisation = 0x4000;
    attributes = asked.attributes;
    key_length = asked.key_length;
    created = no_date;
    expires = no_date;
  };
}

-- the data set that is asked for is put onto the volume, and its line printed and flushed
abbrev pub LoadsAsked : Result Ending ProgramFault → LoadedFile → (before now : Outside) → Type 0
LoadsAsked result asked before now =
    (job : Result (Unit {0}) LoadFault) × (result ≡ done_or load_fault job)
    × LoadsSet job (new_set_of asked) (map (λ path. path.now) asked.paths.items) (around before) (around now) × OnOk job (IsFlushed now.printed)

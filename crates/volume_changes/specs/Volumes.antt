-- What becomes of the slots of a volume, or why it is not changed.
use Rattle.std.specs.Prelude.{ℕ, if◌then◌else◌, List, [], length, slice_set, fold, Option, Some, None, Result, Ok, Err, Bool}
use Rattle.std.specs.List.{position, list_any}
use Rattle.ckd_track.specs.declared.geometries.Geometry.{Geometry}
use Rattle.volume_labels.specs.declared.labels.VolumeLabel.{VolumeLabel}
use Rattle.volume_labels.specs.declared.blocks.ContentsBlock.{ContentsBlock}
use Rattle.volume_contents.specs.declared.blocks.Block.{Block}
use Rattle.volume_contents.specs.declared.reading.Contents.{Contents}
use Rattle.volume_contents.specs.Contents.{Said, block_in, contents_of, slot_at}
use Rattle.volume_contents.specs.Sets.{has_name}
use Rattle.volume_changes.specs.declared.blocks.BlockChange.{BlockChange}
use Rattle.volume_changes.specs.declared.labels.LabelFields.{LabelFields}
use Rattle.volume_changes.specs.declared.refusal.ChangeRefusal.{ChangeRefusal}
use Rattle.volume_changes.specs.declared.refusal.ChangeRefusal.TheVariants.{NoLabel, NoContents, NoDataSet, NameTaken}
use Rattle.volume_changes.specs.Blocks.{changed}
use Rattle.volume_changes.specs.Labels.{relabelled_slot, serial_change}

-- what is said of a volume, as a reader has it
abbrev pub said_in : Contents → Said
said_in c = record { label = c.label; table = c.table; blocks = c.found.blocks.items; findings = c.found.findings.items }

-- A rename.

-- the format 1 block of a data set gets this name, unless a data set of the volume has it
abbrev pub rename_at : List Block → (new : List ℕ) → Option ℕ → Result BlockChange ChangeRefusal
rename_at blocks new None = Err NoDataSet
rename_at blocks new (Some i) =
    if list_any (has_name new) blocks then Err NameTaken
    else Ok (record { block = block_in blocks i; key = new; bytes = (block_in blocks i).bytes })

abbrev pub rename_in : Option VolumeLabel → Option ContentsBlock → List Block → (old new : List ℕ) → Result BlockChange ChangeRefusal
rename_in None table blocks old new = Err NoLabel
rename_in (Some l) None blocks old new = Err NoContents
rename_in (Some l) (Some t) blocks old new = rename_at blocks new (position (has_name old) blocks)

-- what a rename changes of a volume that says this: the first data set of the old name in the order of the table of contents
abbrev pub rename_of : Said → (old new : List ℕ) → Result BlockChange ChangeRefusal
rename_of s old new = rename_in s.label s.table s.blocks old new

-- the slots behind a change, if it is made
abbrev pub slots_behind : Geometry → (slots : List (List ℕ)) → Result BlockChange ChangeRefusal → Result (List (List ℕ)) ChangeRefusal
slots_behind g slots (Ok c) = Ok (changed g c slots)
slots_behind g slots (Err refusal) = Err refusal

abbrev pub renamed : (old new : List ℕ) → Geometry → (slots : List (List ℕ)) → Result (List (List ℕ)) ChangeRefusal
renamed old new g slots = slots_behind g slots (rename_of (contents_of g slots) old new)

-- Other fields of the volume label.

-- a control block of which this becomes
abbrev pub changed_maybe : Geometry → Option BlockChange → (slots : List (List ℕ)) → List (List ℕ)
changed_maybe g None slots = slots
changed_maybe g (Some c) slots = changed g c slots

-- the serial number of the volume in its data sets' blocks, where another one is given
abbrev pub serial_in : Geometry → (old : List ℕ) → (new : Option (List ℕ)) → (slots : List (List ℕ)) → Block → List (List ℕ)
serial_in g old None slots b = slots
serial_in g old (Some new) slots b = changed_maybe g (serial_change old new b) slots

-- the label is changed, and then the blocks, one after another
abbrev pub relabelled_with : LabelFields → Geometry → (slots : List (List ℕ)) → List Block → Option VolumeLabel → Result (List (List ℕ)) ChangeRefusal
relabelled_with f g slots blocks None = Err NoLabel
relabelled_with f g slots blocks (Some l) =
    Ok (fold (serial_in g l.serial f.serial) (slice_set slots 0 (relabelled_slot f (slot_at slots 0))) blocks)

abbrev pub relabelled : LabelFields → Geometry → (slots : List (List ℕ)) → Result (List (List ℕ)) ChangeRefusal
relabelled f g slots = relabelled_with f g slots (contents_of g slots).blocks (contents_of g slots).label

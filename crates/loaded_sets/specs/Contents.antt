-- What a file has for a data set, or why it has none.
use Rattle.std.specs.Prelude.{◌≡◌, ℕ, zero, suc, List, Option, Some, None, Result, Ok, Err}
use Rattle.std.specs.List.{position}
use Rattle.ckd_track.specs.declared.model.DriveModel.{DriveModel}
use Rattle.ckd_track.specs.declared.geometries.Geometry.{Geometry}
use Rattle.volume_labels.specs.declared.records.RecordForm.{RecordForm}
use Rattle.volume_labels.specs.declared.records.RecordForm.TheVariants as form
use Rattle.record_tracks.specs.declared.blocks.Cut.{Cut}
use Rattle.record_tracks.specs.declared.blocks.Cut.TheVariants as cut
use Rattle.record_tracks.specs.declared.block_faults.BlockFault.{BlockFault}
use Rattle.record_tracks.specs.Blocks.{cut_by}
use Rattle.record_tracks.specs.BlockFaults.{block_fault_of}
use Rattle.volume_labels.specs.declared.layouts.AttributeFault.{AttributeFault}
use Rattle.volume_labels.specs.declared.layouts.Layout.{Layout}
use Rattle.volume_labels.specs.declared.layouts.RecordAttributes.{RecordAttributes}
use Rattle.volume_labels.specs.Layouts.{layout_given}
use Rattle.record_tracks.specs.declared.text_faults.TextRecordsFault.{TextRecordsFault}
use Rattle.record_tracks.specs.declared.text_faults.TextRecordsFault.TheVariants as text
use Rattle.record_tracks.specs.TextRecords.{records_of}
use Rattle.volume_contents.specs.declared.blocks.Block.{Block}
use Rattle.volume_contents.specs.Contents.{Said}
use Rattle.volume_contents.specs.Sets.{has_name}
use Rattle.loaded_sets.specs.declared.fault.Unmade.{Unmade}
use Rattle.loaded_sets.specs.declared.fault.Unmade.TheVariants as unmade
use Rattle.loaded_sets.specs.declared.place_fault.PlaceRefusal.{PlaceRefusal}
use Rattle.loaded_sets.specs.declared.plans.SetLabel.{SetLabel}
use Rattle.loaded_sets.specs.Volumes.{unfit_of}
use Rattle.loaded_sets.specs.declared.contents.LoadedSet.{LoadedSet}
use Rattle.loaded_sets.specs.declared.contents.NewSetForm.{NewSetForm}
use Rattle.loaded_sets.specs.declared.contents.KeptLabel.{KeptLabel}
use Rattle.new_labels.specs.SetBlocks.{new_fields}
use Rattle.loaded_sets.specs.declared.contents.SourceForm.{SourceForm}
use Rattle.loaded_sets.specs.declared.contents.SourceForm.TheVariants as source
use Rattle.loaded_sets.specs.declared.fault.ContentFault.{ContentFault}
use Rattle.loaded_sets.specs.declared.fault.ContentFault.TheVariants as content
use Rattle.loaded_sets.specs.declared.fault.LoadRefusal.{LoadRefusal}
use Rattle.loaded_sets.specs.declared.fault.LoadRefusal.TheVariants as refusal

-- a label that says nothing of its records
abbrev pub silent : RecordAttributes
silent = record { format = 0; record_length = 0; block_length = 0 }

-- how the records of a data set lie in its blocks, by what is given of it
abbrev pub layout_of_set : NewSetForm → Result Layout AttributeFault
layout_of_set f = layout_given silent f.attributes

-- The length of records that a label says: of fixed ones their own; of variable ones what is given, or 0; of undefined ones 0.
abbrev pub length_said : RecordForm → (given : ℕ) → ℕ
length_said (form.Fixed size) given = size
length_said form.Variable given = given
length_said form.Spanned given = given
length_said form.Undefined given = 0

-- what a data set keeps that was on no volume: nothing
abbrev pub new_label : KeptLabel
new_label = record { tracks = 0; fields = new_fields }

-- what the label of a data set of this layout says that keeps this
abbrev pub label_of : NewSetForm → KeptLabel → Layout → SetLabel
label_of f k l = record {
  organisation = f.organisation;
  format = f.attributes.format;
  block_length = l.longest;
  record_length = length_said l.form f.attributes.record_length;
  key_length = f.key_length;
  created = f.created;
  expires = f.expires;
  tracks = k.tracks;
  kept = k.fields;
}

-- The blocks of a data set: how its records lie in them, and how their bytes are told apart.
pub record FileBlocks : Type 0 where
  pub layout : Layout
  pub cut : Cut
  pub bytes : List ℕ

-- the length of the record of a line of text; only records of one length, which is some, can be lines
abbrev pub size_in : RecordForm → Option ℕ
size_in (form.Fixed zero) = None
size_in (form.Fixed (suc n)) = Some (suc n)
size_in form.Variable = None
size_in form.Spanned = None
size_in form.Undefined = None

abbrev pub text_size : Layout → Option ℕ
text_size l = size_in l.form

-- the records of a text, or why there are none
abbrev pub text_fault : TextRecordsFault → ContentFault
text_fault (text.Line number why) = content.Line number why
text_fault text.OutOfMemory = content.NotText

abbrev pub records_or_fault : Result (List ℕ) TextRecordsFault → Result (List ℕ) ContentFault
records_or_fault (Ok bytes) = Ok bytes
records_or_fault (Err f) = Err (text_fault f)

abbrev pub text_bytes_of : Option ℕ → (text : List ℕ) → Result (List ℕ) ContentFault
text_bytes_of None text = Err content.NotText
text_bytes_of (Some size) text = records_or_fault (records_of size text)

abbrev pub text_bytes : Layout → (text : List ℕ) → Result (List ℕ) ContentFault
text_bytes l text = text_bytes_of (text_size l) text

-- this is why a text is no records, or there is no memory
abbrev pub IsNoText : Unmade → Layout → (text : List ℕ) → Type 0
IsNoText (unmade.Content f) l text = text_bytes l text ≡ Err f
IsNoText unmade.OutOfMemory l text = Unit {0}

-- bytes as the blocks of a data set of this layout that are told apart so
abbrev pub cut_so : Layout → Cut → Result (List ℕ) ContentFault → Result FileBlocks ContentFault
cut_so l c (Ok bytes) = Ok (record { layout = l; cut = c; bytes = bytes })
cut_so l c (Err r) = Err r

-- What a file has for a data set of this layout: its blocks; each behind its lengths and its key; or lines, each of which is a record.
abbrev pub blocks_by : SourceForm → Layout → (bytes : List ℕ) → Result FileBlocks ContentFault
blocks_by source.Blocks l bytes = cut_so l (cut_by l.form l.longest) (Ok bytes)
blocks_by source.WithLengths l bytes = cut_so l cut.WithLengths (Ok bytes)
blocks_by source.Text l bytes = cut_so l (cut_by l.form l.longest) (text_bytes l bytes)

-- blocks that have no fault
abbrev pub unless_faulty : FileBlocks → Option BlockFault → Result FileBlocks ContentFault
unless_faulty b None = Ok b
unless_faulty b (Some f) = Err (content.Blocks f)

-- the blocks on a drive of this model
abbrev pub blocks_fitting : DriveModel → (key_length : ℕ) → FileBlocks → Result FileBlocks ContentFault
blocks_fitting model key_length b = unless_faulty b (block_fault_of model b.layout key_length b.cut b.bytes)

abbrev pub blocks_with : DriveModel → (key_length : ℕ) → Result FileBlocks ContentFault → Result FileBlocks ContentFault
blocks_with model key_length (Ok b) = blocks_fitting model key_length b
blocks_with model key_length (Err r) = Err r

abbrev pub blocks_in : DriveModel → LoadedSet → Result Layout AttributeFault → Result FileBlocks ContentFault
blocks_in model set (Ok l) = blocks_with model set.form.key_length (blocks_by set.source l set.bytes.now)
blocks_in model set (Err f) = Err (content.Attributes f)

abbrev pub told_of_set : Result FileBlocks ContentFault → Result FileBlocks LoadRefusal
told_of_set (Ok b) = Ok b
told_of_set (Err f) = Err (refusal.Content f)

abbrev pub blocks_of_set : DriveModel → LoadedSet → Result FileBlocks LoadRefusal
blocks_of_set model set = told_of_set (blocks_in model set (layout_of_set set.form))

-- The same on a volume that says this; or why the volume does not get the data set: it gets none at all, a data set of it has the name, or the
-- file has no such blocks. The first of these is told.
abbrev pub blocks_unless_taken : DriveModel → LoadedSet → (same_name : Option ℕ) → Result FileBlocks LoadRefusal
blocks_unless_taken model set None = blocks_of_set model set
blocks_unless_taken model set (Some i) = Err refusal.NameTaken

abbrev pub blocks_unless_unfit : DriveModel → LoadedSet → List Block → Option PlaceRefusal → Result FileBlocks LoadRefusal
blocks_unless_unfit model set blocks None = blocks_unless_taken model set (position (has_name set.name) blocks)
blocks_unless_unfit model set blocks (Some r) = Err (refusal.Placed r)

abbrev pub blocks_on : Geometry → LoadedSet → Said → Result FileBlocks LoadRefusal
blocks_on g set s = blocks_unless_unfit g.model set s.blocks (unfit_of g s)

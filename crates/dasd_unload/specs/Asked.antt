-- The data set or the member that is asked for, and what of it is written.
use Rattle.std.specs.Prelude.{◌≡◌, ◌⊎◌, ℕ, true, false, List, [], bytes_eq, find, Option, Some, None, option_map, Result, Ok, Err}
use Rattle.std.specs.Option.{option_copied}
use Rattle.counted_io.specs.Streams.{Stream, TakesFront, IsFlushed}
use Rattle.volume_labels.specs.declared.fields.Extent.{Extent}
use Rattle.volume_labels.specs.declared.fields.RelativeAddress.{RelativeAddress}
use Rattle.volume_labels.specs.declared.blocks.DataSetBlock.{DataSetBlock}
use Rattle.volume_labels.specs.declared.directories.DirectoryEntry.{DirectoryEntry}
use Rattle.volume_labels.specs.declared.layouts.RecordAttributes.{RecordAttributes}
use Rattle.volume_labels.specs.declared.layouts.Layout.{Layout}
use Rattle.volume_labels.specs.declared.layouts.AttributeFault.{AttributeFault}
use Rattle.volume_labels.specs.declared.layouts.AttributeFault.TheVariants.{NoFormat}
use Rattle.volume_labels.specs.Layouts.{layout, layout_given}
use Rattle.volume_labels.specs.Records as records
use Rattle.dasd_volumes.specs.Reading.{KnownVolume}
use Rattle.volume_contents.specs.Contents.{contents_of}
use Rattle.volume_contents.specs.Sets.{FoundOf}
use Rattle.volume_contents.specs.declared.sets.DataSet.{DataSet}
use Rattle.dasd_extract.specs.declared.blocks.ExtractedForm.{ExtractedForm}
use Rattle.dasd_extract.specs.declared.blocks.ExtractedForm.TheVariants.{Raw, Text, Keyed}
use Rattle.dasd_extract.specs.declared.members.Members.{Members}
use Rattle.dasd_extract.specs.declared.stops.Stop.{Stop}
use Rattle.dasd_extract.specs.Members.{MembersOf}
use Rattle.dasd_extract.specs.Names.{Names, is_name}
use Rattle.dasd_extract.specs.Walk.{Wanted, Extracts, PrintsSource, source_written}
use Rattle.dasd_jobs.specs.Written.{Replaced, with_file}
use Rattle.dasd_unload.specs.declared.fault.UnloadFault.{UnloadFault}
use Rattle.dasd_unload.specs.declared.sets.WantedSet.{WantedSet}
use Rattle.dasd_unload.specs.declared.sets.BlockForm.{BlockForm}
use Rattle.dasd_unload.specs.declared.sets.BlockForm.TheVariants as by
use Rattle.dasd_unload.specs.declared.parts.End.{End}
use Rattle.dasd_unload.specs.Parts.{is_partitioned, end_of}
use Rattle.dasd_unload.specs.Unloads.{Outcome, CountsPrinted, is_of_job}

-- blocks are written as they stand, with their lengths, or as lines, if the format of the data set is of some records
abbrev pub form_of : DataSetBlock → BlockForm → Option ExtractedForm
form_of d by.Raw = Some Raw
form_of d by.WithLengths = Some Keyed
form_of d by.Text = option_map (λ form. Text (layout form 0)) (records.form_of d.format d.record_length)

-- what a label says of its data set's records
abbrev pub attributes_of : DataSetBlock → RecordAttributes
attributes_of d = record { format = d.format; record_length = d.record_length; block_length = d.block_length }

abbrev pub or_no_format : Option ExtractedForm → Result ExtractedForm AttributeFault
or_no_format (Some form) = Ok form
or_no_format None = Err NoFormat

abbrev pub as_lines : Result Layout AttributeFault → Result ExtractedForm AttributeFault
as_lines (Ok l) = Ok (Text l)
as_lines (Err f) = Err f

-- lines are of the label's format; or of the one that is given, if it contradicts nothing
abbrev pub form_asked : DataSetBlock → BlockForm → (given : Option RecordAttributes) → Result ExtractedForm AttributeFault
form_asked d block_form None = or_no_format (form_of d block_form)
form_asked d by.Text (Some given) = as_lines (layout_given (attributes_of d) given)
form_asked d by.Raw (Some given) = Ok Raw
form_asked d by.WithLengths (Some given) = Ok Keyed

-- a data set that is asked for: its name, a member of it, how its blocks are written, what is given of its records, and the path of the new file for it
pub record AskedSet : Type 0 where
  pub name : List ℕ
  pub member : Option (List ℕ)
  pub block_form : BlockForm
  pub given : Option RecordAttributes
  pub target : Option (List ℕ)

abbrev pub asked : (name : List ℕ) → (member : Option (List ℕ)) → (block_form : BlockForm) → (given : Option RecordAttributes)
    → (target : Option (List ℕ)) → AskedSet
asked name member block_form given target = record { name = name; member = member; block_form = block_form; given = given; target = target }

abbrev pub asked_by : WantedSet → AskedSet
asked_by w = asked w.name.now (option_copied w.member) w.block_form w.given (option_copied w.target)

-- a volume's first data set of a name, if it has one
pub record NamesSet (text : List ℕ) (v : KnownVolume) (found : Option DataSet) : Type 0 where
  pub name : List ℕ
  pub named : Names text name
  pub first : (slots : List (List ℕ)) → v.slots ≡ Some slots → FoundOf (contents_of v.geometry slots).blocks name found

-- this is the data set of a name; or there is none, where the text can be the name of one
abbrev pub SetOf : (text : List ℕ) → KnownVolume → Option DataSet → Type 0
SetOf text v (Some d) = NamesSet text v (Some d)
SetOf text v None = is_name 44 text ≡ true → NamesSet text v None

-- where the blocks of a data set begin
abbrev pub beginning : RelativeAddress
beginning = record { track = 0; number = 0 }

-- a data set's first member of a name, if its directory has one
pub record NamesMember (text : List ℕ) (v : KnownVolume) (extents : List Extent) (found : Option DirectoryEntry) : Type 0 where
  pub name : List ℕ
  pub named : Names text name
  pub members : Members
  pub of_set : MembersOf extents v members
  pub first : find (λ e. bytes_eq e.name name) members.entries.items ≡ found

-- this is the member of a name; or there is none, where the text can be the name of one
abbrev pub MemberOf : (text : List ℕ) → KnownVolume → List Extent → Option DirectoryEntry → Type 0
MemberOf text v extents (Some entry) = NamesMember text v extents (Some entry)
MemberOf text v extents None = is_name 8 text ≡ true → NamesMember text v extents None

-- the member of a name begins where the directory says
pub record IsMemberAt (text : List ℕ) (v : KnownVolume) (extents : List Extent) (start : RelativeAddress) : Type 0 where
  pub entry : DirectoryEntry
  pub found : MemberOf text v extents (Some entry)
  pub begins : start ≡ entry.address

-- what is asked for begins here: a data set without members, or a member of one that has some
abbrev pub StartsAt : KnownVolume → DataSet → (member : Option (List ℕ)) → RelativeAddress → Type 0
StartsAt v d None start = (is_partitioned d.block ≡ false) × (start ≡ beginning)
StartsAt v d (Some member) start = (is_partitioned d.block ≡ true) × IsMemberAt member v d.extents.items start

-- what is asked for, as a source of blocks of the data set of the name
pub record Asks (a : AskedSet) (v : KnownVolume) (set : DataSet) (s : Wanted) : Type 0 where
  pub named : SetOf a.name v (Some set)
  pub form : form_asked set.block a.block_form a.given ≡ Ok s.form
  pub extents : s.extents ≡ set.extents.items
  pub start : StartsAt v set a.member s.start
  pub tracks : s.tracks ≡ 65535

-- the blocks of a source were put into a file at a path
pub record PutsBlocks (path : List ℕ) (s : Wanted) (v : KnownVolume) (before now : List Replaced) (stop : Stop) : Type 0 where
  pub bytes : List ℕ
  pub put : now ≡ with_file before path bytes
  pub blocks : Extracts s v (Some []) (Some bytes) stop

-- They were, where a path is named, and nothing was printed; else they were printed, and none of them is held back, and no file came.
abbrev pub WritesTo : (target : Option (List ℕ)) → Wanted → KnownVolume → (before now : Outcome) → Stop → Type 0
WritesTo (Some path) s v before now stop = PutsBlocks path s v before.written now.written stop × (now.printed ≡ before.printed)
WritesTo None s v before now stop = (now.written ≡ before.written) × PrintsSource s v (Ok stop) before.printed now.printed × IsFlushed now.printed

-- what is asked for was found and written, and its blocks end so, as that part of the data set that its label says
pub record UnloadsSet (a : AskedSet) (v : KnownVolume) (before now : Outcome) (end : End) : Type 0 where
  pub set : DataSet
  pub source : Wanted
  pub asks : Asks a v set source
  pub written : WritesTo a.target source v before now end.stop
  pub part : end ≡ end_of set.block end.stop

-- only the first bytes of the blocks of a source were printed, if the slots of the volume are known
abbrev pub PrintsFirst : Wanted → KnownVolume → (before after : Stream) → Type 0
PrintsFirst s v before after = (slots : List (List ℕ)) → v.slots ≡ Some slots → TakesFront before after (source_written s v.geometry slots).bytes

-- what is asked for was found, and was to be printed; but a fault of the volume or of a write stopped it
pub record PrintsSome (f : UnloadFault) (a : AskedSet) (v : KnownVolume) (before after : Stream) : Type 0 where
  pub of_job : is_of_job f ≡ true
  pub to_writer : a.target ≡ None
  pub set : DataSet
  pub source : Wanted
  pub asks : Asks a v set source
  pub front : PrintsFirst source v before after

-- nothing was printed, or only the first bytes
abbrev pub StopsPrinting : UnloadFault → AskedSet → KnownVolume → (before after : Stream) → Type 0
StopsPrinting f a v before after = (after ≡ before) ⊎ PrintsSome f a v before after

-- A write fault comes exactly where a write failed, or the flush; or where the file of the path can't be made, and then nothing is printed.
abbrev pub CountsSet : {A : Type 0} → Result A UnloadFault → (target : Option (List ℕ)) → (before after : Stream) → Type 0
CountsSet r None before after = CountsPrinted r before after
CountsSet r (Some path) before after = after ≡ before

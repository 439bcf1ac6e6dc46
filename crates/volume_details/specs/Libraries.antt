-- The members of a library that is named.
use Rattle.std.specs.Prelude.{◌≡◌, ◌≢◌, ◌⊎◌, ℕ, Bool, true, false, List, [], Option, None, Result, Ok, Err, IfOk, IfErr, OnOk}
use Rattle.counted_io.specs.Streams.{Stream, IsFlushed}
use Rattle.volume_labels.specs.declared.blocks.DataSetBlock.{DataSetBlock}
use Rattle.volume_labels.specs.Names.{safe_name_of}
use Rattle.dasd_volumes.specs.declared.fault.VolumeFault.{VolumeFault}
use Rattle.dasd_volumes.specs.declared.fault.VolumeFault.TheVariants as volume
use Rattle.dasd_volumes.specs.Printing.{PrintsText, CountsWrites}
use Rattle.dasd_volumes.specs.Reading.{KnownVolume}
use Rattle.volume_contents.specs.declared.sets.DataSet.{DataSet}
use Rattle.dasd_unload.specs.Asked.{SetOf}
use Rattle.dasd_unload.specs.Parts.{is_partitioned}
use Rattle.dasd_unload.specs.Causes.{HasSet}
use Rattle.library_contents.specs.Report.{printed}
use Rattle.library_contents.specs.Lines.{Shown}
use Rattle.library_contents.specs.ListedMembers.{library_lines}
use Rattle.volume_details.specs.declared.fault.MemberListFault.{MemberListFault}
use Rattle.volume_details.specs.declared.fault.MemberListFault.TheVariants as fault
use Rattle.volume_details.specs.Sections.{TellsWrong}

-- what a fault of a volume is
abbrev pub library_fault : VolumeFault → MemberListFault
library_fault volume.OutOfMemory = fault.OutOfMemory
library_fault volume.Store = fault.Read
library_fault volume.Write = fault.Write

-- how the members of a data set are listed: in lines without a margin, or as objects
abbrev pub listing : (json : Option (List ℕ)) → DataSetBlock → Shown
listing json d = record { json = json; margin = []; name = safe_name_of d.name }

-- The members of a data set were printed, or with a fault only the first bytes; and it is told whether something is wrong with them.
abbrev pub PrintsMembers : Result Bool VolumeFault → (json : Option (List ℕ)) → DataSet → KnownVolume → (before after : Stream) → Type 0
PrintsMembers r json d v before after =
    PrintsText r (λ g slots. printed (library_lines (listing json d.block) d.extents.items g slots)) v before after
    × IfOk r (TellsWrong (library_lines (listing json d.block) d.extents.items) v) × CountsWrites r before after
    × IfErr r (λ e. e ≢ volume.Write → after ≡ before) × OnOk r (IsFlushed after)

-- the fault of a volume, as it is told
abbrev pub as_told : Result Bool VolumeFault → Result Bool MemberListFault
as_told (Ok is_wrong) = Ok is_wrong
as_told (Err f) = Err (library_fault f)

-- the data set of a name is partitioned, and its members were printed so
abbrev pub OfLibrary : Result Bool MemberListFault → (name : List ℕ) → (json : Option (List ℕ)) → KnownVolume → (before after : Stream) → Type 0
OfLibrary result name json v before after =
    HasSet name v (λ d. (is_partitioned d.block ≡ true) × (r : Result Bool VolumeFault) × (result ≡ as_told r) × PrintsMembers r json d v before after)

-- Why nothing is printed: the volume has no data set of the name; or it has one, which is not partitioned; or there is no memory, or a read
-- fails, before its members are looked at.
abbrev pub WhyNothing : MemberListFault → (name : List ℕ) → KnownVolume → Type 0
WhyNothing fault.NoDataSet name v = SetOf name v None
WhyNothing fault.NotPartitioned name v = HasSet name v (λ d. is_partitioned d.block ≡ false)
WhyNothing fault.OutOfMemory name v = Unit {0}
WhyNothing fault.Read name v = Unit {0}
WhyNothing fault.Write name v = ⊥

abbrev pub PrintsNothing : Result Bool MemberListFault → (name : List ℕ) → KnownVolume → (before after : Stream) → Type 0
PrintsNothing (Ok is_wrong) name v before after = ⊥
PrintsNothing (Err f) name v before after = WhyNothing f name v × (after ≡ before)

-- The members of a library that is named were printed; or nothing is, and why.
abbrev pub ListsLibrary : Result Bool MemberListFault → (name : List ℕ) → (json : Option (List ℕ)) → KnownVolume → (before after : Stream) → Type 0
ListsLibrary result name json v before after = PrintsNothing result name v before after ⊎ OfLibrary result name json v before after

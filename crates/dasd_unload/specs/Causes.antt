-- Why there is nothing to unload.
use Rattle.std.specs.Prelude.{◌≡◌, ℕ, true, false, List, Option, Some, None, Result, Ok, Err}
use Rattle.dasd_volumes.specs.Reading.{KnownVolume}
use Rattle.volume_contents.specs.declared.sets.DataSet.{DataSet}
use Rattle.dasd_unload.specs.declared.fault.UnloadFault.{UnloadFault}
use Rattle.dasd_unload.specs.declared.fault.UnloadFault.TheVariants as fault
use Rattle.dasd_unload.specs.Unloads.{Outcome}
use Rattle.dasd_unload.specs.declared.parts.End.{End}
use Rattle.dasd_unload.specs.Parts.{is_partitioned, is_whole}
use Rattle.dasd_unload.specs.Asked.{AskedSet, SetOf, MemberOf, UnloadsSet, StopsPrinting, form_asked}

-- a data set has no member of a name: it has no members, or none of them has the name
abbrev pub HasNoMember : KnownVolume → DataSet → (member : Option (List ℕ)) → Type 0
HasNoMember v d (Some member) = is_partitioned d.block ≡ true → MemberOf member v d.extents.items None
HasNoMember v d None = ⊥

-- why the blocks that are asked for begin nowhere
abbrev pub WhyNoStart : UnloadFault → KnownVolume → DataSet → (member : Option (List ℕ)) → Type 0
WhyNoStart fault.NoMember v d member = HasNoMember v d member
WhyNoStart fault.NoMemberNamed v d member = (is_partitioned d.block ≡ true) × (member ≡ None)
WhyNoStart (fault.Job _) v d member = Unit {0}
WhyNoStart fault.NoDataSet v d member = ⊥
WhyNoStart (fault.Attributes _) v d member = ⊥
WhyNoStart (fault.NotWhole _) v d member = ⊥

-- there is a data set of a name, of which this holds
pub record HasSet (text : List ℕ) (v : KnownVolume) (this : DataSet → Type 0) : Type 0 where
  pub set : DataSet
  pub named : SetOf text v (Some set)
  pub is_so : this set

-- Why nothing is unloaded: the volume has no data set of the name; its format is of no records that could be lines, and none is given, or
-- what is given contradicts the label or lacks a length; it has no such
-- member, or has members and none is named. A fault of the files or of the volume has none of these causes.
abbrev pub WhyNot : UnloadFault → AskedSet → KnownVolume → Type 0
WhyNot fault.NoDataSet a v = SetOf a.name v None
WhyNot (fault.Attributes f) a v = HasSet a.name v (λ d. form_asked d.block a.block_form a.given ≡ Err f)
WhyNot fault.NoMember a v = HasSet a.name v (λ d. HasNoMember v d a.member)
WhyNot fault.NoMemberNamed a v = HasSet a.name v (λ d. (is_partitioned d.block ≡ true) × (a.member ≡ None))
WhyNot (fault.Job _) a v = Unit {0}
WhyNot (fault.NotWhole _) a v = ⊥

-- what is asked for was unloaded as a whole
pub record UnloadsWhole (a : AskedSet) (v : KnownVolume) (before now : Outcome) : Type 0 where
  pub end : End
  pub is_all : is_whole end ≡ true
  pub unloads : UnloadsSet a v before now end

-- It was unloaded up to its end of file, and nothing says that more of it is on another volume; or it is not whole, which is told; or it was
-- not unloaded, and no file came.
abbrev pub UnloadsOrTells : {A : Type 0} → Result A UnloadFault → AskedSet → KnownVolume → (before now : Outcome) → Type 0
UnloadsOrTells (Ok _) a v before now = UnloadsWhole a v before now
UnloadsOrTells (Err (fault.NotWhole end)) a v before now = (is_whole end ≡ false) × UnloadsSet a v before now end
UnloadsOrTells (Err fault) a v before now = WhyNot fault a v × (now.written ≡ before.written) × StopsPrinting fault a v before.printed now.printed

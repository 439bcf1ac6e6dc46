-- What was looked for by its name, and why nothing begins where it is asked for.
use Rattle.std.proofs.Common.{◌≡◌, ℕ, List, Option, Some, None, sym, find, bytes_eq}
use Rattle.dasd_volumes.specs.Reading.{KnownVolume}
use Rattle.volume_labels.specs.declared.fields.Extent.{Extent}
use Rattle.volume_labels.specs.declared.directories.DirectoryEntry.{DirectoryEntry}
use Rattle.volume_contents.specs.declared.sets.DataSet.{DataSet}
use Rattle.dasd_extract.specs.declared.members.Members.{Members}
use Rattle.dasd_extract.specs.Members.{MembersOf}
use Rattle.dasd_extract.specs.Names.{Names}
use Rattle.dasd_unload.specs.declared.fault.UnloadFault.{UnloadFault}
use Rattle.dasd_unload.specs.declared.fault.UnloadFault.TheVariants as fault
use Rattle.dasd_unload.specs.Asked.{AskedSet, SetOf, NamesMember, MemberOf}
use Rattle.dasd_unload.specs.Causes.{WhyNoStart, WhyNot}

-- a member, or that there is none
names_member : (text name : List ℕ) (v : KnownVolume) (extents : List Extent) (members : Members) (found : Option DirectoryEntry)
    → Names text name → MembersOf extents v members
    → found ≡ find (λ e. bytes_eq e.name name) members.entries.items → NamesMember text v extents found
names_member text name v extents members found named of_set is = record {
  name = name;
  named = named;
  members = members;
  of_set = of_set;
  first = sym is;
}

pub member_of : (text name : List ℕ) (v : KnownVolume) (extents : List Extent) (members : Members) (found : Option DirectoryEntry)
    → Names text name → MembersOf extents v members
    → found ≡ find (λ e. bytes_eq e.name name) members.entries.items → MemberOf text v extents found
member_of text name v extents members (Some entry) named of_set is = names_member text name v extents members (Some entry) named of_set is
member_of text name v extents members None named of_set is = λ _. names_member text name v extents members None named of_set is

-- a data set is there, and what is asked for of it begins nowhere
pub why_no_start : (f : UnloadFault) (a : AskedSet) (v : KnownVolume) (d : DataSet) → SetOf a.name v (Some d) → WhyNoStart f v d a.member
    → WhyNot f a v
why_no_start fault.NoMember a v d named why = record { set = d; named = named; is_so = why }
why_no_start fault.NoMemberNamed a v d named why = record { set = d; named = named; is_so = why }
why_no_start (fault.Job _) a v d named why = tt
why_no_start fault.NoDataSet a v d named why = absurd why
why_no_start (fault.Attributes _) a v d named why = absurd why
why_no_start (fault.NotWhole _) a v d named why = absurd why

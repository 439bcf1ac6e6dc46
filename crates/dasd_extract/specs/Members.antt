-- The members of a partitioned data set.
use Rattle.std.specs.Prelude.{◌≡◌, ℕ, List, Some}
use Rattle.volume_labels.specs.declared.fields.Extent.{Extent}
use Rattle.volume_labels.specs.Directories.{entries_of}
use Rattle.dasd_volumes.specs.Reading.{KnownVolume}
use Rattle.dasd_extract.specs.declared.blocks.ExtractedForm.TheVariants.{Directory}
use Rattle.dasd_extract.specs.declared.members.Members.{Members}
use Rattle.dasd_extract.specs.Walk.{Wanted, wanted, source_written}

-- the blocks of a directory: those from the data set's first on, over 512 tracks at most
abbrev pub directory : List Extent → Wanted
directory extents = wanted Directory extents (record { track = 0; number = 0 }) 512

-- these are the entries of the directory of a data set, and what is wrong behind them, if the slots of the volume are known
pub record MembersIn (extents : List Extent) (v : KnownVolume) (slots : List (List ℕ)) (m : Members) : Type 0 where
  pub entries : m.entries.items ≡ (entries_of (source_written (directory extents) v.geometry slots).bytes).entries
  pub fault : m.fault ≡ (entries_of (source_written (directory extents) v.geometry slots).bytes).fault
  pub stop : Some m.stop ≡ (source_written (directory extents) v.geometry slots).stop

abbrev pub MembersOf : List Extent → KnownVolume → Members → Type 0
MembersOf extents v m = (slots : List (List ℕ)) → v.slots ≡ Some slots → MembersIn extents v slots m

-- The commands as tables: what each works on, the credit that it needs, what it leaves
-- (component descriptions of the 2841 and the 2314, the sections of the commands).
use Rattle.std.specs.Prelude.{Bool, true, false, Option, Some, None}
use Rattle.ckd_sense.specs.declared.commands.Command.{Command}
use Rattle.ckd_sense.specs.declared.commands.Command.TheVariants.{NoOperation, Recalibrate, Seek, SeekCylinder, SeekHead, SetFileMask, Sense}
use Rattle.ckd_sense.specs.declared.commands.Command.TheVariants.{SearchHomeAddressEqual, SearchIdEqual, SearchIdHigh, SearchIdEqualOrHigh, SearchKeyEqual}
use Rattle.ckd_sense.specs.declared.commands.Command.TheVariants.{SearchKeyHigh, SearchKeyEqualOrHigh, ReadIpl, ReadHomeAddress, ReadR0, ReadCount, ReadData}
use Rattle.ckd_sense.specs.declared.commands.Command.TheVariants.{ReadKeyAndData, ReadCountKeyAndData, WriteHomeAddress, WriteR0, WriteCountKeyAndData}
use Rattle.ckd_sense.specs.declared.commands.Command.TheVariants.{WriteData, WriteKeyAndData}
use Rattle.ckd_position.specs.declared.areas.Area.{Area}
use Rattle.ckd_position.specs.declared.areas.Area.TheVariants.{HomeAddress, Of}
use Rattle.ckd_position.specs.declared.areas.RecordPart.TheVariants.{Data}
use Rattle.ckd_position.specs.declared.areas.Kind.TheVariants as kind
use Rattle.ckd_position.specs.declared.comparisons.Compare.{Compare}
use Rattle.ckd_position.specs.declared.comparisons.Compare.TheVariants.{Equal, High, EqualOrHigh}
use Rattle.ckd_command.specs.declared.registers.Credit.{Credit}
use Rattle.ckd_command.specs.declared.registers.Credit.TheVariants.{EqualHomeAddress, EqualId, EqualKey, WroteHomeAddress, WroteRecord}
use Rattle.ckd_command.specs.declared.tables.Aim.{Aim}
use Rattle.ckd_command.specs.declared.tables.Aim.TheVariants.{NoArea, Next, Credited}
use Rattle.ckd_command.specs.declared.tables.Action.{Action}
use Rattle.ckd_command.specs.declared.tables.Action.TheVariants as action
use Rattle.ckd_position.specs.declared.extents.AreaBytes.{AreaBytes}
use Rattle.ckd_position.specs.declared.extents.AreaBytes.TheVariants as extent

-- what a command works on
abbrev pub aim : Command → Aim
aim SearchHomeAddressEqual = Next kind.HomeAddress
aim SearchIdEqual = Next kind.AnyCount
aim SearchIdHigh = Next kind.AnyCount
aim SearchIdEqualOrHigh = Next kind.AnyCount
aim SearchKeyEqual = Next kind.Key
aim SearchKeyHigh = Next kind.Key
aim SearchKeyEqualOrHigh = Next kind.Key
aim ReadIpl = Next kind.FirstData
aim ReadHomeAddress = Next kind.HomeAddress
aim ReadR0 = Next kind.FirstCount
aim ReadCount = Next kind.LaterCount
aim ReadData = Next kind.Data
aim ReadKeyAndData = Next kind.KeyAndData
aim ReadCountKeyAndData = Next kind.LaterCount
aim WriteHomeAddress = Next kind.HomeAddress
aim WriteR0 = Credited
aim WriteCountKeyAndData = Credited
aim WriteData = Credited
aim WriteKeyAndData = Credited
aim _ = NoArea

-- the area behind which a command with this credit makes its record, or which it writes; this table is the project's profile
abbrev pub credited : Command → Option Credit → Option Area
credited WriteR0 (Some EqualHomeAddress) = Some HomeAddress
credited WriteR0 (Some WroteHomeAddress) = Some HomeAddress
credited WriteCountKeyAndData (Some (EqualId i)) = Some (Of Data i)
credited WriteCountKeyAndData (Some (EqualKey i)) = Some (Of Data i)
credited WriteCountKeyAndData (Some (WroteRecord i)) = Some (Of Data i)
credited WriteData (Some (EqualId i)) = Some (Of Data i)
credited WriteData (Some (EqualKey i)) = Some (Of Data i)
credited WriteKeyAndData (Some (EqualId i)) = Some (Of Data i)
credited _ _ = None

-- the credit of a search that found its whole area equal
abbrev pub credit_of_search : Command → Option Area → Option Credit
credit_of_search SearchHomeAddressEqual (Some HomeAddress) = Some EqualHomeAddress
credit_of_search SearchIdEqual (Some (Of part i)) = Some (EqualId i)
credit_of_search SearchKeyEqual (Some (Of part i)) = Some (EqualKey i)
credit_of_search _ _ = None

-- what a command does with the bytes that pass
abbrev pub action_of : Command → Action
action_of NoOperation = action.NoTransfer
action_of Recalibrate = action.NoTransfer
action_of Seek = action.SeekCylinderAndHead
action_of SeekCylinder = action.SeekCylinderAndHead
action_of SeekHead = action.SeekHead
action_of SetFileMask = action.SetFileMask
action_of Sense = action.GiveSense
action_of SearchHomeAddressEqual = action.Search
action_of SearchIdEqual = action.Search
action_of SearchIdHigh = action.Search
action_of SearchIdEqualOrHigh = action.Search
action_of SearchKeyEqual = action.Search
action_of SearchKeyHigh = action.Search
action_of SearchKeyEqualOrHigh = action.Search
action_of ReadIpl = action.Read
action_of ReadHomeAddress = action.Read
action_of ReadR0 = action.Read
action_of ReadCount = action.Read
action_of ReadData = action.Read
action_of ReadKeyAndData = action.Read
action_of ReadCountKeyAndData = action.Read
action_of WriteHomeAddress = action.WriteHomeAddress
action_of WriteR0 = action.Format
action_of WriteCountKeyAndData = action.Format
action_of WriteData = action.Update
action_of WriteKeyAndData = action.Update

-- which bytes of the area a command gives, compares or replaces
abbrev pub extent_of : Command → AreaBytes
extent_of SearchHomeAddressEqual = extent.CylinderAndHead
extent_of SearchIdEqual = extent.Identifier
extent_of SearchIdHigh = extent.Identifier
extent_of SearchIdEqualOrHigh = extent.Identifier
extent_of SearchKeyEqual = extent.Key
extent_of SearchKeyHigh = extent.Key
extent_of SearchKeyEqualOrHigh = extent.Key
extent_of ReadIpl = extent.Data
extent_of ReadHomeAddress = extent.HomeAddress
extent_of ReadR0 = extent.CountKeyAndData
extent_of ReadCount = extent.Count
extent_of ReadData = extent.Data
extent_of ReadKeyAndData = extent.KeyAndData
extent_of ReadCountKeyAndData = extent.CountKeyAndData
extent_of WriteData = extent.Data
extent_of WriteKeyAndData = extent.KeyAndData
extent_of _ = extent.Nothing

-- whether the action compares the bytes that pass with the area
abbrev pub is_search : Action → Bool
is_search action.Search = true
is_search _ = false

-- what a search asks of the area
abbrev pub comparison : Command → Compare
comparison SearchIdHigh = High
comparison SearchKeyHigh = High
comparison SearchIdEqualOrHigh = EqualOrHigh
comparison SearchKeyEqualOrHigh = EqualOrHigh
comparison _ = Equal

-- the area at which the position is left by a command that worked on this one
abbrev pub area_left : AreaBytes → Area → Area
area_left extent.CountKeyAndData (Of part i) = Of Data i
area_left _ a = a

-- whether the drive gives the bytes; else it takes them
abbrev pub is_giving : Action → Bool
is_giving action.GiveSense = true
is_giving action.Read = true
is_giving _ = false

-- whether the bytes end with a record's data: a record without data is then reported by unit exception
abbrev pub ends_with_data : AreaBytes → Bool
ends_with_data extent.Data = true
ends_with_data extent.KeyAndData = true
ends_with_data extent.CountKeyAndData = true
ends_with_data _ = false

-- whether a look needs a track that reads whole: Write Home Address works on any
abbrev pub needs_readable : Action → Bool
needs_readable action.WriteHomeAddress = false
needs_readable _ = true

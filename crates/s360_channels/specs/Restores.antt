-- Several channels of which one becomes what it was between two programs.
use Rattle.std.specs.Prelude.{◌≡◌, ℕ, Option, Some, None}
use Rattle.s360_words.specs.Storage.{Storage}
use Rattle.s360_words.specs.declared.words.Csw.{Csw}
use Rattle.s360_laws.specs.Machine.{Machine}
use Rattle.s360_channel.specs.Channel.{ChannelState, StandsFor}
use Rattle.s360_channel.specs.Restores.{RestoresDrive, WhyNotRestored, WhyNotPending, with_pending}
use Rattle.s360_channel.specs.Shares.{with_storage}
use Rattle.attached_drives.specs.declared.drives_saved.SavedDrive.{SavedDrive}
use Rattle.s360_channel.specs.declared.faults.RestoreFault.{RestoreFault as WhyElsewhere}
use Rattle.s360_channel.specs.declared.faults.PendingFault.{PendingFault as WhyNone}
use Rattle.s360_channels.specs.declared.faults.RestoreFault.{RestoreFault}
use Rattle.s360_channels.specs.declared.faults.RestoreFault.TheVariants as restore
use Rattle.s360_channels.specs.declared.faults.PendingFault.{PendingFault}
use Rattle.s360_channels.specs.declared.faults.PendingFault.TheVariants as pending

-- A drive is as it was saved, for every machine that the channel stands for,
abbrev pub PutsBack : (device : ℕ) → SavedDrive → (old new : ChannelState) → Type 0
PutsBack device saved old new = (m : Machine) → StandsFor old m → RestoresDrive device saved m old new

-- or a channel status word pends for it.
abbrev pub HasPend : (device : ℕ) → Csw → (old new : ChannelState) → Type 0
HasPend device csw old new = (m : Machine) → StandsFor old m → StandsFor new (with_pending device csw m)

-- Why a channel does not put a drive back,
abbrev pub LeavesDrive : (device : ℕ) → SavedDrive → WhyElsewhere → ChannelState → Type 0
LeavesDrive device saved why c = (m : Machine) → StandsFor c m → WhyNotRestored device saved m why

-- or why no channel status word pends.
abbrev pub LeavesNone : (device : ℕ) → Csw → WhyNone → ChannelState → Type 0
LeavesNone device csw why c = (m : Machine) → StandsFor c m → WhyNotPending device csw m why

-- Why it is not done, in this order: there is no such channel; the channel refuses it, over the shared storage.
abbrev pub RefusedRestore : Option ChannelState → Storage → (device : ℕ) → SavedDrive → RestoreFault → Type 0
RefusedRestore None s device saved restore.NoChannel = Unit {0}
RefusedRestore None s device saved (restore.Refused why) = ⊥
RefusedRestore (Some c) s device saved restore.NoChannel = ⊥
RefusedRestore (Some c) s device saved (restore.Refused why) = LeavesDrive device saved why (with_storage c s)

-- the same of a channel status word
abbrev pub RefusedPending : Option ChannelState → Storage → (device : ℕ) → Csw → PendingFault → Type 0
RefusedPending None s device csw pending.NoChannel = Unit {0}
RefusedPending None s device csw (pending.Refused why) = ⊥
RefusedPending (Some c) s device csw pending.NoChannel = ⊥
RefusedPending (Some c) s device csw (pending.Refused why) = LeavesNone device csw why (with_storage c s)

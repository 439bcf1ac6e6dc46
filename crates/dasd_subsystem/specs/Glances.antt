-- What is seen of a channel between two units of its program, and what a unit did, by what is seen before it and behind it.
use Rattle.std.specs.Prelude.{◌≡◌, ◌-◌, ◌+◌, ◌&&◌, ◌||◌, ◌==◌, ◌≤◌, ◌*◌, ℕ, nat_lt, not, Bool, true, false, Option, Some, None, slice_index_or}
use Rattle.s360_words.specs.Storage.{Storage}
use Rattle.s360_words.specs.Words.{has, skips}
use Rattle.ckd_drive.specs.Work.{DriveState, phase_of}
use Rattle.ckd_drive.specs.declared.answers.Phase.{Phase}
use Rattle.ckd_drive.specs.declared.answers.Phase.TheVariants as phase
use Rattle.s360_program.specs.declared.view.AtWork.{AtWork}
use Rattle.s360_program.specs.declared.view.AtWork.TheVariants.{Fetching, Looking}
use Rattle.s360_laws.specs.Machine.{Machine}
use Rattle.s360_laws.specs.Events.{StepBy, Stepped}
use Rattle.s360_channel.specs.Channel.{ChannelState, StandsFor}
use Rattle.s360_channel.specs.Shares.{with_storage}
use Rattle.s360_channel.specs.Views.{subchannel_seen}
use Rattle.s360_channel.specs.Watched.{ShowsProgram, ShowsDriveAtWork}
use Rattle.attached_drives.specs.declared.view.DriveView.{DriveView}
use Rattle.s360_channel.specs.declared.view.SubchannelView.{SubchannelView}
use Rattle.s360_channel.specs.declared.view.SubchannelView.TheVariants.{Working, Pending}
use Rattle.s360_channel.specs.declared.view.Watched.{Watched}
use Rattle.s360_channels.specs.Asked.{drive_at}
use Rattle.s360_channels.specs.Channels.{AtMost}
use Rattle.dasd_subsystem.specs.Shown.{numbers_of}
use Rattle.dasd_subsystem.specs.Watched.{word_of}
use Rattle.dasd_subsystem.specs.declared.glances.Glance.{Glance}

-- What is seen.

-- what the next unit of a program does; a fetch, where none runs
abbrev pub work_seen : Option Watched → AtWork
work_seen None = Fetching
work_seen (Some seen) = seen.program.at_work

-- how far the drive at work is with its command
abbrev pub phase_seen : Option DriveState → Phase
phase_seen None = phase.Idle
phase_seen (Some d) = phase_of d.work

-- The program that runs at a channel and its drive at work are seen, and the drive of the device that has the subchannel.
pub record SeesWork (glance : Glance) (c : ChannelState) : Type 0 where
  pub program : Option Watched
  pub shows_program : (m : Machine) → StandsFor c m → ShowsProgram m program
  pub work : glance.work ≡ work_seen program
  pub at_work : Option DriveState
  pub shows_drive : (m : Machine) → StandsFor c m → ShowsDriveAtWork m at_work
  pub phase : glance.phase ≡ phase_seen at_work
  pub drive : glance.drive ≡ drive_at (numbers_of glance.subchannel).1 (Some c)

-- And so is the subchannel, as each machine has it that the channel stands for.
pub record Sees (glance : Glance) (c : ChannelState) : Type 0 where
  pub subchannel : (m : Machine) → StandsFor c m → glance.subchannel ≡ subchannel_seen m m.subchannel
  pub work : SeesWork glance c

-- the same of a channel that finds this storage; without a channel nothing is said
abbrev pub SeesWorkAt : Glance → Storage → Option ChannelState → Type 0
SeesWorkAt glance s None = Unit {0}
SeesWorkAt glance s (Some c) = SeesWork glance (with_storage c s)

-- a channel is seen, or there is none
abbrev pub SeesAt : Option Glance → Storage → Option ChannelState → Type 0
SeesAt None s None = Unit {0}
SeesAt (Some glance) s (Some c) = Sees glance (with_storage c s)
SeesAt glance s c = ⊥

-- A unit is asked for, and what is seen behind it: a channel whose program does not run does none.
pub record IsUnit (behind : Glance) (old new : ChannelState) : Type 0 where
  pub done : ℕ
  pub most : done ≤ 1
  pub steps : AtMost (2 * done) (StepBy 1) (Stepped done) old new
  pub sees : Sees behind new

-- and what is answered of that channel
abbrev pub UnitTo : Option Glance → (old new : ChannelState) → Type 0
UnitTo None old new = ⊥
UnitTo (Some behind) old new = IsUnit behind old new

-- What a unit did.

-- whether a program runs
abbrev pub runs : SubchannelView → Bool
runs (Working device asked) = true
runs seen = false

-- how many bytes have passed in the command at work
abbrev pub passed_in : Phase → ℕ
passed_in (phase.Gives passed left) = passed
passed_in (phase.Takes passed left) = passed
passed_in _ = 0

-- whether the drive gives them
abbrev pub gives_in : Phase → Bool
gives_in (phase.Gives passed left) = true
gives_in _ = false

-- whether a unit moved a byte between drive and channel: more have passed behind it. None moves two
abbrev pub moves_byte : (before behind : Glance) → Bool
moves_byte before behind = nat_lt (passed_in before.phase) (passed_in behind.phase)

-- whether that byte was stored: the drive gave it, and the word at work does not skip. It is stored at the word's `place_of`
abbrev pub stores_byte : (before behind : Glance) → Bool
stores_byte before behind = moves_byte before behind && gives_in behind.phase && not (skips (word_of before.work))

-- whether a command looks for its area
abbrev pub is_looking : AtWork → Bool
is_looking (Looking word) = true
is_looking work = false

-- whether a program ended with unit check
abbrev pub has_unit_check : SubchannelView → Bool
has_unit_check (Pending device csw) = has csw.unit.0 0x02
has_unit_check seen = false

-- whether the sense is one of a look that fails at the index: end of cylinder, no record found, or file protected
abbrev pub senses_index : Option DriveView → Bool
senses_index None = false
senses_index (Some d) = has (slice_index_or d.sense 1 0) 0x2C

-- whether the index passed: a look goes on behind the unit, or it failed at the index
abbrev pub passes_index : (before behind : Glance) → Bool
passes_index before behind =
    is_looking before.work && (is_looking behind.work || (has_unit_check behind.subchannel && senses_index behind.drive))

-- the cylinder where the arm is, or goes, and the head
abbrev pub cylinder_in : Option DriveView → ℕ
cylinder_in None = 0
cylinder_in (Some d) = d.cylinder

abbrev pub head_in : Option DriveView → ℕ
head_in None = 0
head_in (Some d) = d.head

-- how many cylinders the arm crossed
abbrev pub crossed : (before behind : Glance) → ℕ
crossed before behind =
    (cylinder_in before.drive - cylinder_in behind.drive) + (cylinder_in behind.drive - cylinder_in before.drive)

-- whether the arm is at another cylinder behind the unit
abbrev pub changes_cylinder : (before behind : Glance) → Bool
changes_cylinder before behind = not (cylinder_in before.drive == cylinder_in behind.drive)

-- whether the track under the arm is another one
abbrev pub changes_track : (before behind : Glance) → Bool
changes_track before behind = changes_cylinder before behind || not (head_in before.drive == head_in behind.drive)

-- whether an interruption is asked for and not yet taken
abbrev pub is_asked : SubchannelView → Bool
is_asked (Working device asked) = asked
is_asked seen = false

-- whether the unit asked for one, where none was that is not yet taken
abbrev pub asks : (before behind : Glance) → Bool
asks before behind = is_asked behind.subchannel && not (is_asked before.subchannel)

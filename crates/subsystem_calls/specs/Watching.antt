-- What C is shown of a channel program while it runs.
use Rattle.std.specs.Prelude.{◌≡◌, ℤ, pos, ℕ, List, length, Option, Some, None}
use Rattle.s360_words.specs.Storage.{Storage}
use Rattle.ckd_drive.specs.Work.{DriveState}
use Rattle.s360_channel.specs.Channel.{ChannelState}
use Rattle.s360_channel.specs.declared.view.Watched.{Watched}
use Rattle.s360_channels.specs.Asked.{ShowsProgramAt, ShowsDriveAtWorkAt}
use Rattle.dasd_subsystem.specs.Watched.{program_shown, registers_shown}
use Rattle.subsystem_calls.specs.Codes.{no_channel, no_program}
use Rattle.subsystem_calls.specs.Sized.{fitted, program_bytes, registers_bytes}

-- A program is shown, as far as there is room; or none runs, and nothing is.
abbrev pub ShowsSeenProgram : Option Watched → (code : ℤ) → (before shown : List ℕ) → Type 0
ShowsSeenProgram (Some seen) code before shown = (code ≡ pos 0) × (shown ≡ fitted (length before) (program_bytes (program_shown seen)))
ShowsSeenProgram None code before shown = (code ≡ no_program) × (shown ≡ before)

-- The program of a channel is shown as each machine shows it that the channel stands for over this storage,
pub record ShowsItsProgram (c : ChannelState) (s : Storage) (code : ℤ) (before shown : List ℕ) : Type 0 where
  pub program : Option Watched
  pub seen : ShowsProgramAt program s (Some c)
  pub shows : ShowsSeenProgram program code before shown

-- or there is no such channel, and nothing is.
abbrev pub ShowsProgramOf : Option ChannelState → Storage → (code : ℤ) → (before shown : List ℕ) → Type 0
ShowsProgramOf (Some c) s code before shown = ShowsItsProgram c s code before shown
ShowsProgramOf None s code before shown = (code ≡ no_channel) × (shown ≡ before)

-- What the drive of a program remembers is shown, as far as there is room; or none runs, and nothing is.
abbrev pub ShowsSeenDrive : Option DriveState → (code : ℤ) → (before shown : List ℕ) → Type 0
ShowsSeenDrive (Some d) code before shown = (code ≡ pos 0) × (shown ≡ fitted (length before) (registers_bytes (registers_shown d.state.registers)))
ShowsSeenDrive None code before shown = (code ≡ no_program) × (shown ≡ before)

-- The drive of a channel's program is that of each machine that the channel stands for over this storage,
pub record ShowsItsRegisters (c : ChannelState) (s : Storage) (code : ℤ) (before shown : List ℕ) : Type 0 where
  pub drive : Option DriveState
  pub seen : ShowsDriveAtWorkAt drive s (Some c)
  pub shows : ShowsSeenDrive drive code before shown

-- or there is no such channel, and nothing is shown.
abbrev pub ShowsRegistersOf : Option ChannelState → Storage → (code : ℤ) → (before shown : List ℕ) → Type 0
ShowsRegistersOf (Some c) s code before shown = ShowsItsRegisters c s code before shown
ShowsRegistersOf None s code before shown = (code ≡ no_channel) × (shown ≡ before)

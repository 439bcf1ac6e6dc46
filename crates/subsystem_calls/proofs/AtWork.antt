-- What the drive of a program remembers is shown, where one runs.
use Rattle.std.proofs.Common.{◌≡◌, refl, sym, ℕ, List, length, Option, Some, None, pos}
use Rattle.std.proofs.lemmas.Option.{none-some}
use Rattle.s360_words.specs.Storage.{Storage}
use Rattle.ckd_drive.specs.Work.{DriveState}
use Rattle.s360_channel.specs.Channel.{ChannelState}
use Rattle.s360_channels.specs.Asked.{ShowsDriveAtWorkAt}
use Rattle.dasd_subsystem.specs.Watched.{registers_shown}
use Rattle.subsystem_calls.specs.Sized.{fitted, registers_bytes}
use Rattle.subsystem_calls.specs.Watching.{ShowsRegistersOf}

pub registers_of : (o : Option ChannelState) (s : Storage) (d : DriveState) (before shown : List ℕ)
    → ShowsDriveAtWorkAt (Some d) s o → shown ≡ fitted (length before) (registers_bytes (registers_shown d.state.registers))
    → ShowsRegistersOf o s (pos 0) before shown
registers_of (Some c) s d before shown seen is = record { drive = Some d; seen = seen; shows = (refl, is) }
registers_of None s d before shown seen is = absurd (none-some d (sym seen))

-- What the saving and the restoring of a handle's channels say and leave.
use Rattle.std.specs.Prelude.{◌≡◌, ◌⊎◌, ◌<◌, ◌≤◌, ◌++◌, ℤ, pos, neg_ℤ, ℕ, List, drop, length, Option, Some, None, Result, Ok, Err}
use Rattle.s360_channel.specs.declared.saving.SavedChannel.{SavedChannel}
use Rattle.s360_channel.specs.declared.faults.SavedFault.TheVariants as why
use Rattle.s360_channels.specs.Selectors.{SelectorsState}
use Rattle.s360_channels.specs.declared.faults.SavedFault.TheVariants as fault
use Rattle.saved_state.specs.Bytes.{bytes_of}
use Rattle.saved_state.specs.declared.faults.BytesFault.TheVariants as bytes
use Rattle.dasd_subsystem.specs.declared.saving.RestoreRefusal.{RestoreRefusal}
use Rattle.dasd_subsystem.specs.declared.saving.RestoreRefusal.TheVariants as refusal
use Rattle.subsystem_calls.specs.Codes.{no_room, program_runs}

-- It is written where it goes, its bytes are the first there, the others stay, and their number is told,
pub record Writes (saved : List (Option SavedChannel)) (code : ℤ) (old new : List ℕ) (before after : ℕ) : Type 0 where
  pub done : code ≡ pos 0
  pub room : 538 ≤ length old
  pub bytes : new ≡ bytes_of saved ++ drop 538 old
  pub told : after ≡ 538

-- or nothing is, for this reason.
pub record WritesNothing (why code : ℤ) (old new : List ℕ) (before after : ℕ) : Type 0 where
  pub refused : code ≡ why
  pub stays : new ≡ old
  pub untold : after ≡ before

-- A program runs, and nothing is saved; what is saved is written; or there is no room for it.
abbrev pub TellsSaved : Option (List (Option SavedChannel)) → (code : ℤ) → (old new : List ℕ) → (before after : ℕ) → Type 0
TellsSaved None code old new before after = WritesNothing program_runs code old new before after
TellsSaved (Some saved) code old new before after =
    Writes saved code old new before after ⊎ ((length old < 538) × WritesNothing no_room code old new before after)

-- why channels are not restored
abbrev pub restore_code : RestoreRefusal → ℤ
restore_code (refusal.Bytes bytes.NotSaved) = neg_ℤ (pos 40)
restore_code (refusal.Bytes bytes.OtherVersion) = neg_ℤ (pos 41)
restore_code (refusal.Bytes bytes.OtherLength) = neg_ℤ (pos 42)
restore_code (refusal.Bytes bytes.OtherSum) = neg_ℤ (pos 43)
restore_code (refusal.Bytes bytes.NotSound) = neg_ℤ (pos 44)
restore_code (refusal.Channels fault.OtherChannels) = neg_ℤ (pos 45)
restore_code (refusal.Channels (fault.Refused why.ProgramRuns)) = program_runs
restore_code (refusal.Channels (fault.Refused why.OtherDrives)) = neg_ℤ (pos 46)
restore_code (refusal.Channels (fault.Refused why.NoSuchTrack)) = neg_ℤ (pos 47)
restore_code (refusal.Channels (fault.Refused why.NotOwed)) = neg_ℤ (pos 27)

-- They are restored, or stay, and C is told why.
abbrev pub TellsRestored : Result SelectorsState RestoreRefusal → (code : ℤ) → (old new : SelectorsState) → Type 0
TellsRestored (Ok restored) code old new = (code ≡ pos 0) × (new ≡ restored)
TellsRestored (Err why) code old new = (code ≡ restore_code why) × (new ≡ old)

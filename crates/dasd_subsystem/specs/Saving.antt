-- Channels that are put back by the bytes of a saved state.
use Rattle.std.specs.Prelude.{ℕ, List, Option, Some, None, Result, Ok, Err}
use Rattle.s360_channel.specs.declared.saving.SavedChannel.{SavedChannel}
use Rattle.s360_channels.specs.Saves.{all_back, why_not_all}
use Rattle.s360_channels.specs.Selectors.{SelectorsState}
use Rattle.s360_channels.specs.declared.faults.SavedFault.{SavedFault}
use Rattle.saved_state.specs.Reading.{read}
use Rattle.saved_state.specs.declared.faults.BytesFault.{BytesFault}
use Rattle.dasd_subsystem.specs.declared.saving.RestoreRefusal.{RestoreRefusal}
use Rattle.dasd_subsystem.specs.declared.saving.RestoreRefusal.TheVariants.{Bytes, Channels}

-- the channels as they were saved, unless they refuse it
abbrev pub restored_unless : Option SavedFault → List (Option SavedChannel) → SelectorsState → Result SelectorsState RestoreRefusal
restored_unless (Some why) saved cs = Err (Channels why)
restored_unless None saved cs = Ok (record cs { channels = all_back saved cs.channels })

-- the same of what was read
abbrev pub restored_as : Result (List (Option SavedChannel)) BytesFault → SelectorsState → Result SelectorsState RestoreRefusal
restored_as (Err why) cs = Err (Bytes why)
restored_as (Ok saved) cs = restored_unless (why_not_all saved cs.channels) saved cs

-- the channels behind a restore by these bytes, or why they are not restored: the bytes are no saved state; the channels refuse it
abbrev pub restored_by : List ℕ → SelectorsState → Result SelectorsState RestoreRefusal
restored_by bytes cs = restored_as (read bytes) cs

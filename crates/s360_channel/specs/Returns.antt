-- What is saved of a machine between two programs, and the law that it comes back.
use Rattle.std.specs.Prelude.{◌≡◌, ℕ, List, [], ◌∷◌, Option, Some, None, option_map}
use Rattle.s360_words.specs.declared.words.Csw.{Csw}
use Rattle.s360_laws.specs.Machine as machine
use Rattle.s360_laws.specs.Machine.{Device, Machine}
use Rattle.s360_laws.specs.Soundness.{AreDistinct}
use Rattle.s360_channel.specs.Saves.{machine_back}
use Rattle.attached_drives.specs.Saved.{drives_saved}
use Rattle.s360_channel.specs.declared.saving.SavedChannel.{SavedChannel}

-- the channel status word that pends and its device, if one does; nothing is saved while a program runs
abbrev pub pending_in : machine.Subchannel → Option (Option (ℕ × Csw))
pending_in machine.Idle = Some None
pending_in (machine.Working device script) = None
pending_in (machine.Pending device csw) = Some (Some (device, csw))

-- all that is saved of a machine
abbrev pub machine_saved : Machine → Option SavedChannel
machine_saved m = option_map (λ pending. record { pending = pending; drives = drives_saved m.devices }) (pending_in m.subchannel)

-- devices have the addresses and the volumes of others, one by one
abbrev pub AreMountedAs : List Device → List Device → Type 0
AreMountedAs [] [] = Unit {0}
AreMountedAs [] (e ∷ es) = ⊥
AreMountedAs (d ∷ ds) [] = ⊥
AreMountedAs (d ∷ ds) (e ∷ es) = (e.device ≡ d.device) × (e.drive.volume ≡ d.drive.volume) × AreMountedAs ds es

-- another machine of the same channel, with the same storage, addresses and volumes
pub record IsMountedAs (m other : Machine) : Type 0 where
  pub channel : other.channel ≡ m.channel
  pub storage : other.storage ≡ m.storage
  pub devices : AreMountedAs m.devices other.devices

-- What was saved of a machine makes it of any other that is mounted as it was.
abbrev pub WhatWasSavedComesBack : Type 0
WhatWasSavedComesBack = (m other : Machine) (saved : SavedChannel) → machine_saved m ≡ Some saved → AreDistinct m.devices
    → IsMountedAs m other → machine_back saved other ≡ m

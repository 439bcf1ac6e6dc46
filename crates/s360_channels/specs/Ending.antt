-- Channels that are taken apart.
use Rattle.std.specs.Prelude.{◌≡◌, ◌+◌, ℕ, List, [], ◌∷◌, Option, Some, None, slice_set}
use Rattle.s360_words.specs.Storage.{Storage}
use Rattle.ckd_image.specs.Image.{ImageState}
use Rattle.s360_laws.specs.Machine.{Machine}
use Rattle.s360_channel.specs.Channel.{ChannelState, StandsFor}
use Rattle.s360_channel.specs.Finishes.{Finishes}
use Rattle.s360_channels.specs.Channels.{ChannelsState, channel_at}

-- What comes back of a channel: the image of each drive with the low byte of its address, in the order of attachment, and the track
-- that its last reset could not save.
pub record Parts : Type 0 where
  pub images : List (Option (ℕ × ImageState))
  pub unsaved : Option (ℕ × ℕ × ℕ)

-- A channel over the shared storage is finished: it is reset, and each image that comes back has the slots of its drive's volume.
abbrev pub Ends : ChannelState → Parts → (after : Storage) → Type 0
Ends c parts after = (m : Machine) → StandsFor c m → Finishes m c after parts.images parts.unsaved

-- The channel with a number is finished, and is no more; the shared storage has all that it stored, and every other channel stays.
pub record Removes (number : ℕ) (c : ChannelState) (parts : Parts) (old new : ChannelsState) : Type 0 where
  pub ends : Ends c parts new.storage
  pub others_stay : new.channels ≡ slice_set old.channels number None

-- Where there is no such channel, nothing comes back and nothing changes.
abbrev pub RemovesFound : Option ChannelState → (number : ℕ) → Option Parts → (old new : ChannelsState) → Type 0
RemovesFound None number parts old new = (parts ≡ None) × (new ≡ old)
RemovesFound (Some c) number None old new = ⊥
RemovesFound (Some c) number (Some parts) old new = Removes number c parts old new

-- the same of the channel with a number
abbrev pub RemovesAt : (number : ℕ) → Option Parts → (old new : ChannelsState) → Type 0
RemovesAt number parts old new = RemovesFound (channel_at number old) number parts old new

-- The channels from a number on, one after another, in order of number: each is finished over the storage that those before it left.
abbrev pub RemovesFrom : (number : ℕ) → List (Option Parts) → (old new : ChannelsState) → Type 0
RemovesFrom number [] old new = new ≡ old
RemovesFrom number (parts ∷ others) old new =
    (between : ChannelsState) × RemovesAt number parts old between × RemovesFrom (number + 1) others between new

-- All of them are, and the storage that is left comes back.
pub record FinishesAll (old : ChannelsState) (storage : Storage) (channels : List (Option Parts)) : Type 0 where
  pub last : ChannelsState
  pub removes : RemovesFrom 0 channels old last
  pub same_storage : storage ≡ last.storage

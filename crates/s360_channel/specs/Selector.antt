-- A channel without a storage of its own, which is lent one for each call.
use Rattle.std.specs.Prelude.{◌≡◌, ℕ, ◌/◌, length, List}
use Rattle.s360_words.specs.Storage.{Storage}
use Rattle.s360_channel.specs.Channel.{ChannelState, IsChannel}
use Rattle.attached_drives.specs.Drives.{AttachedState}
use Rattle.s360_channel.specs.Nexts.{of_parts}
use Rattle.s360_channel.specs.declared.subchannel.Subchannel.{Subchannel}

-- a selector between two calls: its number, the size of each storage that it is lent, what its subchannel does, and its drives
pub record SelectorState : Type 0 where
  pub number : ℕ
  pub size : ℕ
  pub subchannel : Subchannel
  pub drives : List AttachedState

-- the channel that it is over a storage
abbrev pub over : SelectorState → Storage → ChannelState
over c s = of_parts c.number s c.subchannel c.drives

-- a storage has this size, and over it the selector is a channel
pub record IsOver (c : SelectorState) (s : Storage) : Type 0 where
  pub size : length s.bytes ≡ c.size
  pub keys : length s.keys ≡ c.size / 2048
  pub channel : IsChannel (over c s)

-- There is such a storage: then it is a channel over each of that size, since another one is as if all of it was stored.
pub record IsSelector (c : SelectorState) : Type 0 where
  pub storage : Storage
  pub is_over : IsOver c storage

-- a call changes neither the number nor the size
pub record KeepsSelector (old new : SelectorState) : Type 0 where
  pub number : new.number ≡ old.number
  pub size : new.size ≡ old.size

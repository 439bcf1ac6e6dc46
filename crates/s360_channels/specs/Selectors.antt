-- Several channels without a storage of their own, which are lent one for each call.
use Rattle.std.specs.Prelude.{◌≡◌, ℕ, List, Option, Some}
use Rattle.s360_words.specs.Storage.{Storage}
use Rattle.s360_channel.specs.Selector.{SelectorState}
use Rattle.s360_channels.specs.Channels.{ChannelsState, numbered}
use Rattle.s360_channels.specs.Inside.{IsFound}

-- the size of each storage that they are lent, and the channels by their numbers, 0 to 6
pub record SelectorsState : Type 0 where
  pub size : ℕ
  pub channels : List (Option SelectorState)

-- the channels that they are over a storage, which they share
abbrev pub across : SelectorsState → Storage → ChannelsState
across c s = record { storage = s; channels = c.channels }

-- each of them is a channel over this storage
abbrev pub AreOver : SelectorsState → Storage → Type 0
AreOver cs s = (number : ℕ) (c : SelectorState) → numbered number cs.channels ≡ Some c → IsFound number c s

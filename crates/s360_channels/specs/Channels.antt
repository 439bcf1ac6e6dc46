-- Several channels over one main storage, and what their calls do.
use Rattle.std.specs.Prelude.{◌≡◌, ◌*◌, ◌≤◌, ℕ, length, List, Option, Some, None, option_map, slice_index_or, slice_set, Bool, if◌then◌else◌}
use Rattle.s360_words.specs.Storage.{Storage, Change, changed, is_within}
use Rattle.s360_laws.specs.Events.{Event, Answer, StepBy, Stepped, WasReset}
use Rattle.s360_laws.specs.Events as machine
use Rattle.s360_laws.specs.Machine.{Machine}
use Rattle.s360_channel.specs.Calls.{Does, DoesQuietly, CallsNoStore, CallsAtMost}
use Rattle.s360_channel.specs.Channel.{ChannelState, StandsFor}
use Rattle.s360_channel.specs.Selector.{KeepsSelector, SelectorState, over}
use Rattle.s360_channel.specs.Views.{subchannel_seen}
use Rattle.s360_channel.specs.declared.channel.Reset.{Reset}
use Rattle.s360_channel.specs.declared.view.RunOn.{RunOn}

-- The storage that all share, and the channels by their numbers, 0 to 6: none has a storage of its own.
pub record ChannelsState : Type 0 where
  pub storage : Storage
  pub channels : List (Option SelectorState)

-- the channel with a number, without a storage, if there is one
abbrev pub numbered : (number : ℕ) → List (Option SelectorState) → Option SelectorState
numbered number cs = slice_index_or cs number None

-- the same, of several channels with their storage
abbrev pub selector_at : (number : ℕ) → ChannelsState → Option SelectorState
selector_at number s = numbered number s.channels

-- and over the shared storage
abbrev pub channel_at : (number : ℕ) → ChannelsState → Option ChannelState
channel_at number s = option_map (λ c. over c s.storage) (selector_at number s)

-- What a call does: the channel with this number did it over the shared storage, which has all that the channel stored; every other
-- channel stays, and storage is as large as it was. Where there is no such channel, this is answered and nothing changes.
pub record Calls (number : ℕ) (How : ChannelState → ChannelState → Type 0) (before : SelectorState)
    (old new : ChannelsState) : Type 0 where
  pub after : SelectorState
  pub how : How (over before old.storage) (over after new.storage)
  pub same : KeepsSelector before after
  pub others_stay : new.channels ≡ slice_set old.channels number (Some after)
  pub bytes : length new.storage.bytes ≡ length old.storage.bytes
  pub keys : length new.storage.keys ≡ length old.storage.keys

-- of the channel that was found, or of none
abbrev pub OnFound : Option SelectorState → (number : ℕ) → (How : ChannelState → ChannelState → Type 0)
    → (Missing : Type 0) → (old new : ChannelsState) → Type 0
OnFound None number How Missing old new = Missing × (new ≡ old)
OnFound (Some before) number How Missing old new = Calls number How before old new

-- of the channel with a number
abbrev pub OnChannel : (number : ℕ) → (How : ChannelState → ChannelState → Type 0) → (Missing : Type 0)
    → (old new : ChannelsState) → Type 0
OnChannel number How Missing old new = OnFound (selector_at number old) number How Missing old new

-- The machine's event, by every machine that the channel stands for: without a call of a store, and with so many at most.
pub record Quietly (e : Event) (answer : Answer) (old new : ChannelState) : Type 0 where
  pub does : (m : Machine) → StandsFor old m → DoesQuietly e m answer new
  pub calls : CallsNoStore old new

-- the machine's event, with so many calls of a store
pub record AtMost (most : ℕ) (e : Event) (answer : Answer) (old new : ChannelState) : Type 0 where
  pub does : (m : Machine) → StandsFor old m → Does e m answer old new
  pub calls : CallsAtMost most old new

-- Units of the program that runs, until it ends or so many are done; and what the subchannel does behind them.
pub record Runs (units : ℕ) (ran : RunOn) (old new : ChannelState) : Type 0 where
  pub steps : AtMost (2 * ran.units) (StepBy units) (Stepped ran.units) old new
  pub behind : (m : Machine) → StandsFor new m → ran.subchannel ≡ subchannel_seen m m.subchannel
  pub most : ran.units ≤ units

-- and what is answered of that channel
abbrev pub RunsTo : (units : ℕ) → Option RunOn → (old new : ChannelState) → Type 0
RunsTo units None old new = ⊥
RunsTo units (Some ran) old new = Runs units ran old new

-- a reset, and what is answered of that channel
abbrev pub ResetsTo : Option Reset → (old new : ChannelState) → Type 0
ResetsTo None old new = ⊥
ResetsTo (Some reset) old new = AtMost 1 machine.Reset (WasReset reset.unsaved) old new

-- What the processor stores is in the shared storage, where all of it is within; the channels stay.
abbrev pub Puts : Change → (is_kept : Bool) → (old new : Storage) → Type 0
Puts change is_kept old new = (is_kept ≡ is_within change old) × (new ≡ (if is_kept then changed change old else old))

-- the storage is changed, where it is kept within, and no channel is
abbrev pub Stores : Change → (is_kept : Bool) → (old new : ChannelsState) → Type 0
Stores change is_kept old new = Puts change is_kept old.storage new.storage × (new.channels ≡ old.channels)

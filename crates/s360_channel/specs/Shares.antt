-- Main storage that is shared: what it means that a channel finds another one.
use Rattle.std.specs.Prelude.{◌≡◌, ◌+◌, ◌*◌, ℕ, List, [], ◌∷◌, length}
use Rattle.s360_words.specs.Storage.{Storage}
use Rattle.s360_laws.specs.Events.{Event, Store, SetKey}
use Rattle.s360_laws.specs.Machine.{Machine, after_all, plain}
use Rattle.s360_channel.specs.Channel.{ChannelState, StandsFor}

-- The processor sets the keys of the blocks from this one on,
abbrev pub keys_set : (block : ℕ) → List ℕ → List Event
keys_set block [] = []
keys_set block (key ∷ keys) = SetKey (2048 * block) key ∷ keys_set (block + 1) keys

-- and stores all that another storage of the same size holds: its bytes, and the key of each block.
abbrev pub all_stored : Storage → List Event
all_stored s = Store 0 s.bytes ∷ keys_set 0 s.keys

-- the machine that finds that storage
abbrev pub finding : Storage → Machine → Machine
finding s m = after_all (plain (all_stored s)) m

-- the channel over another storage
abbrev pub with_storage : ChannelState → Storage → ChannelState
with_storage c s = record c { storage = s }

-- a storage is as large as another, and has a key for each block of it
pub record IsAsLarge (s t : Storage) : Type 0 where
  pub bytes : length s.bytes ≡ length t.bytes
  pub keys : length s.keys ≡ length t.keys
  pub blocks : length s.bytes ≡ 2048 * length s.keys

-- A channel that finds another storage of the same size stands for the machine whose processor stored all of it: between two
-- units of a program that runs, that is a change from outside.
abbrev pub FindsAnother : Type 0
FindsAnother = (c : ChannelState) (m : Machine) (s : Storage) → IsAsLarge s c.storage → StandsFor c m
    → StandsFor (with_storage c s) (finding s m)

-- What the calls of a subsystem say and leave.
use Rattle.std.specs.Prelude.{◌≡◌, ℤ, pos, ℕ, Bool, true, false, List, length, nat_lt, Option, Some, None, ◌/◌, if◌then◌else◌}
use Rattle.s360_words.specs.Storage.{Storage, Change, KeyOf, is_size}
use Rattle.s360_words.specs.declared.words.Csw.{Csw}
use Rattle.s360_laws.specs.Events as machine
use Rattle.s360_laws.specs.Machine.{part_of}
use Rattle.s360_storage.specs.Lent.{IsStorage}
use Rattle.s360_channel.specs.Views.{key_in}
use Rattle.s360_channels.specs.Asked.{TestsAt, is_attached}
use Rattle.s360_channels.specs.Channels.{ChannelsState, OnChannel, Quietly, AtMost, Stores, channel_at}
use Rattle.s360_channels.specs.Interrupting.{IsPending, TakesFirst, TakesOf}
use Rattle.s360_channels.specs.Selectors.{SelectorsState, across}
use Rattle.dasd_subsystem.specs.declared.subsystem.Subsystem.{Subsystem}
use Rattle.subsystem_calls.specs.Codes.{code_of, no_storage, outside_storage, bad_blocks, bad_key, bad_size, other_size, address_from}

-- What a call does to channels over the main storage that they own. Where they own none it says so, and nothing changes.
abbrev pub OverOwn : (own left : Option Storage) → (old new : SelectorsState) → (code : ℤ) → (ChannelsState → ChannelsState → Type 0) → Type 0
OverOwn None None old new code does = (code ≡ no_storage) × (new ≡ old)
OverOwn None (Some t) old new code does = ⊥
OverOwn (Some s) None old new code does = ⊥
OverOwn (Some s) (Some t) old new code does = does (across old s) (across new t)

-- What a call does to a subsystem over the main storage that it owns.
abbrev pub Own : (code : ℤ) → (ChannelsState → ChannelsState → Type 0) → (old new : Subsystem) → Type 0
Own code does old new = OverOwn old.storage new.storage old.channels new.channels code does

-- What a call does whatever the storage is: one that they own stays.
abbrev pub Everywhere : (SelectorsState → SelectorsState → Type 0) → (old new : Subsystem) → Type 0
Everywhere does old new = (new.storage ≡ old.storage) × does old.channels new.channels

-- What a call does to channels over whatever storage there is.
abbrev pub OverAny : (ChannelsState → ChannelsState → Type 0) → (old new : SelectorsState) → Type 0
OverAny does old new = (s : Storage) → does (across old s) (across new s)

-- Why bytes and keys are not taken as main storage, in this order: no storage has so many bytes; there is not one key for each block;
-- the channels are for storage of another size.
pub data RefusesMemory (size : ℕ) (memory : Storage) (code : ℤ) : Type 0 where
  BadSize : code ≡ bad_size → is_size (length memory.bytes) ≡ false → RefusesMemory size memory code
  BadBlocks : code ≡ bad_blocks → is_size (length memory.bytes) ≡ true → (length memory.keys ≡ length memory.bytes / 2048 → ⊥) → RefusesMemory size memory code
  OtherSize : code ≡ other_size → IsStorage memory → (length memory.bytes ≡ size → ⊥) → RefusesMemory size memory code

-- What a call does to channels over main storage that it is lent: or the memory is refused, and nothing changes. Storage that they own
-- stays.
pub data OverLent (code : ℤ) (does : ChannelsState → ChannelsState → Type 0) (memory left : Storage) (old new : Subsystem) : Type 0 where
  Lends : new.storage ≡ old.storage → does (across old.channels memory) (across new.channels left) → OverLent code does memory left old new
  Refuses : RefusesMemory old.channels.size memory code → left ≡ memory → new ≡ old → OverLent code does memory left old new

-- the first where a test holds, and otherwise the second
abbrev pub Either : Bool → Type 0 → Type 0 → Type 0
Either true holds otherwise = holds
Either false holds otherwise = otherwise

-- An event at the channel with a number, which calls no store: C is told the number of the answer. It is the machine's, over the shared
-- storage, and every other channel stays; or there is no such channel, the answer is this one, and nothing changes.
pub record Tells (number : ℕ) (event : machine.Event) (missing : machine.Answer) (code : ℤ) (old new : ChannelsState) : Type 0 where
  pub answer : machine.Answer
  pub told : code ≡ code_of answer
  pub does : OnChannel number (Quietly event answer) (answer ≡ missing) old new

-- The same of an event that calls a store once at most, and so may meet a fault.
pub record TellsOf (number : ℕ) (event : machine.Event) (missing : machine.Answer) (code : ℤ) (old new : ChannelsState) : Type 0 where
  pub answer : machine.Answer
  pub told : code ≡ code_of answer
  pub does : OnChannel number (AtMost 1 event answer) (answer ≡ missing) old new

-- Condition code 3 of an instruction tells that no drive is attached under its address.
abbrev pub TellsMissing : (address : ℕ) → (code : ℤ) → ChannelsState → Type 0
TellsMissing address code s = code ≡ pos 3 → is_attached address s ≡ false

-- Test Channel, of the channel with a number.
pub record TellsTest (number : ℕ) (code : ℤ) (s : ChannelsState) : Type 0 where
  pub answer : machine.Answer
  pub told : code ≡ code_of answer
  pub tests : TestsAt answer s.storage (channel_at number s)

-- An interruption of the first channel by number that has one, among those of a set: C is told whether there was one, and its address.
pub record TellsFirst (channels : ℕ) (code : ℤ) (before address : ℕ) (old new : ChannelsState) : Type 0 where
  pub taken : Option (ℕ × Csw)
  pub told : code ≡ code_of (machine.Interrupted taken)
  pub from : address ≡ address_from (machine.Interrupted taken) before
  pub takes : TakesFirst channels taken old new

-- An interruption of the channel with a number: C is told whether there was one, and its address.
pub record TellsTaken (number : ℕ) (code : ℤ) (before address : ℕ) (old new : ChannelsState) : Type 0 where
  pub taken : Option (ℕ × Csw)
  pub told : code ≡ code_of (machine.Interrupted taken)
  pub from : address ≡ address_from (machine.Interrupted taken) before
  pub takes : TakesOf (Some number) taken old new

-- Whether an interruption would be taken: 1 or 0.
pub record TellsPending (channels : ℕ) (code : ℤ) (s : ChannelsState) : Type 0 where
  pub answer : Bool
  pub told : code ≡ (if answer then pos 1 else pos 0)
  pub is_pending : IsPending channels s answer

-- The processor changes storage: C is told whether all of the change is within.
pub record TellsKept (change : Change) (code : ℤ) (old new : ChannelsState) : Type 0 where
  pub kept : Bool
  pub told : code ≡ code_of (machine.WasKept kept)
  pub stores : Stores change kept old new

-- The processor sets a key, if it is below 16.
abbrev pub SetsKey : (at key : ℕ) → (code : ℤ) → (old new : ChannelsState) → Type 0
SetsKey at key code old new = Either (nat_lt 15 key) ((code ≡ bad_key) × (new ≡ old)) (TellsKept (KeyOf at key) code old new)

-- Bytes of storage from an address on are copied; or one of them lies outside, and nothing is.
abbrev pub Copies : Option (List ℕ) → (code : ℤ) → (old new : List ℕ) → Type 0
Copies (Some bytes) code old new = (code ≡ pos 0) × (new ≡ bytes)
Copies None code old new = (code ≡ outside_storage) × (new ≡ old)

-- As many bytes of storage are copied as there are to be filled; more than 4,294,967,295 lie in no storage.
abbrev pub Peeks : Storage → (at : ℕ) → (code : ℤ) → (old new : List ℕ) → Type 0
Peeks s at code old new =
    Either (nat_lt 4294967295 (length old)) ((code ≡ outside_storage) × (new ≡ old)) (Copies (part_of s at (length old)) code old new)

-- C is told a key, or that its block lies outside storage.
abbrev pub number_or_outside : Option ℕ → ℤ
number_or_outside (Some key) = pos key
number_or_outside None = outside_storage

-- What C is told of the key of the block that has an address.
abbrev pub key_code : Storage → (at : ℕ) → ℤ
key_code s at = number_or_outside (key_in s at)

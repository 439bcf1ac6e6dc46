-- Calls at several channels, one after another, and what they are to one of them: the headline over several channels.
use Rattle.std.specs.Prelude.{◌≡◌, ◌⊎◌, ◌*◌, ◌++◌, ◌==◌, ℕ, List, [], ◌∷◌, Bool, true, false, Option, Some, None, length, if◌then◌else◌}
use Rattle.s360_words.specs.Storage.{Storage, Change, changed}
use Rattle.s360_laws.specs.Events.{Answer, Event, Exchange, FaultAfter, Input, SetKey, Store}
use Rattle.s360_laws.specs.Headline.{Headline}
use Rattle.s360_laws.specs.Machine.{Machine, after_all, exchanges, plain}
use Rattle.s360_channel.specs.Channel.{ChannelState, StandsFor}
use Rattle.s360_channel.specs.Shares.{all_stored, with_storage}
use Rattle.s360_channels.specs.Channels.{AtMost, ChannelsState, OnChannel, Quietly, channel_at}

-- whether an event is the processor's, which sets storage
abbrev pub is_store : Event → Bool
is_store (Store at bytes) = true
is_store (SetKey at key) = true
is_store e = false

-- An event at the channel with a number, and its answer; or the processor changes storage.
pub data Call : Type 0 where
  AtChannel : (number : ℕ) → Event → Answer → Call
  ByProcessor : Change → Call

-- the event, which calls a store or none
abbrev pub Happens : Event → Answer → (old new : ChannelState) → Type 0
Happens e answer old new = Quietly e answer old new ⊎ ((most : ℕ) × AtMost most e answer old new)

-- a call is made: at one channel, or by the processor
abbrev pub IsMade : Call → (old new : ChannelsState) → Type 0
IsMade (AtChannel number e answer) old new =
    (is_store e ≡ false) × OnChannel number (Happens e answer) (Unit {0}) old new
IsMade (ByProcessor change) old new = (new.channels ≡ old.channels) × (new.storage ≡ changed change old.storage)

-- Calls one after another, each with the channels as it leaves them.
abbrev pub Course : Type 0
Course = List (Call × ChannelsState)

-- each call is made, in the state that the one before left
abbrev pub AllMade : (old : ChannelsState) → Course → Type 0
AllMade old [] = Unit {0}
AllMade old (c ∷ calls) = IsMade c.0 old c.1 × AllMade c.1 calls

-- the channels behind all of them
abbrev pub behind : (old : ChannelsState) → Course → ChannelsState
behind old [] = old
behind old (c ∷ calls) = behind c.1 calls

-- A call of one channel: the storage that it finds, its event and its answer.
pub record OwnCall : Type 0 where
  pub storage : Storage
  pub event : Event
  pub answer : Answer

-- whether it is one of the channel with this number, and which
abbrev pub own_call : (number : ℕ) → Storage → Call → Option OwnCall
own_call number s (AtChannel n e answer) =
    if n == number then Some (record { storage = s; event = e; answer = answer }) else None
own_call number s (ByProcessor change) = None

-- a call more, where it is one
abbrev pub add_call : Option OwnCall → List OwnCall → List OwnCall
add_call None calls = calls
add_call (Some one) calls = one ∷ calls

-- the calls of the channel with a number
abbrev pub own_calls : (number : ℕ) → (old : ChannelsState) → Course → List OwnCall
own_calls number old [] = []
own_calls number old (c ∷ calls) = add_call (own_call number old.storage c.0) (own_calls number c.1 calls)

-- To that channel, what the other channels and the processor store between two of its calls is as if the processor stored all that
-- the next one finds: so this is the list of its inputs, with the faults that its own events meet, and the storage that is last.
abbrev pub inputs_of : List OwnCall → List (Option FaultAfter) → (last : Storage) → List Input
inputs_of (one ∷ calls) (x ∷ faults) last =
    plain (all_stored one.storage) ++ (one.event, x) ∷ inputs_of calls faults last
inputs_of calls faults last = plain (all_stored last)

-- what is answered beside the processor's stores
abbrev pub told : List Exchange → List (Event × Answer)
told [] = []
told ((e, x, answer) ∷ es) = if is_store e then told es else (e, answer) ∷ told es

-- the events of these calls, with their answers
abbrev pub asked : List OwnCall → List (Event × Answer)
asked [] = []
asked (one ∷ calls) = (one.event, one.answer) ∷ asked calls

-- What the calls are to the channel with a number, by a machine that it stood for before them: its own are answered as the machine
-- answers them; it stands for the machine behind them; and the headline holds of its list of inputs.
pub record HoldsOf (number : ℕ) (m : Machine) (old : ChannelsState) (calls : Course) : Type 0 where
  pub faults : List (Option FaultAfter)
  pub inputs : List Input
  pub are_these : inputs ≡ inputs_of (own_calls number old calls) faults (behind old calls).storage
  pub as_many : length faults ≡ length (own_calls number old calls)
  pub same_answers : told (exchanges inputs m) ≡ asked (own_calls number old calls)
  pub channel : ChannelState
  pub is_there : channel_at number (behind old calls) ≡ Some channel
  pub stands : StandsFor (with_storage channel (behind old calls).storage) (after_all inputs m)
  pub headline : Headline m inputs

-- So it is with each of them.
abbrev pub HeadlineOfEach : Type 0
HeadlineOfEach = (number : ℕ) (old : ChannelsState) (calls : Course) (c : ChannelState) (m : Machine)
    → length old.storage.bytes ≡ 2048 * length old.storage.keys
    → channel_at number old ≡ Some c → StandsFor (with_storage c old.storage) m
    → AllMade old calls → HoldsOf number m old calls

-- Interruptions of several channels under the system mask of the program status word.
use Rattle.std.specs.Prelude.{◌≡◌, ◌<◌, ◌-◌, ◌/◌, ◌%◌, ◌^◌, ◌==◌, ◌&&◌, ℕ, nat_lt, Bool, true, false, Option, Some, None, is_some}
use Rattle.s360_words.specs.declared.words.Csw.{Csw}
use Rattle.s360_laws.specs.Events.{Interrupt, Interrupted}
use Rattle.s360_channels.specs.Asked.{InterruptsAt}
use Rattle.s360_channels.specs.Channels.{ChannelsState, OnChannel, Quietly, channel_at}

-- Whether the system mask is open for the channel with a number: bits 0 to 6, counted from the left, are those of channels 0 to 6
-- (Principles of Operation, 'Program Status Word'). Bit 7 is the mask of external interruptions, and no channel's.
abbrev pub is_open : (mask number : ℕ) → Bool
is_open mask number = nat_lt number 7 && (mask / 2 ^ (7 - number) % 2 == 1)

-- The mask is open for this channel, and an interruption of it would be taken,
pub record Waits (mask : ℕ) (s : ChannelsState) (number : ℕ) : Type 0 where
  pub is_asked : is_open mask number ≡ true
  pub interrupts : InterruptsAt true s.storage (channel_at number s)

-- or not both.
abbrev pub WaitsNot : (mask : ℕ) → ChannelsState → (number : ℕ) → Type 0
WaitsNot mask s number = is_open mask number ≡ true → InterruptsAt false s.storage (channel_at number s)

-- The first one by number: it waits, and none below it does.
pub record IsFirst (mask : ℕ) (s : ChannelsState) (number : ℕ) : Type 0 where
  pub waits : Waits mask s number
  pub before : (lower : ℕ) → lower < number → WaitsNot mask s lower

-- the first one, if there is one
abbrev pub FirstPending : (mask : ℕ) → ChannelsState → Option ℕ → Type 0
FirstPending mask s None = (number : ℕ) → WaitsNot mask s number
FirstPending mask s (Some number) = IsFirst mask s number

-- whether there is one
pub record IsPending (mask : ℕ) (s : ChannelsState) (answer : Bool) : Type 0 where
  pub first : Option ℕ
  pub is_first : FirstPending mask s first
  pub answers : answer ≡ is_some first

-- The interruption of that channel is taken; without one nothing changes.
abbrev pub TakesOf : (first : Option ℕ) → Option (ℕ × Csw) → (old new : ChannelsState) → Type 0
TakesOf None taken old new = (taken ≡ None) × (new ≡ old)
TakesOf (Some number) taken old new = OnChannel number (Quietly Interrupt (Interrupted taken)) (taken ≡ None) old new

-- The first channel under the mask whose interruption pends has it taken.
pub record TakesFirst (mask : ℕ) (taken : Option (ℕ × Csw)) (old new : ChannelsState) : Type 0 where
  pub first : Option ℕ
  pub is_first : FirstPending mask old first
  pub takes : TakesOf first taken old new

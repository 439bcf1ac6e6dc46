-- What holds between calls, and what is known of a channel that is found.
use Rattle.std.specs.Prelude.{◌≡◌, ◌<◌, ℕ, Bool, true, false, length, List, Option, Some, None}
use Rattle.s360_words.specs.Storage.{Storage}
use Rattle.s360_laws.specs.Machine.{Machine}
use Rattle.s360_channel.specs.Channel.{StandsFor}
use Rattle.s360_channel.specs.Selector.{IsOver, IsSelector, SelectorState, over}
use Rattle.s360_channel.specs.Views.{interrupts}
use Rattle.s360_channels.specs.Channels.{numbered}

-- whether an interruption of a channel pends: storage has no part in it
abbrev pub Pends : Bool → SelectorState → Type 0
Pends answer c = (s : Storage) (m : Machine) → StandsFor (over c s) m → answer ≡ interrupts m

-- it does not
abbrev pub PendsNot : SelectorState → Type 0
PendsNot c = Pends false c

-- the same of the place of a channel; where there is none, none pends
abbrev pub PendsAt : Bool → Option SelectorState → Type 0
PendsAt answer None = answer ≡ false
PendsAt answer (Some c) = Pends answer c

-- none pends at any channel
abbrev pub NonePends : List (Option SelectorState) → Type 0
NonePends cs = (number : ℕ) → number < 7 → PendsAt false (numbered number cs)

-- a channel with this number, for a storage of this size, that stands for a machine; no interruption of it pends where it is known of
-- all channels that none does
pub record Fits (number size : ℕ) (quiet : Bool) (c : SelectorState) : Type 0 where
  pub own_number : c.number ≡ number
  pub as_large : c.size ≡ size
  pub is_selector : IsSelector c
  pub silent : quiet ≡ true → PendsNot c

-- There are seven places, and the channel at each has its number, and fits.
pub record AllFit (size : ℕ) (quiet : Bool) (cs : List (Option SelectorState)) : Type 0 where
  pub seven : length cs ≡ 7
  pub fit : (number : ℕ) (c : SelectorState) → numbered number cs ≡ Some c → Fits number size quiet c

-- what is known of a channel with a number that is found over a storage
pub record IsFound (number : ℕ) (c : SelectorState) (s : Storage) : Type 0 where
  pub own_number : c.number ≡ number
  pub is_over : IsOver c s

-- the place of a number
pub record IsPlace (number place : ℕ) : Type 0 where
  pub same : place ≡ number
  pub within : place < 7

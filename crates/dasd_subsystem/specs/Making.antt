-- The channels that a subsystem is made of, and why it is not made.
use Rattle.std.specs.Prelude.{◌≡◌, ◌≤◌, ◌==◌, ◌%◌, ◌&&◌, ◌∷◌, [], ℕ, List, Bool, true, false, not, map, Option, Some, None, slice_set, if◌then◌else◌}
use Rattle.s360_words.specs.Storage.{cleared, is_size}
use Rattle.s360_channel.specs.Selector.{SelectorState}
use Rattle.s360_channels.specs.Adding.{is_taken, new_channel}
use Rattle.s360_channels.specs.Selectors.{SelectorsState}
use Rattle.s360_channels.specs.Interrupting.{is_open}
use Rattle.dasd_subsystem.specs.declared.refusal.Refusal.{Refusal}
use Rattle.dasd_subsystem.specs.declared.subsystem.Subsystem.{Subsystem}
use Rattle.dasd_subsystem.specs.declared.refusal.Refusal.TheVariants.{BadChannels, BadSize, OutOfMemory}

-- A set of channels has the form of a system mask: it has some of the channels 0 to 6, and bit 7, which is no channel's, is not set.
abbrev pub is_set : (channels : ℕ) → Bool
is_set channels = not (channels == 0) && (channels % 2 == 0)

-- the channel with a number, if the set has it; it has no drives
abbrev pub made_at : (channels size number : ℕ) → Option SelectorState
made_at channels size number = if is_open channels number then Some (new_channel number size) else None

-- the channels of a set, by their numbers
abbrev pub made_list : (channels size : ℕ) → List (Option SelectorState)
made_list channels size = map (made_at channels size) (0 ∷ 1 ∷ 2 ∷ 3 ∷ 4 ∷ 5 ∷ 6 ∷ [])

-- the channels of a set, for storage of a size
abbrev pub made : (channels size : ℕ) → SelectorsState
made channels size = record { size = size; channels = made_list channels size }

-- the channels of a set over a storage of so many zero bytes, which they own, or are lent by each call
abbrev pub MadeOwn : (channels size : ℕ) → Subsystem → Type 0
MadeOwn channels size s = (s.channels ≡ made channels size) × (s.storage ≡ Some (cleared size))

abbrev pub MadeLent : (channels size : ℕ) → Subsystem → Type 0
MadeLent channels size s = (s.channels ≡ made channels size) × (s.storage ≡ None)

-- channels and, if the set has it, the one with a number
abbrev pub with_channel : (channels size number : ℕ) → List (Option SelectorState) → List (Option SelectorState)
with_channel channels size number cs = if is_open channels number then slice_set cs number (Some (new_channel number size)) else cs

-- no channel has this number or a higher one
abbrev pub AreFree : (number : ℕ) → List (Option SelectorState) → Type 0
AreFree number cs = (k : ℕ) → number ≤ k → is_taken k cs ≡ false

-- Why they are not made, in this order: it is no set of channels; no storage has this size; there is no memory.
abbrev pub NotMade : (channels size : ℕ) → Refusal → Type 0
NotMade channels size BadChannels = is_set channels ≡ false
NotMade channels size BadSize = (is_set channels ≡ true) × (is_size size ≡ false)
NotMade channels size OutOfMemory = (is_set channels ≡ true) × (is_size size ≡ true)
NotMade channels size other = ⊥

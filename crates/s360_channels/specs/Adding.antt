-- Channels that are added, and drives that are attached to one of them.
use Rattle.std.specs.Prelude.{◌≡◌, ◌++◌, ◌∷◌, [], ℕ, List, Option, Some, None, Bool, true, false, is_some, nat_le, slice_index_or, slice_set}
use Rattle.ckd_image.specs.Image.{ImageState}
use Rattle.s360_channel.specs.Attaches as channel
use Rattle.s360_channel.specs.Channel.{ChannelState}
use Rattle.attached_drives.specs.Drives.{new_attached}
use Rattle.s360_channel.specs.Selector.{SelectorState, over}
use Rattle.s360_channel.specs.declared.subchannel.Subchannel.TheVariants.{Idle}
use Rattle.s360_channels.specs.Channels.{ChannelsState, selector_at}
use Rattle.s360_channels.specs.declared.faults.AttachFault.{AttachFault}
use Rattle.s360_channels.specs.declared.faults.AttachFault.TheVariants.{NoChannel, Refused}
use Rattle.s360_channels.specs.declared.faults.AddFault.{AddFault}
use Rattle.s360_channels.specs.declared.faults.AddFault.TheVariants.{BadNumber, NumberTaken}

-- a channel with no drives, for a storage of this size
abbrev pub new_channel : (number size : ℕ) → SelectorState
new_channel number size = record { number = number; size = size; subchannel = Idle; drives = [] }

-- there is a channel with this number
abbrev pub is_taken : (number : ℕ) → List (Option SelectorState) → Bool
is_taken number cs = is_some (slice_index_or cs number None)

-- a channel with this number can be added
abbrev pub IsFree : (number : ℕ) → List (Option SelectorState) → Type 0
IsFree number cs = (nat_le 7 number ≡ false) × (is_taken number cs ≡ false)

-- When a channel is not added, in this order: its number is above 6; there is one with this number.
abbrev pub RefusedAs : (number : ℕ) → List (Option SelectorState) → AddFault → Type 0
RefusedAs number cs BadNumber = nat_le 7 number ≡ true
RefusedAs number cs NumberTaken = (nat_le 7 number ≡ false) × (is_taken number cs ≡ true)

-- A drive that holds this image is attached to the channel with a number, as `s360_channel` does it; every other channel stays.
abbrev pub AttachesTo : Option SelectorState → (number device : ℕ) → ImageState → (old new : ChannelsState) → Type 0
AttachesTo None number device image old new = ⊥
AttachesTo (Some c) number device image old new =
    channel.NotRefused device (over c old.storage) × (new.channels
    ≡ slice_set old.channels number (Some (record c { drives = c.drives ++ new_attached device image ∷ [] })))

-- the same, at the channel with this number, if there is one
abbrev pub AttachesAt : (number device : ℕ) → ImageState → (old new : ChannelsState) → Type 0
AttachesAt number device image old new = AttachesTo (selector_at number old) number device image old new

-- Why it is not, in this order: there is no such channel; the channel refuses it.
abbrev pub WhyNot : Option ChannelState → (device : ℕ) → AttachFault → Type 0
WhyNot None device NoChannel = Unit {0}
WhyNot None device (Refused why) = ⊥
WhyNot (Some c) device NoChannel = ⊥
WhyNot (Some c) device (Refused why) = channel.RefusedAs device c why

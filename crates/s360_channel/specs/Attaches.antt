-- When a drive is not attached, in this order: there is one with its address; there are eight; there is no memory.
use Rattle.std.specs.Prelude.{◌≡◌, ◌==◌, ℕ, length, Bool, true, false, is_some, position}
use Rattle.s360_channel.specs.Channel.{ChannelState}
use Rattle.attached_drives.specs.Drives.{is_at}
use Rattle.s360_channel.specs.declared.faults.AttachFault.{AttachFault}
use Rattle.s360_channel.specs.declared.faults.AttachFault.TheVariants.{UnitTaken, Full, OutOfMemory}

-- a drive with this address is attached
abbrev pub is_taken : (device : ℕ) → ChannelState → Bool
is_taken device c = is_some (position (is_at device) c.drives)

-- eight drives are attached
abbrev pub is_full : ChannelState → Bool
is_full c = length c.drives == 8

-- neither is so: a drive with this address may be attached
abbrev pub NotRefused : (device : ℕ) → ChannelState → Type 0
NotRefused device c = (is_taken device c ≡ false) × (is_full c ≡ false)

-- which refusal is answered when
abbrev pub RefusedAs : (device : ℕ) → ChannelState → AttachFault → Type 0
RefusedAs device c UnitTaken = is_taken device c ≡ true
RefusedAs device c Full = (is_taken device c ≡ false) × (is_full c ≡ true)
RefusedAs device c (OutOfMemory e) = NotRefused device c

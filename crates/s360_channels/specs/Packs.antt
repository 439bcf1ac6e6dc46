-- Drives that are taken off one of several channels, and packs that are changed there.
use Rattle.std.specs.Prelude.{◌≡◌, ℕ, Option, Some, None}
use Rattle.s360_words.specs.Storage.{Storage}
use Rattle.ckd_image.specs.Image.{ImageState}
use Rattle.s360_laws.specs.Machine.{Machine}
use Rattle.s360_channel.specs.Channel.{ChannelState, StandsFor}
use Rattle.s360_channel.specs.Packs.{Detaches, Exchanges, WhyHeld, why_stays}
use Rattle.s360_channel.specs.Shares.{with_storage}
use Rattle.s360_channel.specs.declared.faults.DetachFault.{DetachFault as WhyStays}
use Rattle.s360_channel.specs.declared.faults.ExchangeFault.{ExchangeFault as WhyStaysIn}
use Rattle.s360_channels.specs.declared.faults.DetachFault.{DetachFault}
use Rattle.s360_channels.specs.declared.faults.DetachFault.TheVariants as detach
use Rattle.s360_channels.specs.declared.faults.ExchangeFault.{ExchangeFault}
use Rattle.s360_channels.specs.declared.faults.ExchangeFault.TheVariants as exchange

-- A drive is taken off, for every machine that the channel stands for,
abbrev pub TakesOff : (device : ℕ) → ImageState → (old new : ChannelState) → Type 0
TakesOff device image old new = (m : Machine) → StandsFor old m → Detaches device m image old new

-- or has another pack, and gives the one before back.
abbrev pub ChangesPack : (device : ℕ) → (image before : ImageState) → (old new : ChannelState) → Type 0
ChangesPack device image before old new = (m : Machine) → StandsFor old m → Exchanges device m image before old new

-- Why a channel does not do it.
abbrev pub Keeps : (device : ℕ) → WhyStays → ChannelState → Type 0
Keeps device why c = (m : Machine) → StandsFor c m → why_stays device m ≡ Some why

-- the drive of a channel keeps its pack, for this reason
abbrev pub KeepsPack : (device : ℕ) → ImageState → WhyStaysIn → ChannelState → Type 0
KeepsPack device image why c = (m : Machine) → StandsFor c m → WhyHeld device image m why

-- Why it is not done, in this order: there is no such channel; the channel refuses it, over the shared storage.
abbrev pub RefusedDetach : Option ChannelState → Storage → (device : ℕ) → DetachFault → Type 0
RefusedDetach None s device detach.NoChannel = Unit {0}
RefusedDetach None s device (detach.Refused why) = ⊥
RefusedDetach (Some c) s device detach.NoChannel = ⊥
RefusedDetach (Some c) s device (detach.Refused why) = Keeps device why (with_storage c s)

-- which refusal is answered when
abbrev pub RefusedExchange : Option ChannelState → Storage → (device : ℕ) → ImageState → ExchangeFault → Type 0
RefusedExchange None s device image exchange.NoChannel = Unit {0}
RefusedExchange None s device image (exchange.Refused why) = ⊥
RefusedExchange (Some c) s device image exchange.NoChannel = ⊥
RefusedExchange (Some c) s device image (exchange.Refused why) = KeepsPack device image why (with_storage c s)

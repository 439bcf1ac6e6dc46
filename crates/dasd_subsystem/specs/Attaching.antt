-- What a subsystem leaves when a drive is attached, of what its image is made, and why it is not attached.
use Rattle.std.specs.Prelude.{◌≡◌, ◌⊎◌, ◌<◌, ◌≤◌, ◌/◌, ◌%◌, ℕ, List, length, map, replicate, true, false, Option, Some, None, Err}
use Rattle.ckd_track.specs.declared.model.DriveModel.{DriveModel}
use Rattle.ckd_track.specs.Geometry.{new_geometry}
use Rattle.ckd_image.specs.Files.{FailedRead}
use Rattle.ckd_image.specs.Header.{head_of, mount_of}
use Rattle.ckd_image.specs.Layout.{image_length}
use Rattle.ckd_image.specs.Image.{ImageState, Holds, HoldsImage, new_image}
use Rattle.ckd_image.specs.declared.fault.MountFault.{MountFault}
use Rattle.ckd_image.specs.declared.fault.MountFault.TheVariants.{StoreFault}
use Rattle.s360_channel.specs.Attaches as channel
use Rattle.s360_channel.specs.Channel.{ChannelState}
use Rattle.s360_channel.specs.declared.faults.AttachFault.TheVariants as why
use Rattle.s360_channels.specs.Adding.{AttachesAt, WhyNot}
use Rattle.s360_channels.specs.Channels.{ChannelsState, OnChannel}
use Rattle.s360_channels.specs.Packs.{TakesOff}
use Rattle.s360_channels.specs.declared.faults.AttachFault.{AttachFault}
use Rattle.s360_channels.specs.declared.faults.AttachFault.TheVariants as fault
use Rattle.dasd_subsystem.specs.declared.refusal.Refusal.{Refusal}
use Rattle.dasd_subsystem.specs.declared.refusal.Refusal.TheVariants.{NoChannel, NoCylinders, NoFiles, TooManyFiles, Mount, AddressTaken, Full, OutOfMemory}

-- these files, in their order, hold the volume of an image
abbrev pub IsImageOf : (files : List (List ℕ)) → ImageState → Type 0
IsImageOf files i = Holds files i.geometry i.slots

-- an image has one to eight files
abbrev pub AreFew : (files : List (List ℕ)) → Type 0
AreFew files = (0 < length files) × (length files ≤ 8)

-- these files are an image
pub record AreImage (files : List (List ℕ)) : Type 0 where
  pub few : AreFew files
  pub image : ImageState
  pub of_files : IsImageOf files image

-- the image of a new volume, in a file that was made of zeros
abbrev pub new_volume : DriveModel → (cylinders : ℕ) → ImageState
new_volume model cylinders = new_image model cylinders (replicate (image_length (new_geometry model cylinders)) 0) 0

-- A drive with this image is attached under an address, to the channel of its high byte and behind that channel's other drives. Every
-- other channel stays, and so does storage.
pub record AttachesImage (address : ℕ) (image : ImageState) (old new : ChannelsState) : Type 0 where
  pub attached : AttachesAt (address / 256) (address % 256) image old new
  pub storage : new.storage ≡ old.storage

-- A drive with the image of these files is.
pub record Attaches (address : ℕ) (files : List (List ℕ)) (old new : ChannelsState) : Type 0 where
  pub image : ImageState
  pub of_files : IsImageOf files image
  pub attaches : AttachesImage address image old new

-- A drive with a new volume of so many cylinders is.
abbrev pub AttachesNew : (address : ℕ) → DriveModel → (cylinders : ℕ) → (old new : ChannelsState) → Type 0
AttachesNew address model cylinders old new = AttachesImage address (new_volume model cylinders) old new

-- A drive is taken off the channel of its address, and these files hold its image.
pub record Detaches (address : ℕ) (files : List (List ℕ)) (old new : ChannelsState) : Type 0 where
  pub image : ImageState
  pub of_files : HoldsImage files image
  pub detaches : OnChannel (address / 256) (TakesOff (address % 256) image) ⊥ old new

-- The header of one of these files was not read. A file in memory does not fail so; that is said by its own contract, and not by that
-- of a mount, which is of any store.
pub record HasFailed (files : List (List ℕ)) : Type 0 where
  pub before : List ℕ
  pub now : List ℕ
  pub failed : FailedRead (map head_of files) before now

-- why files are no image: the first rule of a mount that they break
abbrev pub WhyNoImage : MountFault → (files : List (List ℕ)) → Type 0
WhyNoImage StoreFault files = HasFailed files
WhyNoImage broken files = mount_of files ≡ Err broken

-- Why memory is not taken for so many files, in this order: there are none; there are more than eight; there is no memory.
abbrev pub NotTaken : (count : ℕ) → Refusal → Type 0
NotTaken count NoFiles = count ≡ 0
NotTaken count TooManyFiles = 8 < count
NotTaken count OutOfMemory = (0 < count) × (count ≤ 8)
NotTaken count other = ⊥

-- Why files are not mounted, in this order: there are none; there are more than eight; there is no memory for copies of them; they
-- are no image.
abbrev pub NotMounted : (files : List (List ℕ)) → Refusal → Type 0
NotMounted files NoFiles = length files ≡ 0
NotMounted files TooManyFiles = 8 < length files
NotMounted files OutOfMemory = AreFew files
NotMounted files (Mount broken) = AreFew files × WhyNoImage broken files
NotMounted files other = ⊥

-- Why a new volume is not made, in this order: it would have no cylinders; there is no memory; its file was not written, which no file
-- in memory meets, as its own contract says.
abbrev pub NotFormatted : (cylinders : ℕ) → Refusal → Type 0
NotFormatted cylinders NoCylinders = cylinders ≡ 0
NotFormatted cylinders OutOfMemory = 0 < cylinders
NotFormatted cylinders (Mount StoreFault) = 0 < cylinders
NotFormatted cylinders other = ⊥

-- what a subsystem says of what its channels refuse
abbrev pub refusal_of : AttachFault → Refusal
refusal_of fault.NoChannel = NoChannel
refusal_of (fault.Refused why.UnitTaken) = AddressTaken
refusal_of (fault.Refused why.Full) = Full
refusal_of (fault.Refused (why.OutOfMemory e)) = OutOfMemory

-- The channels refuse a drive, for a reason that holds.
pub record Refuses (c : Option ChannelState) (device : ℕ) (refusal : Refusal) : Type 0 where
  pub fault : AttachFault
  pub told : refusal ≡ refusal_of fault
  pub is_why : WhyNot c device fault

-- Why a channel does not attach a drive, in this order: there is one with its address; there are eight; there is no memory.
abbrev pub RefusedBy : ChannelState → (device : ℕ) → Refusal → Type 0
RefusedBy c device AddressTaken = channel.is_taken device c ≡ true
RefusedBy c device Full = (channel.is_taken device c ≡ false) × (channel.is_full c ≡ true)
RefusedBy c device OutOfMemory = channel.NotRefused device c
RefusedBy c device other = ⊥

-- Why a drive with the image of these files is not attached, in this order: there is no channel of its address; the files are not
-- mounted; they are, and the channel refuses it.
abbrev pub NotAttached : Option ChannelState → (device : ℕ) → (files : List (List ℕ)) → Refusal → Type 0
NotAttached None device files refusal = refusal ≡ NoChannel
NotAttached (Some c) device files refusal = NotMounted files refusal ⊎ (AreImage files × RefusedBy c device refusal)

-- Why one with a new volume is not: there is no channel of its address; the volume is not made; it is, and the channel refuses it.
abbrev pub NotAttachedNew : Option ChannelState → (device cylinders : ℕ) → Refusal → Type 0
NotAttachedNew None device cylinders refusal = refusal ≡ NoChannel
NotAttachedNew (Some c) device cylinders refusal = NotFormatted cylinders refusal ⊎ ((0 < cylinders) × RefusedBy c device refusal)

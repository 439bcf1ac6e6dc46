-- The channel of a run: what it is made of, and why there is none; and which files are opened for it.
use Rattle.std.specs.Prelude.{◌≡◌, ◌≤◌, ◌<◌, ◌⊎◌, [], ◌++◌, ◌∷◌, ◌==◌, ℕ, Bool, true, false, List, length, replicate, is_some, position}
use Rattle.ckd_track.specs.Geometry.{new_geometry}
use Rattle.ckd_image.specs.Layout.{image_length}
use Rattle.ckd_image.specs.Image.{ImageState, HoldsImage, new_image}
use Rattle.s360_words.specs.Storage.{is_size, cleared}
use Rattle.s360_channel.specs.Channel.{ChannelState}
use Rattle.attached_drives.specs.Drives.{AttachedState, new_attached}
use Rattle.s360_channel.specs.declared.subchannel.Subchannel.TheVariants.{Idle}
use Rattle.dasd_words.specs.declared.volumes.Volume.{Volume}
use Rattle.dasd_words.specs.declared.volumes.VolumeSource.{VolumeSource}
use Rattle.dasd_words.specs.declared.volumes.VolumeSource.TheVariants.{Files, New}
use Rattle.dasd_jobs.specs.Sources.{SourceFile, ReadsWhole}
use Rattle.dasd_jobs.specs.Unopened.{NotRead, NotFormatted}
use Rattle.dasd_jobs.specs.declared.faults.JobFault.{JobFault}
use Rattle.dasd_jobs.specs.declared.faults.JobFault.TheVariants as job
use Rattle.program_faults.specs.declared.fault.ProgramFault.{ProgramFault}
use Rattle.program_faults.specs.declared.fault.ProgramFault.TheVariants as fault
use Rattle.dasd_run.specs.Saves.{paths_of}

-- a channel with this number, over cleared main storage of this size, at which nothing has happened
pub record IsNewChannel (size channel : ℕ) (c : ChannelState) : Type 0 where
  pub number : c.number ≡ channel
  pub storage : c.storage ≡ cleared size
  pub subchannel : c.subchannel ≡ Idle

-- why there is none, in this order: the size, the memory for it, the number
abbrev pub NotMade : ProgramFault → (size number : ℕ) → Type 0
NotMade fault.StorageSize size number = is_size size ≡ false
NotMade fault.OutOfMemory size number = is_size size ≡ true
NotMade fault.ChannelNumber size number = (is_size size ≡ true) × (7 ≤ number)
NotMade f size number = ⊥

-- The image of a volume before a run. The files at the volume's paths were opened, in their order and no other, and read whole: what was
-- read of them holds it. Or it is a new one in memory, and no file was opened.
abbrev pub Opens : VolumeSource → ImageState → (before now : List SourceFile) → Type 0
Opens (Files paths) image before now =
    HoldsImage image.lasting.origins image × ReadsWhole (paths_of (Files paths)) image.lasting.origins before now
Opens (New model cylinders) image before now =
    (image ≡ new_image model cylinders (replicate (image_length (new_geometry model cylinders)) 0) 0) × (now ≡ before)

-- a volume has its image
abbrev pub HasImage : VolumeSource → (before now : List SourceFile) → Type 0
HasImage source before now = (image : ImageState) × Opens source image before now

-- a volume's drive before a run: it is new, at the volume's address, and holds its image, for which these files were opened
abbrev pub IsDriveOf : Volume → AttachedState → (before now : List SourceFile) → Type 0
IsDriveOf v u before now = (image : ImageState) × Opens v.source image before now × (u ≡ new_attached v.device image)

-- Each volume has its drive, in their order. Their files were opened, those of the first volume and then those of the others, and no
-- other file was.
abbrev pub OpensVolumes : List Volume → List AttachedState → (before now : List SourceFile) → Type 0
OpensVolumes [] [] before now = now ≡ before
OpensVolumes [] (u ∷ drives) before now = ⊥
OpensVolumes (v ∷ volumes) [] before now = ⊥
OpensVolumes (v ∷ volumes) (u ∷ drives) before now =
    (between : List SourceFile) × IsDriveOf v u before between × OpensVolumes volumes drives between now

-- these volumes have their drives
abbrev pub AreOpened : List Volume → (before now : List SourceFile) → Type 0
AreOpened volumes before now = (drives : List AttachedState) × OpensVolumes volumes drives before now

-- a channel has one drive more, a volume's, behind the others; nothing else of it changes
abbrev pub AttachesOne : Volume → (old new : ChannelState) → (before now : List SourceFile) → Type 0
AttachesOne v old new before now = (u : AttachedState) × IsDriveOf v u before now × (new ≡ record old { drives = old.drives ++ u ∷ [] })

-- whether a volume, or one of these, has an address
abbrev pub is_addressed : (device : ℕ) → Volume → Bool
is_addressed device v = v.device == device

abbrev pub has_address : (device : ℕ) → List Volume → Bool
has_address device volumes = is_some (position (is_addressed device) volumes)

-- a drive has the address of a volume
abbrev pub HasAddressOf : Volume → AttachedState → Type 0
HasAddressOf v u = u.device ≡ v.device

-- The image of a volume is not opened: its files are not read whole; or a new one is not made, and no file was opened.
abbrev pub HasNoImage : JobFault → VolumeSource → (before now : List SourceFile) → Type 0
HasNoImage f (Files paths) before now = NotRead f (paths_of (Files paths)) before now
HasNoImage f (New model cylinders) before now = NotFormatted f cylinders × (now ≡ before)

-- Why a volume gets no drive behind those before it: its image is not opened, or one of those has its address; or there are eight, or
-- no memory. That its image is in use is told where its address is not taken.
abbrev pub NotAttached : ProgramFault → (before : List Volume) → Volume → (opened_before opened : List SourceFile) → Type 0
NotAttached fault.AddressTaken before v opened_before opened =
    (has_address v.device before ≡ true) × (HasNoImage job.InUse v.source opened_before opened ⊎ HasImage v.source opened_before opened)
NotAttached fault.TooManyDrives before v opened_before opened =
    (has_address v.device before ≡ false) × (length before ≡ 8) × HasImage v.source opened_before opened
NotAttached fault.OutOfMemory before v opened_before opened = (has_address v.device before ≡ false) × HasImage v.source opened_before opened
NotAttached (fault.Job job.InUse) before v opened_before opened =
    (has_address v.device before ≡ false) × HasNoImage job.InUse v.source opened_before opened
NotAttached (fault.Job f) before v opened_before opened = HasNoImage f v.source opened_before opened
NotAttached f before v opened_before opened = ⊥

-- The first volume that gets no drive, and why. The files of those before it were opened.
pub record NotAllAttached (f : ProgramFault) (volumes : List Volume) (opened_before opened : List SourceFile) : Type 0 where
  pub before : List Volume
  pub volume : Volume
  pub behind : List Volume
  pub are_all : volumes ≡ before ++ volume ∷ behind
  pub between : List SourceFile
  pub opens : AreOpened before opened_before between
  pub why : NotAttached f before volume between opened

-- why a channel is not built: it is not made, and no file was opened; or not all volumes get their drives
abbrev pub NotBuilt : ProgramFault → (size number : ℕ) → List Volume → (opened_before opened : List SourceFile) → Type 0
NotBuilt f size number volumes opened_before opened =
    (NotMade f size number × (opened ≡ opened_before))
    ⊎ ((is_size size ≡ true) × (number < 7) × NotAllAttached f volumes opened_before opened)

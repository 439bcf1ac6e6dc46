-- Why the volume in files is not opened, and which files were opened until then.
use Rattle.std.specs.Prelude.{◌≡◌, ◌⊎◌, ◌<◌, ℕ, Bool, false, List, length}
use Rattle.ckd_image.specs.declared.fault.MountFault.{MountFault}
use Rattle.ckd_image.specs.declared.fault.MountFault.TheVariants.{Split, Length, StoreFault}
use Rattle.dasd_jobs.specs.Sources.{Content, SourceFile, OpensPaths, OpensFirst, NotMounted}
use Rattle.dasd_jobs.specs.declared.faults.JobFault.{JobFault}
use Rattle.dasd_jobs.specs.declared.faults.JobFault.TheVariants.{OutOfMemory, Mount, Write, Store, InUse, Exists}

-- The files at these paths were opened, and they hold no image: they break this rule of a mount first.
pub record HoldNone (as_far : Bool) (broken : MountFault) (paths : List (List ℕ)) (before now : List SourceFile) : Type 0 where
  pub contents : List Content
  pub opens : OpensPaths paths contents before now
  pub breaks : NotMounted as_far contents broken

-- an image has at most eight files; of more none is opened
abbrev pub AreMany : (broken : MountFault) → (paths : List (List ℕ)) → (before now : List SourceFile) → Type 0
AreMany broken paths before now = (broken ≡ Split) × (8 < length paths) × (now ≡ before)

-- the first files were opened, before one that was not, or all
abbrev pub OpensSome : (paths : List (List ℕ)) → (before now : List SourceFile) → Type 0
OpensSome paths before now = (number : ℕ) × OpensFirst number paths before now

-- the first files were opened, before one that was not
abbrev pub OpensBut : (paths : List (List ℕ)) → (before now : List SourceFile) → Type 0
OpensBut paths before now = (number : ℕ) × (number < length paths) × OpensFirst number paths before now

-- Why the volume in the files at these paths is not opened. There are too many, or they hold no image; the next one is in use; or the
-- next can't be opened, a header can't be read, or there is no memory. Nothing was written, so no write failed; no slot was read; and a
-- header that can't be read is no fault of a mount.
abbrev pub NotOpened : (as_far : Bool) → JobFault → (paths : List (List ℕ)) → (before now : List SourceFile) → Type 0
NotOpened as_far (Mount StoreFault) paths before now = ⊥
NotOpened as_far (Mount broken) paths before now = AreMany broken paths before now ⊎ HoldNone as_far broken paths before now
NotOpened as_far Write paths before now = ⊥
NotOpened as_far Store paths before now = ⊥
NotOpened as_far InUse paths before now = OpensBut paths before now
NotOpened as_far Exists paths before now = OpensBut paths before now
NotOpened as_far f paths before now = OpensSome paths before now

-- a file is named a second time, behind at least one that was opened, and so these are not the files of an image
abbrev pub NamesTwice : JobFault → (paths : List (List ℕ)) → (before now : List SourceFile) → Type 0
NamesTwice f paths before now = (f ≡ Mount Split) × (number : ℕ) × (0 < number) × (number < length paths) × OpensFirst number paths before now

-- Why the image in the files at these paths is not read whole: as above, where they are locked and read; or one of them is locked already.
abbrev pub NotRead : JobFault → (paths : List (List ℕ)) → (before now : List SourceFile) → Type 0
NotRead f paths before now = NotOpened false f paths before now ⊎ NamesTwice f paths before now

-- Why a new volume is not made: it would have no cylinders; there is no memory; or its file was not written, which no file in memory
-- meets, as its own contract says.
abbrev pub NotFormatted : JobFault → (cylinders : ℕ) → Type 0
NotFormatted (Mount Length) cylinders = cylinders ≡ 0
NotFormatted (Mount StoreFault) cylinders = 0 < cylinders
NotFormatted OutOfMemory cylinders = Unit {0}
NotFormatted f cylinders = ⊥

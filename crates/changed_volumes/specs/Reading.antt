-- The volume of an image in memory, as a reader of its slots knows it.
use Rattle.std.specs.Prelude.{Some}
use Rattle.ckd_image.specs.Image.{ImageState}
use Rattle.dasd_volumes.specs.Reading.{KnownVolume}
use Rattle.changed_volumes.specs.declared.reading.HeldVolume.{HeldVolume}
use Rattle.changed_volumes.specs.declared.reading.HeldVolume.TheVariants.{Lent, Copied}

-- the image that is read
abbrev pub image_of : HeldVolume → ImageState
image_of (Lent i) = i
image_of (Copied i) = i

-- all of its slots are known
abbrev pub known : ImageState → KnownVolume
known i = record { geometry = i.geometry; slots = Some i.slots; header = i.lasting.header; saves = i.saves }

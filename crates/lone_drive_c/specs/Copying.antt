-- What a copy of a handle says.
use Rattle.std.specs.Prelude.{◌≡◌, ◌⊎◌, ℤ, pos, Option, Some, None}
use Rattle.lone_drive_c.specs.declared.drive.LoneDrive.{LoneDrive}
use Rattle.lone_drive_c.specs.declared.refusal.NotMade.TheVariants.{OutOfMemory}
use Rattle.lone_drive_c.specs.Codes.{nothing_held, in_use, made_code}

-- There is nothing to be copied; the handle that is to hold the copy holds something; or it is done, or memory was refused.
abbrev pub TellsCopy : (held copy : Option LoneDrive) → (code : ℤ) → Type 0
TellsCopy None copy code = code ≡ nothing_held
TellsCopy (Some d) (Some e) code = code ≡ in_use
TellsCopy (Some d) None code = (code ≡ pos 0) ⊎ (code ≡ made_code OutOfMemory)

-- What a copy of a handle says.
use Rattle.std.specs.Prelude.{◌≡◌, ◌⊎◌, ℤ, pos, Option, Some, None}
use Rattle.dasd_subsystem.specs.declared.subsystem.Subsystem.{Subsystem}
use Rattle.dasd_subsystem.specs.declared.refusal.Refusal.TheVariants.{OutOfMemory}
use Rattle.subsystem_calls.specs.Codes.{nothing_held, in_use, refusal_code}

-- There is nothing to be copied; the handle that is to hold the copy holds something; or it is done, or memory was refused.
abbrev pub TellsCopy : (held copy : Option Subsystem) → (code : ℤ) → Type 0
TellsCopy None copy code = code ≡ nothing_held
TellsCopy (Some s) (Some t) code = code ≡ in_use
TellsCopy (Some s) None code = (code ≡ pos 0) ⊎ (code ≡ refusal_code OutOfMemory)

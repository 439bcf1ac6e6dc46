-- An empty slot owns nothing.
use Rattle.box_parts.proofs.Slots.{emptied}
use Rattle.lone_drive_c.proofs.AsSlot.{S}
use Rattle.lone_drive_c.specs.contracts.slot.Slot.empty.Key.{name as #self}
use Rattle.lone_drive_c.proofs.slot.Slot.empty.Statement.{statement}
use Rattle.lone_drive_c.proofs.slot.Slot.empty.Code as code

pub empty_spec : {M : Type 1} → statement M
empty_spec 𝓤 𝓛 𝓜 𝓡 wired = emptied S 𝓛 𝓜 𝓡 #self (code.unfolded 𝓤 𝓛.H 𝓜 𝓡 wired)

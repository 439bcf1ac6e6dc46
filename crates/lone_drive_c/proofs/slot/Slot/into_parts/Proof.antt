-- The parts of a box own what a slot did.
use Rattle.box_parts.proofs.Slots.{opened}
use Rattle.lone_drive_c.proofs.AsSlot.{S}
use Rattle.lone_drive_c.specs.contracts.slot.Slot.into_parts.Key.{name as #self}
use Rattle.lone_drive_c.proofs.slot.Slot.into_parts.Statement.{statement}
use Rattle.lone_drive_c.proofs.slot.Slot.into_parts.Code as code

pub into_parts_spec : {M : Type 1} → statement M
into_parts_spec 𝓤 𝓛 𝓜 𝓡 wired = opened S 𝓛 𝓜 𝓡 #self (code.unfolded 𝓤 𝓛.H 𝓜 𝓡 wired)

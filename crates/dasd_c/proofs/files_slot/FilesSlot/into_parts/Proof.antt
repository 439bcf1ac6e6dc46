-- The parts of a box own what a slot did.
use Rattle.box_parts.proofs.Slots.{opened}
use Rattle.dasd_c.proofs.AsFilesSlot.{S}
use Rattle.dasd_c.specs.contracts.files_slot.FilesSlot.into_parts.Key.{name as #self}
use Rattle.dasd_c.proofs.files_slot.FilesSlot.into_parts.Statement.{statement}
use Rattle.dasd_c.proofs.files_slot.FilesSlot.into_parts.Code as code

pub into_parts_spec : {M : Type 1} → statement M
into_parts_spec 𝓤 𝓛 𝓜 𝓡 wired = opened S 𝓛 𝓜 𝓡 #self (code.unfolded 𝓤 𝓛.H 𝓜 𝓡 wired)

-- A slot owns what the parts of a box did.
use Rattle.box_parts.proofs.Slots.{filled}
use Rattle.dasd_c.proofs.AsFilesSlot.{S}
use Rattle.dasd_c.specs.contracts.files_slot.FilesSlot.of_parts.Key.{name as #self}
use Rattle.dasd_c.proofs.files_slot.FilesSlot.of_parts.Statement.{statement}
use Rattle.dasd_c.proofs.files_slot.FilesSlot.of_parts.Code as code

pub of_parts_spec : {M : Type 1} → statement M
of_parts_spec 𝓤 𝓛 𝓜 𝓡 wired = filled S 𝓛 𝓜 𝓡 #self (code.unfolded 𝓤 𝓛.H 𝓜 𝓡 wired)

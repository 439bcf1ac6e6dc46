-- An empty slot owns nothing.
use Rattle.box_parts.proofs.Slots.{emptied}
use Rattle.dasd_c.proofs.AsFilesSlot.{S}
use Rattle.dasd_c.specs.contracts.files_slot.FilesSlot.empty.Key.{name as #self}
use Rattle.dasd_c.proofs.files_slot.FilesSlot.empty.Statement.{statement}
use Rattle.dasd_c.proofs.files_slot.FilesSlot.empty.Code as code

pub empty_spec : {M : Type 1} → statement M
empty_spec 𝓤 𝓛 𝓜 𝓡 wired = emptied S 𝓛 𝓜 𝓡 #self (code.unfolded 𝓤 𝓛.H 𝓜 𝓡 wired)

use Rattle.lone_drive_c.proofs.Files.{has_first}
use Rattle.lone_drive_c.proofs.volume.first_file.Goals as goal

-- an image is held by one file at least
pub unreachable-requires : goal.unreachable-requires
unreachable-requires c = has_first _ _ _ c.store.ensures.file c.in-None.is

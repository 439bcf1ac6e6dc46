-- The file of a new volume with a label.
use Rattle.std.specs.Prelude.{ℕ, List, ◌++◌, codes}
use Rattle.std.specs.List.{concat}
use Rattle.ckd_track.specs.declared.model.DriveModel.{DriveModel}
use Rattle.ckd_track.specs.declared.geometries.Geometry.{Geometry}
use Rattle.ckd_image.specs.Header.{new_header, fields_behind_id}
use Rattle.new_labels.specs.declared.labels.NewLabel.{NewLabel}
use Rattle.new_labels.specs.Tracks.{labelled_slots}

-- what the header of a new image has before zeros
abbrev pub header_front : DriveModel → List ℕ
header_front model = codes "CKD_P370" ++ fields_behind_id model

-- the header of a new image, and the slots of all tracks, in order
abbrev pub labelled_file : Geometry → NewLabel → List ℕ
labelled_file g l = new_header g.model ++ concat (labelled_slots g l)

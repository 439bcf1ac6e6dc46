-- Where the table of contents of a new volume is, and whether the volume can have it there.
use Rattle.std.specs.Prelude.{ℕ, ◌+◌, ◌-◌, ◌*◌, ◌≤◌, ◌==◌, ◌||◌, nat_lt, if◌then◌else◌, Option, Some, None}
use Rattle.ckd_track.specs.declared.model.DriveModel.{DriveModel}
use Rattle.ckd_track.specs.declared.model.DriveModel.TheVariants.{D2311, D2314}
use Rattle.ckd_track.specs.declared.geometries.Geometry.{Geometry}
use Rattle.ckd_track.specs.Geometry.{tracks_of}
use Rattle.new_labels.specs.declared.labels.NewLabel.{NewLabel}
use Rattle.new_labels.specs.declared.labels.TableFault.{TableFault}
use Rattle.new_labels.specs.declared.labels.TableFault.TheVariants.{NoTrack, OnLabel, Outside, TooFar}

-- how many control blocks a track has room for
abbrev pub blocks_on : DriveModel → ℕ
blocks_on D2311 = 16
blocks_on D2314 = 25

-- the first track behind the table
abbrev pub table_end : NewLabel → ℕ
table_end l = l.first + l.tracks

-- the control blocks of the table
abbrev pub table_blocks : Geometry → NewLabel → ℕ
table_blocks g l = l.tracks * blocks_on g.model

-- those of them that are free: all but the table's own and that of the free tracks
abbrev pub free_blocks : Geometry → NewLabel → ℕ
free_blocks g l = table_blocks g l - 2

-- Why a volume can't have the table: it has no track, or that of the label, or one that the volume has not; or numbers of tracks and
-- of blocks would not go into their two bytes.
abbrev pub table_fault_of : Geometry → NewLabel → Option TableFault
table_fault_of g l =
    if l.tracks == 0 then Some NoTrack
    else (if l.first == 0 then Some OnLabel
    else (if nat_lt (tracks_of g) (table_end l) then Some Outside
    else (if nat_lt 65535 (table_end l) || nat_lt 65537 (table_blocks g l) then Some TooFar
    else None)))

-- the volume can have the table there
pub record Fits (g : Geometry) (l : NewLabel) : Type 0 where
  pub tracks : 1 ≤ l.tracks
  pub behind_label : 1 ≤ l.first
  pub within : table_end l ≤ tracks_of g
  pub near : table_end l ≤ 65535
  pub counted : table_blocks g l ≤ 65537

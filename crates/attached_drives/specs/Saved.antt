-- What is saved of attached drives between two programs, and drives that are put back so.
use Rattle.std.specs.Prelude.{ℕ, ◌-◌, ◌==◌, ◌&&◌, ◌++◌, List, [], ◌∷◌, map, length, replicate, Bool, true, false, is_some, Option, Some, None, if◌then◌else◌}
use Rattle.ckd_track.specs.declared.geometries.Geometry.{Geometry}
use Rattle.ckd_drive.specs.Work.{has_track, restored}
use Rattle.s360_laws.specs.Machine.{Device}
use Rattle.attached_drives.specs.Drives.{AttachedState}
use Rattle.attached_drives.specs.declared.drives_saved.SavedDrive.{SavedDrive}

-- a device: its arm, where it stands, the head that is selected, and its sense bytes
abbrev pub saved_drive : Device → SavedDrive
saved_drive d = record { arm = d.arm; cylinder = d.drive.cylinder; head = d.drive.head; sense = d.drive.sense }

-- the devices in the order of attachment, with the low bytes of their addresses, in eight places
abbrev pub drives_saved : List Device → List (Option (ℕ × SavedDrive))
drives_saved ds = map (λ d. Some (d.device, saved_drive d)) ds ++ replicate (8 - length ds) None

-- what was saved of the drive with an address: the first that has it
abbrev pub entry : (device : ℕ) → List (Option (ℕ × SavedDrive)) → Option SavedDrive
entry device [] = None
entry device (None ∷ entries) = entry device entries
entry device (Some e ∷ entries) = if e.0 == device then Some e.1 else entry device entries

-- an attached drive as it was saved
abbrev pub attached_as_saved : SavedDrive → AttachedState → AttachedState
attached_as_saved saved u =
    record u { arm = saved.arm; drive = restored saved.cylinder saved.head saved.sense u.drive }

-- an attached drive is as it was saved, if it was
abbrev pub drive_back : Option SavedDrive → AttachedState → AttachedState
drive_back None u = u
drive_back (Some saved) u = attached_as_saved saved u

-- so is each by its own address
abbrev pub drives_back : List (Option (ℕ × SavedDrive)) → List AttachedState → List AttachedState
drives_back entries us = map (λ u. drive_back (entry u.device entries) u) us

-- each drive was saved
abbrev pub are_saved : List (Option (ℕ × SavedDrive)) → List AttachedState → Bool
are_saved entries [] = true
are_saved entries (u ∷ us) = is_some (entry u.device entries) && are_saved entries us

-- a volume has the track where a drive was saved
abbrev pub has_track_of : Option SavedDrive → Geometry → Bool
has_track_of None g = false
has_track_of (Some saved) g = has_track g saved.cylinder saved.head

-- so have all
abbrev pub have_tracks : List (Option (ℕ × SavedDrive)) → List AttachedState → Bool
have_tracks entries [] = true
have_tracks entries (u ∷ us) = has_track_of (entry u.device entries) u.drive.state.volume.geometry && have_tracks entries us

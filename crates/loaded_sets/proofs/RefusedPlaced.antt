-- A volume that gets no data set, by what refused it.
use Rattle.std.proofs.Common.{◌≡◌, ◌<◌, List, ℕ, length, Ok, Some, inl, inr}
use Rattle.ckd_track.specs.declared.geometries.Geometry.{Geometry}
use Rattle.volume_labels.specs.declared.fields.Extent.{Extent}
use Rattle.volume_changes.specs.Deletions.{change_in}
use Rattle.volume_changes.specs.declared.blocks.BlockChange.{BlockChange}
use Rattle.volume_changes.specs.Space.{taken_of}
use Rattle.volume_contents.specs.Contents.{contents_of}
use Rattle.volume_labels.specs.declared.fields.RecordAddress.{RecordAddress}
use Rattle.loaded_sets.specs.declared.place_fault.PlaceFault.{PlaceFault}
use Rattle.loaded_sets.specs.declared.place_fault.PlaceFault.TheVariants as fault
use Rattle.loaded_sets.specs.declared.place_fault.PlaceRefusal.TheVariants as refusal
use Rattle.loaded_sets.specs.declared.plans.PlacedSet.{PlacedSet}
use Rattle.loaded_sets.specs.declared.plans.Placed.{Placed}
use Rattle.loaded_sets.specs.Volumes.{Labelled}
use Rattle.loaded_sets.specs.Sets.{GetsTracks}
use Rattle.loaded_sets.specs.Placed.{IsNotPlaced}
use Rattle.loaded_sets.specs.PlacedParts.{IsPlaced, IsWritten, IsUnplaced, IsUntaken, IsLeftOut, IsOneLeftOut, IsUnlisted, IsUnseen}

-- the blocks of format 5 have no room for the runs that are left
pub untaken : (v : Labelled) (slots : List (List ℕ)) (its : PlacedSet) (first tracks : ℕ)
    → GetsTracks v slots its first tracks → (f : PlaceFault) → IsUntaken f v first tracks → IsUnplaced f v slots its
untaken v slots its first tracks gets (fault.Refused (refusal.Volume r)) why = (first, tracks, gets, why)
untaken v slots its first tracks gets (fault.Refused refusal.NoRoom) why = elim why [ ]
untaken v slots its first tracks gets (fault.Refused refusal.Unconfirmed) why = elim why [ ]
untaken v slots its first tracks gets (fault.Refused refusal.Findings) why = elim why [ ]
untaken v slots its first tracks gets (fault.Refused refusal.NoFreeBlock) why = elim why [ ]
untaken v slots its first tracks gets (fault.Job f) why = why

module _ (v : Labelled) (set : PlacedSet) (slots : List (List ℕ)) where
  pub unplaced : (f : PlaceFault) → IsUnplaced f v slots set → IsNotPlaced f v set slots
  unplaced (fault.Refused refusal.NoRoom) why = why
  unplaced (fault.Refused refusal.Unconfirmed) why = elim why [ ]
  unplaced (fault.Refused (refusal.Volume r)) why = why
  unplaced (fault.Refused refusal.Findings) why = elim why [ ]
  unplaced (fault.Refused refusal.NoFreeBlock) why = elim why [ ]
  unplaced (fault.Job f) why = why

  pub unlisted : (first tracks : ℕ) → GetsTracks v slots set first tracks → (changes : List BlockChange)
      → taken_of v.geometry v.label.contents v.blocks first tracks ≡ Ok changes → (f : PlaceFault) → IsUnlisted f v changes slots
      → IsNotPlaced f v set slots
  unlisted first tracks gets changes taken (fault.Refused refusal.NoFreeBlock) why = (why, first, tracks, gets)
  unlisted first tracks gets changes taken (fault.Refused refusal.Unconfirmed) why = (first, tracks, gets, inl (changes, taken, why))
  unlisted first tracks gets changes taken (fault.Refused (refusal.Volume r)) why = elim why [ ]
  unlisted first tracks gets changes taken (fault.Refused refusal.Findings) why = elim why [ ]
  unlisted first tracks gets changes taken (fault.Refused refusal.NoRoom) why = elim why [ ]
  unlisted first tracks gets changes taken (fault.Job f) why = why

  module _ (p : Placed) (placed : IsPlaced v slots set p) (a : RecordAddress) (now : List (List ℕ))
      (is : IsWritten v set p slots a now) where
    pub unseen : (f : PlaceFault) → IsUnseen f v (contents_of v.geometry now) p.block a → IsNotPlaced f v set slots
    unseen (fault.Refused refusal.Unconfirmed) why = (
      p.run.first,
      p.run.tracks,
      placed.gets,
      inr (record { block = p.block; new = placed.new; address = a; now = now; written = is.written; lost = why }),
    )
    unseen (fault.Refused refusal.NoFreeBlock) why = elim why [ ]
    unseen (fault.Refused (refusal.Volume r)) why = elim why [ ]
    unseen (fault.Refused refusal.Findings) why = elim why [ ]
    unseen (fault.Refused refusal.NoRoom) why = elim why [ ]
    unseen (fault.Job f) why = why

-- one of several control blocks that would change stands on no track of the table
pub one_left_out : (f : PlaceFault) (g : Geometry) (e : Extent) (changes : List BlockChange) (i : ℕ) → i < length changes
    → IsLeftOut f g e (Some (change_in changes i)) → IsOneLeftOut f g e changes
one_left_out (fault.Refused refusal.Unconfirmed) g e changes i there why = (i, there, why)
one_left_out (fault.Refused (refusal.Volume r)) g e changes i there why = elim why [ ]
one_left_out (fault.Refused refusal.Findings) g e changes i there why = elim why [ ]
one_left_out (fault.Refused refusal.NoRoom) g e changes i there why = elim why [ ]
one_left_out (fault.Refused refusal.NoFreeBlock) g e changes i there why = elim why [ ]
one_left_out (fault.Job f) g e changes i there why = why

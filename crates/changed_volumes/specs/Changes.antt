-- What is changed of the volume of an image in memory.
use Rattle.std.specs.Prelude.{◌≡◌, ℕ, List, Result, Ok, Err}
use Rattle.ckd_image.specs.Image.{ImageState}
use Rattle.counted_io.specs.declared.writing.WriteFault.{WriteFault}
use Rattle.ckd_track.specs.declared.geometries.Geometry.{Geometry}
use Rattle.dasd_jobs.specs.declared.faults.JobFault.{JobFault}
use Rattle.dasd_jobs.specs.declared.faults.JobFault.TheVariants as job
use Rattle.dasd_volumes.specs.declared.fault.VolumeFault.{VolumeFault}
use Rattle.dasd_volumes.specs.declared.fault.VolumeFault.TheVariants as volume
use Rattle.volume_changes.specs.declared.refusal.ChangeRefusal.{ChangeRefusal}
use Rattle.volume_changes.specs.Volumes.{renamed, relabelled}
use Rattle.volume_changes.specs.Deletions.{deleted}
use Rattle.changed_volumes.specs.declared.fault.ChangeFault.{ChangeFault}
use Rattle.changed_volumes.specs.declared.fault.ChangeFault.TheVariants as fault
use Rattle.changed_volumes.specs.declared.images.VolumeChange.{VolumeChange}
use Rattle.changed_volumes.specs.declared.images.VolumeChange.TheVariants.{Rename, Relabel, Delete}

-- What a change makes of the slots of a volume of a geometry, and what it answers then; and why it is refused.
pub record Changing (A R : Type 0) : Type 1 where
  pub makes : Geometry → (before : List (List ℕ)) → A → (now : List (List ℕ)) → Type 0
  pub refuses : R → Geometry → (slots : List (List ℕ)) → Type 0

-- what becomes of the slots of a volume, or why not
abbrev pub SlotChange : Type 0
SlotChange = Geometry → (slots : List (List ℕ)) → Result (List (List ℕ)) ChangeRefusal

-- the change by which they become that; its answer is the geometry
abbrev pub changing : SlotChange → Changing Geometry ChangeRefusal
changing change = record {
  makes = λ g before answer now. (change g before ≡ Ok now) × (answer ≡ g);
  refuses = λ r g slots. change g slots ≡ Err r;
}

abbrev pub changed_by : VolumeChange → SlotChange
changed_by (Rename old new) = renamed old new
changed_by (Relabel fields) = relabelled fields
changed_by (Delete name) = deleted name

-- an image of a volume of the same size in the same files, which may have other slots
pub record IsSameImage (before now : ImageState) : Type 0 where
  pub geometry : now.geometry ≡ before.geometry
  pub lasting : now.lasting ≡ before.lasting

-- there is no memory, or a slot in memory is not read or written
abbrev pub IsHindered : JobFault → Type 0
IsHindered job.OutOfMemory = Unit {0}
IsHindered job.Store = Unit {0}
IsHindered f = ⊥

abbrev pub IsHinderedBy : {R : Type 0} → ChangeFault R → Type 0
IsHinderedBy (fault.Job f) = IsHindered f
IsHinderedBy f = ⊥

-- Why a change is not done: it is refused for one of these reasons, or something hinders it.
abbrev pub IsNotDone : {R : Type 0} → ChangeFault R → (refuses : R → Type 0) → Type 0
IsNotDone (fault.Refused r) refuses = refuses r
IsNotDone (fault.Job f) refuses = IsHindered f
IsNotDone (fault.Save f) refuses = ⊥

-- Why a volume in memory is not changed, or a change not planned: it is refused so, or something hinders it.
abbrev pub IsRefused : {A : Type 0} → ChangeFault ChangeRefusal → (changed : Result A ChangeRefusal) → Type 0
IsRefused f changed = IsNotDone f (λ r. changed ≡ Err r)

-- what a fault of a volume that is read of memory is
abbrev pub reading_fault : {R : Type 0} → VolumeFault → ChangeFault R
reading_fault volume.OutOfMemory = fault.Job job.OutOfMemory
reading_fault volume.Store = fault.Job job.Store
reading_fault volume.Write = fault.Job job.Store

-- what a line that is written, or not, is
abbrev pub written_line : {R : Type 0} → Result (Unit {0}) WriteFault → Result (Unit {0}) (ChangeFault R)
written_line (Ok done) = Ok done
written_line (Err f) = Err (fault.Job job.Write)

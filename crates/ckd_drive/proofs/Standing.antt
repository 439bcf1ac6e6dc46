-- A drive that stands, and after its parts have changed.
use Rattle.std.proofs.Common.{◌≡◌, ℕ, ◌+◌, ◌*◌, ◌<◌, ◌≤◌, length, refl, arith, add-one, ◌∙◌, List, Bool, true, false, None, unwrap_or}
use Rattle.std.proofs.Common.{length-set, Some, ap}
use Rattle.std.proofs.Math.Nat.{mul-le-mul_right, suc-mul}
use Rattle.ckd_track.specs.Model.{heads_of}
use Rattle.ckd_track.specs.declared.geometries.Geometry.{Geometry}
use Rattle.ckd_track.specs.Geometry.{tracks_of}
use Rattle.ckd_command.specs.declared.registers.Registers.{Registers}
use Rattle.ckd_command.specs.Commands.{IsAtTrack}
use Rattle.ckd_drive.specs.Invariant.{Stands, track_under, HalfDone, Parts, own_track, StageIs, CreditIs, is_filled, work_of, parts_of}
use Rattle.ckd_drive.specs.Invariant.{Goes, seen_by, slot_at, is_filled_by, AtWork, number_in, state_of}
use Rattle.std.proofs.lemmas.List.Elements.{All-set}
use Rattle.ckd_track.specs.declared.model.DriveModel.TheVariants.{D2311, D2314}
use Rattle.ckd_command.specs.declared.registers.Mark.TheVariants.{Saved, Lost}
use Rattle.ckd_drive.specs.declared.answers.DriveStage.{DriveStage}
use Rattle.ckd_drive.specs.declared.answers.DriveStage.TheVariants.{Idle, Passing}
use Rattle.ckd_command.specs.Answers.{moved_to}
use Rattle.ckd_slot.specs.Cache.{CacheState, IsVolume, saved, after_save, after_failed_save, after_failed_hold, slot_held}
use Rattle.ckd_drive.specs.Work.{is_idle, DriveState, passes_now}
use Rattle.ckd_track.specs.Track.{track_of}
use Rattle.ckd_drive.specs.declared.transfer.Transfer.{Transfer}
use Rattle.ckd_drive.specs.declared.transfer.Transfer.TheVariants.{Filled}
use Rattle.ckd_position.specs.Contents.{Sighted}
use Rattle.ckd_drive.specs.declared.drive.Drive.TheInside.{Inside}
use Rattle.ckd_drive.specs.Jobs.{parts_held}

pub number_below : (g : Geometry) (r : Registers) → IsAtTrack g r → track_under g r < tracks_of g
number_below g r at = below g.cylinders (heads_of g.model) r.cylinder r.head at.cylinder at.head
  where
    below : (c h x y : ℕ) → x < c → y < h → x * h + y < c * h
    below c h x y a b = (let le : (x + 1) * h ≤ c * h = mul-le-mul_right h (omega (arith, a)) in let e : (x + 1) * h ≡ x * h + h =
        rw (add-one, suc-mul) refl in omega (arith, le, e, b))

pub number_there : (d : Parts) → Stands d → own_track d.job < length d.job.cache.slots
number_there d x = rw x.volume.count (number_below d.job.cache.image.geometry d.job.registers x.arm)

pub idle_stage : (s : DriveStage) (h : HalfDone) → is_idle (work_of s h) ≡ true → s ≡ Idle
idle_stage Idle h e = refl
idle_stage _ h e = absurd cc

pub no_credit : (c : CacheState) (r : Registers) (n : ℕ) → r.credit ≡ None → CreditIs r.credit c n
no_credit c r n e = rw e tt

pub at_zero : (c : CacheState) (r : Registers) → IsVolume c → IsAtTrack c.image.geometry (moved_to r 0 0)
at_zero c r v = (let g = v.geometry in record {
  cylinder = omega (arith, g.cylinders);
  head = elim c.image.geometry.model as (λ m. 0 < heads_of m) [ D2311 ↦ omega arith | D2314 ↦ omega arith ];
})

-- The slots.

volume_saved_by : (c : CacheState) (b : Bool) → c.changed ≡ b → IsVolume c → IsVolume
    (record c { image = saved c.image c.slots b; changed = false })
volume_saved_by c true e v = record { geometry = v.geometry; count = v.count; sizes = v.sizes; clean = λ _. refl }
volume_saved_by c false e v = record { geometry = v.geometry; count = v.count; sizes = v.sizes; clean = λ _. v.clean e }

pub volume_saved : (c : CacheState) → IsVolume c → IsVolume (after_save c)
volume_saved c v = volume_saved_by c c.changed refl v

pub volume_lost : (c : CacheState) (left : List ℕ) → length left ≡ c.image.geometry.track_size → IsVolume c
    → IsVolume (after_failed_save c left)
volume_lost c left size v = record {
  geometry = v.geometry;
  count = length-set c.slots (unwrap_or c.held 0) left ∙ v.count;
  sizes = All-set (λ slot. length slot ≡ c.image.geometry.track_size) c.slots (unwrap_or c.held 0) left size v.sizes;
  clean = λ _. refl;
}

pub volume_not_held : (c : CacheState) → IsVolume c → IsVolume (after_failed_hold c)
volume_not_held c v = record { geometry = v.geometry; count = v.count; sizes = v.sizes; clean = v.clean }

pub geometry_saved : (c : CacheState) → (after_save c).image.geometry ≡ c.image.geometry
geometry_saved c = elim c.changed as (λ b. (saved c.image c.slots b).geometry ≡ c.image.geometry) [ true ↦ refl | false ↦ refl ]

pub failures_saved : (c : CacheState) → (after_save c).image.failures ≡ c.image.failures
failures_saved c = elim c.changed as (λ b. (saved c.image c.slots b).failures ≡ c.image.failures) [ true ↦ refl | false ↦ refl ]

-- Where a written track was saved.
pub saved_stands : (d : Parts) (h : HalfDone) (s : DriveStage) → Stands d → h.cache ≡ after_save d.job.cache → is_filled s h ≡ false
    → IsAtTrack d.job.cache.image.geometry h.registers → StageIs s h → Stands (parts_of h Saved s)
saved_stands d h s x e f at w = record {
  volume = rw e (volume_saved d.job.cache x.volume);
  arm = rw (e, geometry_saved d.job.cache) at;
  anchored = λ t. absurd (let no = rw e at t in cc);
  marked = rw (f, e) refl;
  work = w;
}

-- Where its saving failed: by all that a drive stands by, since four calls come here.
pub lost_stands : (d : Parts) (left : List ℕ) (h : HalfDone) (s : DriveStage)
    → Stands d → length left ≡ d.job.cache.image.geometry.track_size → h.cache ≡ after_failed_save d.job.cache left → is_filled s h ≡ false
    → h.registers.cylinder ≡ d.job.registers.cylinder → h.registers.head ≡ d.job.registers.head → StageIs s h
    → Stands (parts_of h Lost s)
lost_stands d left h s x size e f cy he w = record {
  volume = rw e (volume_lost d.job.cache left size x.volume);
  arm = record { cylinder = rw (e, cy) x.arm.cylinder; head = rw (e, he) x.arm.head };
  anchored = λ t. absurd (let no = rw e at t in cc);
  marked = rw (f, e) refl;
  work = w;
}

pub no_filled_seen : (slots : List (List ℕ)) (n : ℕ) (before : List ℕ) (p : Transfer) → is_filled_by p ≡ false
    → seen_by slots n before p ≡ slots
no_filled_seen slots n before (Filled w u) f = absurd cc
no_filled_seen slots n before _ f = refl

-- the track as the definitions see it
abbrev pub seen_track : AtWork → Transfer → Sighted
seen_track job p = track_of (slot_at (seen_by job.cache.slots (number_in job) job.before p) (number_in job))

pub goes_of : (d : Parts) → Stands d → d.stage ≡ Passing → Goes d.job
goes_of d x is = rw is at x.work

pub slot_is : (c : CacheState) (n : ℕ) (slot : List ℕ) → c.held ≡ Some n → slot ≡ slot_held c → slot ≡ slot_at c.slots n
slot_is c n slot held e = rw held at e

-- What stands in a drive's own fields.

abbrev pub parts_in : {S : Type 0} → Inside S → Parts
parts_in i = parts_held i.job i.mark i.stage

passing_stage : (s : DriveStage) (h : HalfDone) → passes_now (work_of s h) ≡ true → s ≡ Passing
passing_stage Passing h e = refl
passing_stage _ h e = absurd cc

-- the stage of a drive whose bytes pass
pub passing_in : (d : Parts) (now : DriveState) → state_of d ≡ now → passes_now now.work ≡ true → d.stage ≡ Passing
passing_in d now is e = passing_stage d.stage d.job (ap (λ (y : DriveState). passes_now y.work) is ∙ e)

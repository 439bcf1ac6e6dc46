use Rattle.std.proofs.Common.{◌≡◌, ◌∙◌, refl, ℕ, List, sym, subst, inr, arith, Some, None}
use Rattle.volume_labels.specs.declared.fields.Extent.{Extent}
use Rattle.new_labels.specs.Runs.{Space, IsFirstRun, IsApart}
use Rattle.loaded_sets.specs.declared.place_fault.PlaceFault.{PlaceFault}
use Rattle.loaded_sets.specs.Volumes.{labelled}
use Rattle.loaded_sets.specs.PlacedParts.{IsUnplaced}
use Rattle.loaded_sets.proofs.Within.{run_within, some_room}
use Rattle.loaded_sets.proofs.plans.run_for.Goals as goal

both_are : {a b : List Extent} {m n : List ℕ} → a ≡ b → m ≡ n
    → ◌≡◌ {A = Space} (record { extents = a; marks = m }) (record { extents = b; marks = n })
both_are same marks = rw (same, marks) refl

pub returns-in-Some-clause-tracks : goal.returns-in-Some-clause-tracks
returns-in-Some-clause-tracks c =
    let g = c.args.volume.now.geometry in
    let all = c.as_slice.ensures.value ∙ c.in_ok-extents.ensures.extents in
    let marks = c.as_slice-2.ensures.value ∙ c.in_ok-marks.ensures.marks in
    let both = both_are all marks in record {
      room = c.tracks_for-asked.ensures;
      few = omega arith;
      free = subst (λ (x : Space). IsFirstRun g x c.tracks_for-asked.result (Some c.in-Some.first)) both c.in-Some.ensures.first;
      apart = subst (λ (x : List Extent). IsApart g x c.tracks_for-asked.result c.in-Some.first) all c.in-Some.ensures.apart;
    }

pub returns-in-Some-clause-some : goal.returns-in-Some-clause-some
returns-in-Some-clause-some c =
    some_room c.args.volume.now.geometry.model c.args.set.now c.tracks_for-asked.result c.requires.set.some c.tracks_for-asked.ensures

pub returns-in-Some-clause-within : goal.returns-in-Some-clause-within
returns-in-Some-clause-within c =
    run_within c.args.volume.now.geometry (record { extents = c.as_slice.result.now; marks = c.as_slice-2.result.now })
    c.tracks_for-asked.result c.in-Some.first
    (some_room c.args.volume.now.geometry.model c.args.set.now c.tracks_for-asked.result c.requires.set.some c.tracks_for-asked.ensures)
    c.in-Some.ensures.first

pub returns-clause-fault : goal.returns-clause-fault
returns-clause-fault c =
    let g = c.args.volume.now.geometry in
    let all = c.as_slice.ensures.value ∙ c.in_ok-extents.ensures.extents in
    let marks = c.as_slice-2.ensures.value ∙ c.in_ok-marks.ensures.marks in
    let none = subst (λ (x : Space). IsFirstRun g x c.tracks_for-asked.result None) (both_are all marks) c.in-None.ensures.first in
    subst (λ (e : PlaceFault). IsUnplaced e (labelled c.args.volume.now) c.args.image.now.slots c.args.set.now)
    (sym c.refused-in-None.ensures)
    (c.tracks_for-asked.result, c.tracks_for-asked.ensures, inr none)

pub free_run-requires-clause-some : goal.free_run-requires-clause-some
free_run-requires-clause-some c =
    some_room c.args.volume.now.geometry.model c.args.set.now c.tracks_for-asked.result c.requires.set.some c.tracks_for-asked.ensures

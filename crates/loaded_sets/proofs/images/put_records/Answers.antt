use Rattle.std.proofs.Common.{◌∙◌, ap, sym, refl, subst, ℕ, ◌-◌, All}
use Rattle.record_tracks.specs.Records.{all_areas, RecordGoesOn}
use Rattle.loaded_sets.specs.Volumes.{labelled}
use Rattle.loaded_sets.specs.Faults.{LoadFault}
use Rattle.loaded_sets.specs.Parts.{file_blocks, IsNotSet}
use Rattle.loaded_sets.proofs.Placed.{can_be, set_is, not_set, set_of}
use Rattle.loaded_sets.proofs.images.put_records.Goals as goal

pub place_records-requires-clause-set : goal.place_records-requires-clause-set
place_records-requires-clause-set c =
    can_be c.args.volume.now.geometry.model _ (file_blocks c.args.file) (ap all_areas c.as_slice.ensures.value ∙ c.in-Ok.ensures.records)
    (subst (All (RecordGoesOn c.args.volume.now.geometry.model)) (sym c.as_slice.ensures.value)
    (c.in-Ok.ensures.fit c.args.volume.now.geometry.model c.requires.blocks))
    (ap (λ (n : ℕ). n - 1) (c.len.ensures ∙ sym c.as_slice.ensures.len))

pub returns-in-Ok-place_records-clause-set : goal.returns-in-Ok-place_records-clause-set
returns-in-Ok-place_records-clause-set c = set_is (labelled c.args.volume.now) c.args.set.now (file_blocks c.args.file) _
    (set_of c.args.set.now (file_blocks c.args.file) _ refl c.label_of.ensures
    (ap all_areas c.as_slice.ensures.value ∙ c.in-Ok.ensures.records) (ap (λ (n : ℕ). n - 1) (c.len.ensures ∙ sym c.as_slice.ensures.len)))
    c.args.image.now.slots c.requires.fits c.in-Ok-place_records.tracks
    c.place_records.new.image.slots (c.in-Ok.ensures.read c.args.volume.now.geometry.model c.requires.blocks)
    c.in-Ok-place_records.ensures.placed

pub returns-clause-fault : goal.returns-clause-fault
returns-clause-fault c =
    subst (λ (f : LoadFault). IsNotSet f (labelled c.args.volume.now) c.args.set.now (file_blocks c.args.file) c.args.image.now.slots)
    (sym c.of_placing.ensures)
    (not_set (labelled c.args.volume.now) c.args.set.now (file_blocks c.args.file) _
    (set_of c.args.set.now (file_blocks c.args.file) _ refl c.label_of.ensures
    (ap all_areas c.as_slice.ensures.value ∙ c.in-Ok.ensures.records) (ap (λ (n : ℕ). n - 1) (c.len.ensures ∙ sym c.as_slice.ensures.len)))
    c.args.image.now.slots c.requires.fits c.in-Err.fault c.in-Err.ensures.fault)

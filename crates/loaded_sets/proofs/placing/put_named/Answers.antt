use Rattle.std.proofs.Common.{◌∙◌, ap, sym, subst, All, arith}
use Rattle.record_tracks.specs.Records.{all_areas, RecordGoesOn}
use Rattle.loaded_sets.proofs.LibraryPlaced.{can_be}
use Rattle.loaded_sets.proofs.placing.put_named.Goals as goal

pub place_records-requires-clause-set : goal.place_records-requires-clause-set
place_records-requires-clause-set c =
    let model = c.args.volume.now.geometry.model in can_be model _ c.as_slice.result.now c.args.named.now.library.members.now
    (ap all_areas c.as_slice-2.ensures.value ∙ c.in-Ok-library_records.ensures.records)
    (subst (All (RecordGoesOn model)) (sym c.as_slice-2.ensures.value)
    (c.in-Ok-library_records.ensures.fit model c.requires.members))
    (omega (arith, c.len.ensures, c.as_slice-2.ensures.len))

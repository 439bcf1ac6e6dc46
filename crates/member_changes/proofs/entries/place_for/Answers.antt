use Rattle.std.proofs.Common.{◌∙◌, ap, sym, length}
use Rattle.std.proofs.lemmas.List.{length-map}
use Rattle.record_tracks.specs.Entries.{contents_of, all_contents}
use Rattle.member_changes.specs.Entries.{precedes, place_or}
use Rattle.member_changes.proofs.Positions.{position_of_map}
use Rattle.member_changes.proofs.entries.place_for.Goals as goal

pub returns-in-Some-clause-place : goal.returns-in-Some-clause-place
returns-in-Some-clause-place c =
    let entries = c.args.entries.now in
    ap (place_or (length (all_contents entries)))
    (c.in-Some.ensures.place ∙ sym (position_of_map (precedes c.args.name) contents_of entries))

pub returns-in-None-clause-place : goal.returns-in-None-clause-place
returns-in-None-clause-place c =
    let entries = c.args.entries.now in
    sym (length-map entries contents_of)
    ∙ ap (place_or (length (all_contents entries)))
    (c.in-None.ensures.place ∙ sym (position_of_map (precedes c.args.name) contents_of entries))

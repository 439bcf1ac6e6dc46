use Rattle.std.proofs.Common.{◌∙◌, sym}
use Rattle.record_tracks.specs.Entries.{contents_of}
use Rattle.member_changes.specs.Entries.{has_name}
use Rattle.member_changes.proofs.Positions.{position_of_map}
use Rattle.member_changes.proofs.entries.find_entry.Goals as goal

pub returns-clause-place : goal.returns-clause-place
returns-clause-place c = c.first_named.ensures.place ∙ sym (position_of_map (has_name c.args.name) contents_of c.args.entries.now)

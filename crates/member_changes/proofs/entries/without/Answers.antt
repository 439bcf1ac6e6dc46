use Rattle.record_tracks.specs.Entries.{contents_of}
use Rattle.member_changes.proofs.Parts.{two_parts}
use Rattle.member_changes.proofs.entries.without.Goals as goal

pub returns : goal.returns
returns c =
    two_parts contents_of c.args.entries.now c.new-others.result.items _ _ c.args.i _ c.new-others.ensures.items c.in_ok-push_all.ensures
    c.in_ok-push_all-2.ensures

use Rattle.std.proofs.Common.{◌∙◌, ◌++◌, ◌∷◌, ap, ℕ, take, drop}
use Rattle.record_tracks.specs.Entries.{contents_of, all_contents}
use Rattle.member_changes.proofs.Parts.{one_between}
use Rattle.member_changes.proofs.entries.with_entry.Goals as goal

pub returns : goal.returns
returns c =
    let entries = all_contents c.args.entries.now in
    one_between contents_of c.args.entries.now c.new-all.result.items _ _ _ (contents_of c.args.entry) c.place_for-place.result
    c.new-all.ensures.items c.in_ok-push_all.ensures c.in_ok-push.ensures c.in_ok-push_all-2.ensures
    ∙ ap (λ (n : ℕ). take n entries ++ contents_of c.args.entry ∷ drop n entries) c.place_for-place.ensures.place

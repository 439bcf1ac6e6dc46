use Rattle.std.proofs.Common.{◌∙◌, ap, refl, length, arith}
use Rattle.record_tracks.proofs.Parted.{next_size, next_own, next_others, one_more}
use Rattle.record_tracks.proofs.library_directories.new_entries.Goals as goal

pub split_at-requires : goal.split_at-requires
split_at-requires c = let p = c.args.placed in omega (
  arith,
  next_size p.model p.library.now c.args.entries.now c.loop-entry.entry-index c.loop-entry-test.true,
  ap length c.loop-entry.invariant.rest,
)

pub new_entry-requires-clause-user_data : goal.new_entry-requires-clause-user_data
new_entry-requires-clause-user_data c = let p = c.args.placed in c.split_at.ensures.front
    ∙ next_own p.model p.library.now c.args.entries.now c.loop-entry.entry-index c.loop-entry-test.true c.loop-entry.rest.now _
    c.loop-entry.invariant.rest refl

pub loop-entry-preserved : goal.loop-entry-preserved
loop-entry-preserved c =
    let p = c.args.placed in
    let k = c.loop-entry.entry-index in
    let entries = c.args.entries.now in record {
      so_far = c.in_ok-push.ensures
          ∙ one_more p.model p.library.now entries k c.loop-entry-test.true _ _ c.loop-entry.invariant.so_far c.new_entry.ensures;
      rest = c.split_at.ensures.back
          ∙ next_others p.model p.library.now entries k c.loop-entry-test.true c.loop-entry.rest.now _ c.loop-entry.invariant.rest refl;
    }

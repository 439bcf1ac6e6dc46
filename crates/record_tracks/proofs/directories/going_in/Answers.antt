use Rattle.std.proofs.Common.{◌≡◌, ◌∙◌, ap, sym, ◌+◌, ◌-◌, ◌<◌, [], length, get_or, drop, arith, length-drop}
use Rattle.std.proofs.lemmas.List.{get_or-drop}
use Rattle.record_tracks.specs.Entries.{all_contents, all_entries}
use Rattle.record_tracks.proofs.Going.{length-entries, stops, goes_on, ends, more_used}
use Rattle.record_tracks.proofs.directories.going_in.Goals as goal
use Rattle.record_tracks.proofs.directories.going_in.Goals.{After-bytes_at}

-- the next entry has the bytes that were asked for
next_length : (c : After-bytes_at)
    → length (get_or (drop c.args.from (all_entries (all_contents c.args.entries.now))) c.loop-count.count [])
    ≡ 12 + length c.bytes_at.result.user_data.now
next_length c =
    ap length (get_or-drop c.args.from (all_entries (all_contents c.args.entries.now)) c.loop-count.count []) ∙ c.bytes_at.ensures.size

next_there : (c : After-bytes_at) → c.loop-count.count < length (drop c.args.from (all_entries (all_contents c.args.entries.now)))
next_there c =
    let all = all_entries (all_contents c.args.entries.now) in omega (arith, length-drop c.args.from all, length-entries c.args.entries.now)

pub returns-then-more-gt256-clause-count : goal.returns-then-more-gt256-clause-count
returns-then-more-gt256-clause-count c =
    let before = (goal.at.returns-then-more-gt256-clause-count c).After-bytes_at in
    let left = drop c.args.from (all_entries (all_contents c.args.entries.now)) in
    stops left c.loop-count.count c.loop-count.used c.loop-count.invariant.fit (next_there before)
    (omega (arith, next_length before))

pub loop-count-preserved : goal.loop-count-preserved
loop-count-preserved c =
    let before = (goal.at.loop-count-preserved c).After-bytes_at in
    let left = drop c.args.from (all_entries (all_contents c.args.entries.now)) in
    let k = c.loop-count.count in
    let used = c.loop-count.used in
    let there = next_there before in
    let size = next_length before in
    let more : used + length (get_or left k []) ≡ used + 12 + length c.bytes_at.result.user_data.now = omega arith in record {
      few = c.if-more-gt256.false;
      used = omega (arith, more_used left k there);
      fit = cc (goes_on left k used c.loop-count.invariant.fit there (omega arith));
    }

pub returns-clause-count : goal.returns-clause-count
returns-clause-count c =
    let all = all_entries (all_contents c.args.entries.now) in
    let left = drop c.args.from all in
    let n = length-drop c.args.from all in
    let is : c.loop-count.count ≡ length c.args.entries.now + 1 - c.args.from = omega arith in
    sym is ∙ ends left c.loop-count.count c.loop-count.used c.loop-count.invariant.fit (omega (arith, length-entries c.args.entries.now))

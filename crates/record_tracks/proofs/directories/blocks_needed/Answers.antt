use Rattle.record_tracks.proofs.Fitting.{some_left}
use Rattle.std.proofs.Common.{◌≡◌, ◌+◌, ◌-◌, ◌<◌, length, drop, arith}
use Rattle.record_tracks.specs.Entries.{all_contents, all_entries}
use Rattle.record_tracks.proofs.Going.{length-entries, entries_short, all_left, some_fit, one_more, then_none}
use Rattle.record_tracks.proofs.directories.blocks_needed.Goals as goal

pub loop-next-smaller : goal.loop-next-smaller
loop-next-smaller c =
    let entries = c.args.entries.now in
    let some = some_fit (all_entries (all_contents entries)) c.loop-next.next (entries_short (all_contents entries) c.requires.each)
    (omega (arith, length-entries entries)) in
    omega arith

pub loop-next-preserved : goal.loop-next-preserved
loop-next-preserved c =
    let entries = c.args.entries.now in
    let all = all_entries (all_contents entries) in
    let next = c.loop-next.next in
    let blocks = c.loop-next.blocks in
    let there : next < length all = omega (arith, length-entries entries) in
    let count = c.going_in-next.ensures.count in record {
      within = c.going_in-next.ensures.within;
      few = omega (arith, some_fit all next (entries_short (all_contents entries) c.requires.each) there);
      left = λ n. cc (one_more all next blocks c.loop-next.invariant.left n);
      fewest = λ n is none.
          let last : blocks + 0 ≡ n = omega arith in some_left all next there (cc (all_left (drop next all), c.loop-next.invariant.left 0));
    }

pub returns-clause-blocks : goal.returns-clause-blocks
returns-clause-blocks c =
    let entries = c.args.entries.now in
    let blocks = c.loop-next.blocks in
    let none = then_none (all_entries (all_contents entries)) c.loop-next.next blocks c.loop-next.invariant.left
    (omega (arith, length-entries entries)) in
    let same : blocks ≡ blocks + 0 = omega arith in
    record { all = cc (none 0); fewest = c.loop-next.invariant.fewest }

pub returns-clause-room : goal.returns-clause-room
returns-clause-room c n many =
    let entries = c.args.entries.now in
    let blocks = c.loop-next.blocks in
    let none = then_none (all_entries (all_contents entries)) c.loop-next.next blocks c.loop-next.invariant.left
    (omega (arith, length-entries entries)) in
    let same : n ≡ blocks + (n - blocks) = omega arith in cc (none (n - blocks))

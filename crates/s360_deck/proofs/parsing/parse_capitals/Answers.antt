use Rattle.std.proofs.Common.{rules, tests, arith, ◌<◌, length}
use Rattle.s360_deck.proofs.TextLines.{next_read, faulty_read, behind_shorter, is_read_faultily}
use Rattle.s360_deck.proofs.parsing.parse_capitals.Goals as goal

pub returns-in-Err : goal.returns-in-Err
returns-in-Err c =
    is_read_faultily _ _
    (faulty_read _ _ _ _ c.loop-words.rest.now _ _ _ (record {
      some = search (rules, tests);
      first = c.split_at_line_feed.ensures.before;
      rest = c.split_at_line_feed.ensures.after;
    }) c.told_on.ensures c.in-Err.ensures c.loop-words.invariant.spelled)

pub loop-words-preserved : goal.loop-words-preserved
loop-words-preserved c =
    let some : 0 < length c.loop-words.rest.now = search (rules, tests) in
    rw c.in_ok-append-in-Ok.ensures.ok record {
      spelled = next_read _ _ _ c.loop-words.rest.now _ _ _ (record {
        some = some;
        first = c.split_at_line_feed.ensures.before;
        rest = c.split_at_line_feed.ensures.after;
      }) c.in-Ok.ensures c.loop-words.invariant.spelled;
      small = rw c.split_at_line_feed.ensures.after (omega (arith, behind_shorter c.loop-words.rest.now some));
    }

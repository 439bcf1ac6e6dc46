use Rattle.std.proofs.Common.{rules, tests, arith, ◌<◌, ◌∙◌, ap, length}
use mir.Val.{bool_byte}
use Rattle.s360_deck.specs.Deck.{appended}
use Rattle.s360_deck.proofs.TextLines.{next_read, behind_shorter, one_counted, one_at_most}
use Rattle.s360_deck.proofs.passes.count_events.Goals as goal

pub loop-words-preserved : goal.loop-words-preserved
loop-words-preserved c =
    let some : 0 < length c.loop-words.rest.now = search (rules, tests) in
    let more = c.from-count.ensures ∙ ap bool_byte c.is_some.ensures in
    let so_far = c.loop-words.invariant.spelled in
    record {
      spelled = (
        appended so_far.0 c.in-Ok.event,
        one_counted so_far.0 c.in-Ok.event _ _ so_far.1 more,
        next_read _ _ _ c.loop-words.rest.now _ _ _ (record {
          some = some;
          first = c.split_at_line_feed.ensures.before;
          rest = c.split_at_line_feed.ensures.after;
        })
            c.in-Ok.ensures so_far.2,
      );
      fewer = omega (arith, c.loop-words.invariant.fewer, one_at_most c.in-Ok.event _ more);
      small = rw c.split_at_line_feed.ensures.after (omega (arith, behind_shorter c.loop-words.rest.now some));
    }

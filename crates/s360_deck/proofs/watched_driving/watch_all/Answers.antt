use Rattle.std.proofs.Common.{rules, tests, ◌++◌, ◌∷◌, [], ap, arith, length, refl, subst}
use Rattle.s360_trace.specs.Looks.{AllWatched}
use Rattle.s360_trace.proofs.Watches.{watched_one_more}
use Rattle.s360_deck.proofs.Happened.{none_happened, one_happened, all_follow, all_spelled}
use Rattle.s360_deck.proofs.watched_driving.watch_all.Goals as goal

pub loop-event-init : goal.loop-event-init
loop-event-init g c = record {
  happened = ([], rw c.requires.none (none_happened _ _), λ m stands. rw c.requires.none (refl, refl));
  room = search (rules, tests);
}

pub loop-event-preserved : goal.loop-event-preserved
loop-event-preserved g c =
    let so_far = c.loop-event.invariant.happened in
    let next = c.in-Some.ensures.next in
    record {
      happened = (
        so_far.0 ++ c.in-Some.event ∷ [],
        rw c.push_answer.ensures.items
            (one_happened _ _ _ _ c.watch_event.result _ _ _ next so_far.0 _ so_far.1 (λ now is. c.watch_event.ensures.happens now is)
            c.watch_event.ensures.answered),
        λ m stands.
            rw c.push_answer.ensures.items
            (watched_one_more g.V.Watcher.sees _ _ _ _ _ _ (c.watch_event.ensures.watched _ (so_far.1.drove m stands).stands)
            _ _ _ _ (so_far.2 m stands)),
      );
      room = rw c.push_answer.ensures.len (omega (arith, ap length next, c.loop-event.invariant.room, c.push_answer.ensures.capacity));
    }

pub returns-clause-follows : goal.returns-clause-follows
returns-clause-follows g c =
    let so_far = c.loop-event.invariant.happened in
    all_follow _ _ so_far.0 _ _ _ so_far.1 c.in_default.ensures.none

pub returns-clause-watched : goal.returns-clause-watched
returns-clause-watched g c m stands =
    let so_far = c.loop-event.invariant.happened in
    let answers = c.loop-event.answers.items in
    subst (λ es. AllWatched g.V.Watcher.sees es answers c.args.channel.now c.loop-event.channel c.args.watcher.now c.loop-event.watcher)
    (all_spelled _ _ so_far.0 _ _ _ so_far.1 c.in_default.ensures.none) (so_far.2 m stands)

use Rattle.std.proofs.Common.{rules, tests, refl, subst, map}
use Rattle.std.proofs.lemmas.List.{take_more}
use Rattle.s360_laws.specs.Answered.{IsAnswered, AllAnswered}
use Rattle.s360_laws.specs.Seen.{event_seen, answer_seen}
use Rattle.s360_channel.proofs.AllAnswered.{all_answered_one_more}
use Rattle.s360_channel.proofs.OneMore.{Drove, Reacts, drove_none, goes_on, drove_follows, room_for_one, room_for_others, take_past}
use Rattle.s360_trace.specs.Looks.{AllWatched, IsWatched}
use Rattle.s360_trace.proofs.Watches.{watched_one_more}
use Rattle.s360_trace.proofs.watching.drive.Goals as goal

pub loop-event-init : goal.loop-event-init
loop-event-init g c = record {
  room = search (rules, tests);
  answered = search (rules, tests);
  driven = λ m stands. rw c.in_ok-answers.ensures.items (drove_none m c.args.channel.now stands);
  watched = λ m stands. rw c.in_ok-answers.ensures.items (refl, refl);
}

pub push_answer-requires : goal.push_answer-requires
push_answer-requires g c = room_for_one _ _ c.loop-event.event-index c.args.events.now c.loop-event-test.true c.loop-event.invariant.room

pub loop-event-preserved : goal.loop-event-preserved
loop-event-preserved g c = record {
  room = rw c.push_answer.ensures.len (room_for_others _ _ _ c.loop-event.event-index c.args.events.now c.loop-event-test.true
      c.loop-event.invariant.room c.push_answer.ensures.capacity);
  answered =
      rw (c.push_answer.ensures.items, take_more c.args.events.now c.loop-event.event-index c.event-item.result c.loop-event-test.true)
      (all_answered_one_more _ _ _ _ c.loop-event.invariant.answered (subst (λ e. IsAnswered e c.watch_event.result) c.event-item.is
      c.watch_event.ensures.answered));
  driven = λ m stands.
      rw c.push_answer.ensures.items
      (let drove = c.loop-event.invariant.driven m stands in
      goes_on m c.args.events.now c.loop-event.event-index c.event-item.result c.loop-event.answers.items _ _ _ c.watch_event.result
      c.loop-event-test.true
      (subst (λ e. Reacts (event_seen e) (answer_seen c.watch_event.result) c.loop-event.channel c.watch_event.new.channel)
      c.event-item.is (record {
        does = λ now is. (c.watch_event.ensures.happens now is).does;
        calls = (c.watch_event.ensures.happens _ drove.stands).calls;
      }))
      drove);
  watched = λ m stands.
      let now = (c.loop-event.invariant.driven m stands).stands in
      let new = c.watch_event.new in
      rw (c.push_answer.ensures.items, take_more c.args.events.now c.loop-event.event-index c.event-item.result c.loop-event-test.true)
      (watched_one_more g.W.Watcher.sees _ _ _ _ _ _
      (subst (λ e. IsWatched g.W.Watcher.sees e c.watch_event.result c.loop-event.channel new.channel c.loop-event.watcher new.watcher)
      c.event-item.is (c.watch_event.ensures.watched _ now))
      _ _ _ _ (c.loop-event.invariant.watched m stands));
}

pub returns-clause-follows : goal.returns-clause-follows
returns-clause-follows g c m stands =
    drove_follows m _ _ _ _ stands
    (subst (λ es. Drove m (map event_seen es) (map answer_seen c.loop-event.answers.items) c.args.channel.now c.loop-event.channel)
    (take_past c.loop-event.event-index c.args.events.now c.loop-event-test.false) (c.loop-event.invariant.driven m stands))

pub returns-clause-watched : goal.returns-clause-watched
returns-clause-watched g c m stands =
    let told = c.loop-event.answers.items in
    let all = take_past c.loop-event.event-index c.args.events.now c.loop-event-test.false in
    subst (λ es. AllWatched g.W.Watcher.sees es told c.args.channel.now c.loop-event.channel c.args.watcher.now c.loop-event.watcher)
    all (c.loop-event.invariant.watched m stands)

pub returns-clause-answered : goal.returns-clause-answered
returns-clause-answered g c =
    subst (λ es. AllAnswered es c.loop-event.answers.items) (take_past c.loop-event.event-index c.args.events.now c.loop-event-test.false)
    c.loop-event.invariant.answered

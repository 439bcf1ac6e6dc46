use Rattle.std.proofs.Common.{rules, tests, subst, map}
use Rattle.std.proofs.lemmas.List.{take_more}
use Rattle.s360_laws.specs.Answered.{IsAnswered, AllAnswered}
use Rattle.s360_laws.specs.Seen.{event_seen, answer_seen}
use Rattle.s360_channel.proofs.AllAnswered.{all_answered_one_more}
use Rattle.s360_channel.proofs.OneMore.{Drove, Reacts, drove_none, goes_on, drove_follows, room_for_one, room_for_others, take_past}
use Rattle.s360_channel.proofs.driving.drive.Goals as goal

pub loop-event-init : goal.loop-event-init
loop-event-init g c = record {
  room = search (rules, tests);
  answered = search (rules, tests);
  driven = λ m stands. rw c.in_ok-answers.ensures.items (drove_none m c.args.channel.now stands);
}

pub push_answer-requires : goal.push_answer-requires
push_answer-requires g c = room_for_one _ _ c.loop-event.event-index c.args.events.now c.loop-event-test.true c.loop-event.invariant.room

pub loop-event-preserved : goal.loop-event-preserved
loop-event-preserved g c = record {
  room = rw c.push_answer.ensures.len (room_for_others _ _ _ c.loop-event.event-index c.args.events.now c.loop-event-test.true
      c.loop-event.invariant.room c.push_answer.ensures.capacity);
  answered =
      rw (c.push_answer.ensures.items, take_more c.args.events.now c.loop-event.event-index c.event-item.result c.loop-event-test.true)
      (all_answered_one_more _ _ _ _ c.loop-event.invariant.answered
      (subst (λ e. IsAnswered e c.react.result) c.event-item.is c.react.ensures.answered));
  driven = λ m stands.
      rw c.push_answer.ensures.items
      (goes_on m c.args.events.now c.loop-event.event-index c.event-item.result c.loop-event.answers.items _ _ _ c.react.result
      c.loop-event-test.true
      (subst (λ e. Reacts (event_seen e) (answer_seen c.react.result) c.loop-event.channel c.react.new.self) c.event-item.is
      (record { does = c.react.ensures.does; calls = c.react.ensures.calls }))
      (c.loop-event.invariant.driven m stands));
}

pub returns-clause-follows : goal.returns-clause-follows
returns-clause-follows g c m stands =
    drove_follows m _ _ _ _ stands
    (subst (λ es. Drove m (map event_seen es) (map answer_seen c.loop-event.answers.items) c.args.channel.now c.loop-event.channel)
    (take_past c.loop-event.event-index c.args.events.now c.loop-event-test.false) (c.loop-event.invariant.driven m stands))

pub returns-clause-answered : goal.returns-clause-answered
returns-clause-answered g c =
    subst (λ es. AllAnswered es c.loop-event.answers.items) (take_past c.loop-event.event-index c.args.events.now c.loop-event-test.false)
    c.loop-event.invariant.answered

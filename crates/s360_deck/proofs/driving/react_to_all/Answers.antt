use Rattle.std.proofs.Common.{◌++◌, ◌∷◌, [], ap, arith, length}
use Rattle.s360_deck.proofs.Happened.{one_happened, all_follow}
use Rattle.s360_deck.proofs.driving.react_to_all.Goals as goal

pub loop-event-preserved : goal.loop-event-preserved
loop-event-preserved g c =
    let so_far = c.loop-event.invariant.happened in
    let next = c.in-Some.ensures.next in
    record {
      happened = (
        so_far.0 ++ c.in-Some.event ∷ [],
        rw c.push_answer.ensures.items
            (one_happened _ _ _ _ c.react.result _ _ _ next so_far.0 _ so_far.1
            (λ now is. record { does = c.react.ensures.does now is; calls = c.react.ensures.calls }) c.react.ensures.answered),
      );
      room = rw c.push_answer.ensures.len (omega (arith, ap length next, c.loop-event.invariant.room, c.push_answer.ensures.capacity));
    }

pub returns-clause-follows : goal.returns-clause-follows
returns-clause-follows g c =
    let so_far = c.loop-event.invariant.happened in
    all_follow _ _ so_far.0 _ _ _ so_far.1 c.in_default.ensures.none

use Rattle.std.proofs.Common.{arith}
use Rattle.s360_deck.proofs.TextLines.{is_counted_deck}
use Rattle.s360_deck.proofs.driving.check_deck.Goals as goal

pub returns-in-Ok-with_capacity-clause-deck : goal.returns-in-Ok-with_capacity-clause-deck
returns-in-Ok-with_capacity-clause-deck c =
    (is_counted_deck _ _ _ _ c.as_slice.ensures.value c.in-Ok.ensures.ok c.in_ok-count.ensures).0

pub returns-in-Ok-with_capacity-clause-room : goal.returns-in-Ok-with_capacity-clause-room
returns-in-Ok-with_capacity-clause-room c =
    let deck = is_counted_deck _ _ _ _ c.as_slice.ensures.value c.in-Ok.ensures.ok c.in_ok-count.ensures in
    omega (arith, deck.1, c.in-Ok-with_capacity.ensures.capacity)

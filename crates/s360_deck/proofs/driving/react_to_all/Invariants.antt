use Rattle.std.proofs.Common.{◌+◌, ◌≤◌, List, length, vec_len, vec_capacity}
use Rattle.s360_laws.specs.declared.events.Event.{Event}
use Rattle.s360_deck.proofs.Happened.{Happened, spelled_by}
use Rattle.s360_deck.proofs.driving.react_to_all.Given as goal

-- the events so far have happened, and there is room for the answers to the others
abbrev pub invariant-loop-event : goal.invariant-loop-event
invariant-loop-event g l = record {
  happened : (events : List Event) × Happened l.text l.rest events l.answers.items l.initial.channel l.channel;
  room : vec_len l.answers + length (spelled_by l.rest) ≤ vec_capacity l.answers;
}

abbrev pub decreases-loop-event : goal.decreases-loop-event
decreases-loop-event g l = length l.rest

use Rattle.std.proofs.Common.{◌+◌, ◌≤◌, map, take, drop, length, vec_len, vec_capacity}
use Rattle.s360_laws.specs.Machine.{Machine}
use Rattle.s360_laws.specs.Answered.{AllAnswered}
use Rattle.s360_laws.specs.Seen.{event_seen, answer_seen}
use Rattle.s360_channel.specs.Channel.{StandsFor}
use Rattle.s360_channel.proofs.OneMore.{Drove}
use Rattle.s360_channel.proofs.driving.drive.Given as goal

-- the events so far have happened, and there is room for the answers to the others
abbrev pub invariant-loop-event : goal.invariant-loop-event
invariant-loop-event g l = record {
  room : vec_len l.answers + length (drop l.event-index l.events) ≤ vec_capacity l.answers;
  answered : AllAnswered (take l.event-index l.events) l.answers.items;
  driven : (m : Machine) → StandsFor l.initial.channel m
      → Drove m (map event_seen (take l.event-index l.events)) (map answer_seen l.answers.items) l.initial.channel l.channel;
}

use Rattle.std.proofs.Common.{◌≡◌, drop, length}
use Rattle.s360_disassembler.proofs.events.are_same.Given as goal

-- where the events from here on are the same, all are
abbrev pub invariant-loop-event : goal.invariant-loop-event
invariant-loop-event l = record {
  counted : l.at ≡ l.event-index;
  same : drop l.event-index l.some ≡ drop l.event-index l.others → l.some ≡ l.others;
}

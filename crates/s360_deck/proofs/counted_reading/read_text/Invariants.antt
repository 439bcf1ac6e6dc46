use Rattle.std.proofs.Common.{◌≤◌, length}
use Rattle.counted_io.specs.Streams.{seen_by, Gives, NoneFailed}
use Rattle.s360_deck.proofs.counted_reading.read_text.Given as goal

-- what was read so far is the text so far, each read gave a byte or more, and none failed
abbrev pub invariant-loop : goal.invariant-loop
invariant-loop g l = record {
  given : Gives (seen_by g.R.Read.remaining l.initial.reader) (seen_by g.R.Read.remaining l.reader) l.text.items;
  size : length l.text.items ≤ 1048576;
  sound : NoneFailed (seen_by g.R.Read.remaining l.initial.reader) (seen_by g.R.Read.remaining l.reader);
  reads : l.counter ≤ length l.text.items;
}

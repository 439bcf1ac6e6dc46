use Rattle.std.proofs.Common.{take}
use Rattle.counted_io.specs.Streams.{seen_by, Takes, NoneFailed}
use Rattle.s360_deck.specs.Lines.{lines_text}
use Rattle.s360_deck.proofs.counted_writing.write_counted.Given as goal

-- the lines so far are written, and no call failed
abbrev pub invariant-loop-answer : goal.invariant-loop-answer
invariant-loop-answer g l = record {
  taken : Takes (seen_by g.W.Write.contents l.initial.writer) (seen_by g.W.Write.contents l.writer)
      (lines_text (take l.answer-index l.answers));
  sound : NoneFailed (seen_by g.W.Write.contents l.initial.writer) (seen_by g.W.Write.contents l.writer);
}

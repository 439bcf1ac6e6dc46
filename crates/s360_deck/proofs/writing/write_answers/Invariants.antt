use Rattle.std.proofs.Common.{take}
use Rattle.std.specs.Io.KnownBytes.{Appends}
use Rattle.s360_deck.specs.Lines.{lines_text}
use Rattle.s360_deck.proofs.writing.write_answers.Given as goal

-- the lines so far are written
abbrev pub invariant-loop-answer : goal.invariant-loop-answer
invariant-loop-answer g l = Appends (g.W.Write.contents l.initial.writer) (g.W.Write.contents l.writer)
    (lines_text (take l.answer-index l.answers))

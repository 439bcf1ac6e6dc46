use Rattle.std.specs.Fmt.{with_newline}
use Rattle.trace_words.proofs.Written.{text_behind, known_of_ok}
use Rattle.trace_words.proofs.text.Text.line.Goals as goal

pub returns-else-is_err : goal.returns-else-is_err
returns-else-is_err g c = λ whole. record {
  was_whole = whole;
  text = text_behind _ (λ t. t.bytes) (λ w bs v e. e) (with_newline (g.T.Display.output c.args.value.now)) _ _
      (known_of_ok c.writeln.result c.if-is_err.ensures.value c.writeln.ensures.writes);
}

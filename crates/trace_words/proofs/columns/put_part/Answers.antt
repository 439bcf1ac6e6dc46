use Rattle.std.proofs.Common.{◌≡◌, ◌∙◌, ap, ◌++◌}
use Rattle.std.proofs.Output.{if_some_weaken}
use Rattle.trace_words.specs.Columns.{in_column}
use Rattle.trace_words.proofs.Written.{text_behind, known_of_text}
use Rattle.trace_words.proofs.columns.put_part.Goals as goal

pub returns : goal.returns
returns g c =
    known_of_text c.put_text.result (g.T.Display.output c.args.part.now) c.as_str.result.now
    (λ text. c.put_text.new.row.bytes ≡ in_column c.args.column text c.args.row.now.bytes)
    c.put_text.ensures
    (if_some_weaken (g.T.Display.output c.args.part.now) _ _
    (λ bs is. c.as_str.ensures.value ∙ is ∙ ap (λ l. l ++ bs) c.new-text.ensures)
    (text_behind _ (λ t. t.bytes) (λ w bs v e. e) (g.T.Display.output c.args.part.now) _ _ (c.in_ok-write.ensures.writes)))

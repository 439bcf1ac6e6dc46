use Rattle.std.proofs.Common.{◌∙◌, ap, ◌++◌, length, replicate}
use Rattle.trace_words.proofs.Blanks.{blanks_are}
use Rattle.trace_words.proofs.columns.put_blanks.Goals as goal

pub returns : goal.returns
returns c =
    c.loop.invariant.blanks
    ∙ ap (λ n. c.args.row.now.bytes ++ replicate n 32) (blanks_are (length c.args.row.now.bytes) c.args.column c.loop.counter
    c.loop.invariant.some c.loop-test.false c.loop.invariant.few)

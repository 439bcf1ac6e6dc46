use Rattle.std.proofs.lemmas.Result.{err_from_is_err_and}
use Rattle.s360_deck.proofs.Ran.{is_faulty, same_stays, has_run, spelled_as}
use Rattle.s360_deck.proofs.runs.run.Goals as goal

pub returns-in_err-events-clause-runs : goal.returns-in_err-events-clause-runs
returns-in_err-events-clause-runs g c =
    let p = err_from_is_err_and c.from_residual-in_err-events.result c.from_residual-in_err-events.ensures.1 in
    rw (p.1, p.2) (is_faulty c.in_err-events.field-0.0 (g.R.Read.remaining c.args.reader.now) (g.R.Read.remaining c.read_deck.new.reader)
    c.args.channel.now c.args.channel.now (g.W.Write.contents c.args.writer.now) (g.W.Write.contents c.args.writer.now)
    c.in_ok-text.text.items c.as_slice.result.now c.as_slice.ensures.value c.in_ok-text.ensures.ok c.in_err-events.ensures)

pub returns-in_err-events-clause-no_event : goal.returns-in_err-events-clause-no_event
returns-in_err-events-clause-no_event g c = same_stays c.from_residual-in_err-events.result c.args.channel.now

pub returns-in_err-events-clause-nothing_written : goal.returns-in_err-events-clause-nothing_written
returns-in_err-events-clause-nothing_written g c = same_stays c.from_residual-in_err-events.result c.args.writer.now

pub returns-clause-runs : goal.returns-clause-runs
returns-clause-runs g c =
    has_run c.write_answers.result _ _ _ _ _ _ c.as_slice-2.result.now c.in-Ok.answers.items
    (record {
      text = c.in_ok-text.text.items;
      is_read = c.in_ok-text.ensures.ok;
      are_these = spelled_as _ _ _ _ c.as_slice.ensures.value c.as_slice-2.ensures.value c.in_ok-events.ensures;
    })
    (record { answered = c.in-Ok.ensures.answered; follows = c.in-Ok.ensures.follows })
    (rw c.as_slice-3.ensures.value at c.write_answers.ensures)

use Rattle.std.proofs.Common.{arith}
use Rattle.counted_io.specs.Streams.{seen_by}
use Rattle.s360_deck.specs.declared.runs.RunFault.TheVariants.{Deck}
use Rattle.s360_deck.proofs.CountedRan.{is_faulty}
use Rattle.s360_deck.proofs.watched_runs.run_text_watched.Goals as goal

pub returns-in-Err-clause-runs : goal.returns-in-Err-clause-runs
returns-in-Err-clause-runs g c =
    let written = seen_by g.W.Write.contents c.args.writer.now in
    is_faulty (Deck c.in-Err.fault) c.args.channel.now c.drive_text_watched.new.channel written written c.args.text.now (omega arith)
    c.in-Err.ensures.faulty

use Rattle.counted_io.specs.Streams.{seen_by}
use Rattle.s360_deck.proofs.CountedRan.{is_unread, is_read_whole}
use Rattle.s360_deck.proofs.counted_runs.run_counted.Goals as goal

use Rattle.std.proofs.Common.{rules}
use Rattle.std.proofs.Output.{has_written_of_eq}
use Rattle.trace_words.proofs.Formats.{padded_count}
use Rattle.trace_words.proofs.line.CountDisplay.fmt.Goals as goal

pub returns-clause-writes : goal.returns-clause-writes
returns-clause-writes g c plain ok = has_written_of_eq _ _ _ _ _ (padded_count c.args.self.now.0) (search rules)

use Rattle.std.proofs.Common.{rules, tests, ◌+◌}
use Rattle.std.proofs.Output.{has_written_of_eq}
use Rattle.dasd_contents.proofs.Spelled.{year_and_day}
use Rattle.dasd_contents.proofs.words.DayDisplay.fmt.Goals as goal

pub returns-clause-writes : goal.returns-clause-writes
returns-clause-writes g c plain ok = has_written_of_eq _ _ _ _ _ (year_and_day c.args.self.now.wide c.args.self.now.date
    (1900 + c.from.result) (search (rules, tests)) (search rules)) (search rules)

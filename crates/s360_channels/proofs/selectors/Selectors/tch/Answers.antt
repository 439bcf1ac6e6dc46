use Rattle.std.proofs.Common.{◌/◌}
use Rattle.s360_laws.specs.Seen.{answer_seen}
use Rattle.s360_laws.specs.declared.answers.Answer.TheVariants as answer
use Rattle.s360_channels.specs.Asked.{TestsAt}
use Rattle.s360_channels.proofs.Fitting.{shown}
use Rattle.s360_channels.proofs.selectors.Selectors.tch.Goals as goal

pub returns-in-Some : goal.returns-in-Some
returns-in-Some g c = λ s. shown (TestsAt (answer_seen (answer.Tch c.tch.result)) s) (c.args.address / 256) c.args.self.now s _
    c.in-Some.ensures (c.tch.ensures s)

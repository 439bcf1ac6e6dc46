use Rattle.std.proofs.Common.{ap, subst, ◌∙◌, arith}
use Rattle.journal_text.specs.Spelling.{said_by}
use Rattle.journal_text.specs.Reading.{Gives, journal_at}
use Rattle.journal_text.proofs.Laws.{is_found, journal_again}
use Rattle.journal_text.proofs.reading.read_journal.Goals as goal

pub returns-clause-found : goal.returns-clause-found
returns-clause-found c = is_found c.args.text.now c.whole.result (λ i. omega (arith, c.type_inv.text i)) c.whole.ensures

pub returns-clause-only : goal.returns-clause-only
returns-clause-only c = λ s fits e. subst (λ f. Gives said_by c.whole.result f) (ap journal_at e ∙ journal_again s fits) c.whole.ensures

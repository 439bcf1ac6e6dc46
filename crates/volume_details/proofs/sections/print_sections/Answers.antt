use Rattle.std.proofs.Common.{subst}
use Rattle.counted_io.specs.Streams.{Takes, TakesFront}
use Rattle.volume_details.proofs.Sectioned.{first_lines}
use Rattle.volume_details.proofs.sections.print_sections.Goals as goal

pub returns-in-Ok-clause-lines : goal.returns-in-Ok-clause-lines
returns-in-Ok-clause-lines g c = λ slots known.
    let lines = rw (c.as_slice-blocks.ensures.value) at c.in_default.ensures.lines in
    subst (Takes _ _) (first_lines _ _ _ c.new-report.ensures.text (lines slots known)) c.in-Ok.ensures.text

pub returns-clause-lines : goal.returns-clause-lines
returns-clause-lines g c = λ slots known.
    let lines = rw (c.as_slice-blocks.ensures.value) at c.in_default.ensures.lines in
    subst (TakesFront _ _) (first_lines _ _ _ c.new-report.ensures.text (lines slots known)) c.in-Err-print_report.ensures.front

use Rattle.s360_assembler.specs.Fields.{is_printing}
use Rattle.s360_assembler.proofs.Positions.{at_some, at_none}
use Rattle.s360_assembler.proofs.fields.gap_length.Goals as goal

pub returns-in-Some-clause-value : goal.returns-in-Some-clause-value
returns-in-Some-clause-value c = at_some is_printing c.args.text.now _ c.in-Some.ensures

pub returns-in-None-clause-value : goal.returns-in-None-clause-value
returns-in-None-clause-value c = at_none is_printing c.args.text.now c.in-None.ensures

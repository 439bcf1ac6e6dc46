use Rattle.dasd_extract.proofs.Characters.{is_found}
use Rattle.dasd_extract.proofs.names.byte_of.Goals as goal

pub returns-clause-exact : goal.returns-clause-exact
returns-clause-exact c =
    absurd (is_found c.args.wanted c.loop-number.number c.if-wanted-ge128.false c.loop-number-test.false c.loop-number.invariant)

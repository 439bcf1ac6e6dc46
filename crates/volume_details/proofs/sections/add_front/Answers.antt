use Rattle.volume_details.specs.Long.{described_by}
use Rattle.volume_details.specs.Sections.{shown_by}
use Rattle.volume_details.proofs.Sectioned.{name_alone, name_and_long}
use Rattle.volume_details.proofs.sections.add_front.Goals as goal

pub returns-then-not-view-clause-lines : goal.returns-then-not-view-clause-lines
returns-then-not-view-clause-lines c =
    name_alone (shown_by c.args.view) (described_by c.args.described) _ _ c.args.report.now c.if-not-view.true c.in_default.ensures.lines

pub returns-clause-lines : goal.returns-clause-lines
returns-clause-lines c =
    name_and_long (shown_by c.args.view) (described_by c.args.described) _ _ _ c.add_long.result c.if-not-view.false
    c.in_default.ensures.lines c.add_long.ensures.lines

use Rattle.std.proofs.Common.{◌∙◌, sym}
use Rattle.volume_details.specs.Long.{described_by}
use Rattle.volume_details.specs.Sections.{shown_by}
use Rattle.volume_details.proofs.Sectioned.{not_shown, without_members, with_members}
use Rattle.volume_details.proofs.sections.add_set.Goals as goal

pub returns-then-not-is_shown-clause-lines : goal.returns-then-not-is_shown-clause-lines
returns-then-not-is_shown-clause-lines g c =
    rw (← c.lists_members-has_members.ensures)
    (not_shown (shown_by c.args.view) (described_by c.args.described) c.args.report.now c.args.report.now c.args.report.now
    (g.V.SlotReader.volume c.args.volume.now) _ (sym c.is_shown.ensures ∙ c.if-not-is_shown.true))

pub returns-then-not-has_members-clause-lines : goal.returns-then-not-has_members-clause-lines
returns-then-not-has_members-clause-lines g c =
    rw (← c.lists_members-has_members.ensures)
    (without_members (shown_by c.args.view) (described_by c.args.described) _ _ c.args.report.now
    (g.V.SlotReader.volume c.args.volume.now) _ (sym c.is_shown.ensures ∙ c.if-not-is_shown.false)
    c.if-not-has_members.true c.in_default.ensures.lines)

pub returns-clause-lines : goal.returns-clause-lines
returns-clause-lines g c =
    let members = rw (c.as_slice-extents.ensures.value) at c.list_members.ensures.lines in
    rw (← c.lists_members-has_members.ensures)
    (with_members (shown_by c.args.view) (described_by c.args.described) _ _ _ (g.V.SlotReader.volume c.args.volume.now) _
    c.list_members.result (sym c.is_shown.ensures ∙ c.if-not-is_shown.false) c.if-not-has_members.false c.in_default.ensures.lines members)

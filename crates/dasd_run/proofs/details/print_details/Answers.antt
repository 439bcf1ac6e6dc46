use Rattle.std.proofs.Common.{refl, length}
use Rattle.std.specs.Option.{option_copied}
use Rattle.std.proofs.lemmas.Result.{err_from_is_err_and}
use Rattle.volume_details.specs.Sections.{shown_by}
use Rattle.dasd_run.specs.Ended.{counted_ending}
use Rattle.dasd_run.proofs.Held.{all_held, some_held}
use Rattle.dasd_run.proofs.Sectioned.{none_detailed, table_begun, all_detailed, sections_begun}
use Rattle.dasd_run.proofs.details.print_details.Goals as goal

pub returns-in_err-contents : goal.returns-in_err-contents
returns-in_err-contents g c =
    let p = err_from_is_err_and c.from_residual.result c.from_residual.ensures.1 in
    rw (p.1, p.2)
    (none_detailed (shown_by c.args.view) (g.V.SlotReader.volume c.args.volume.now) c.in_err-contents.field-0.0 _
    c.in_err-contents.ensures.fault)

pub returns-in_err-write_contents : goal.returns-in_err-write_contents
returns-in_err-write_contents g c =
    let v = g.V.SlotReader.volume c.args.volume.now in
    let read = c.in_ok-contents in
    let w = c.in_err-write_contents.ensures in
    let p = err_from_is_err_and c.from_residual-in_err-write_contents.result c.from_residual-in_err-write_contents.ensures.1 in
    rw (p.1, p.2)
    (table_begun (shown_by c.args.view) v _ _ _
    (some_held (option_copied c.args.view.json) v read.contents read.ensures.says _ _ c.in_err-write_contents.field-0.0
    (rw c.geometry-geometry.ensures.geometry at w.front) w.writes))

pub returns-in_err-is_wrong : goal.returns-in_err-is_wrong
returns-in_err-is_wrong g c =
    let v = g.V.SlotReader.volume c.args.volume.now in
    let read = c.in_ok-contents in
    let w = c.in_ok-write_contents.ensures in
    let s = c.in_err-is_wrong.ensures in
    let p = err_from_is_err_and c.from_residual-in_err-is_wrong.result c.from_residual-in_err-is_wrong.ensures.1 in
    rw (p.1, p.2)
    (sections_begun (shown_by c.args.view) v read.contents read.ensures.says _ _ _ _
    (all_held (option_copied c.args.view.json) v read.contents read.ensures.says _ _
    (counted_ending (length read.contents.found.findings.items)) refl
    (rw c.geometry-geometry.ensures.geometry at w.text) w.writes w.flushed)
    c.in_err-is_wrong.field-0.0 (rw (read.ensures.kept) at s.lines) s.writes)

pub returns : goal.returns
returns g c =
    let v = g.V.SlotReader.volume c.args.volume.now in
    let read = c.in_ok-contents in
    let w = c.in_ok-write_contents.ensures in
    let s = c.in_ok-is_wrong.ensures in
    let table = all_held (option_copied c.args.view.json) v read.contents read.ensures.says _ _ _
    c.held_ending.ensures (rw c.geometry-geometry.ensures.geometry at w.text) w.writes w.flushed in
    rw c.worse.ensures
    (all_detailed (shown_by c.args.view) v read.contents read.ensures.says _ _ _ _ table _
    (rw (read.ensures.kept) at s.lines) (rw (read.ensures.kept) at s.wrong) s.writes s.flushed)

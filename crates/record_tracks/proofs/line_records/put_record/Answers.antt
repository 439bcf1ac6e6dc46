use Rattle.std.proofs.Common.{arith, ◌+◌}
use Rattle.record_tracks.proofs.Joined.{not_utf8, is_too_long, is_filled}
use Rattle.record_tracks.proofs.line_records.put_record.Goals as goal

pub returns-in_default : goal.returns-in_default
returns-in_default c = not_utf8 c.args.size c.args.line.now c.in_default.ensures.cases.0

pub returns-then-len-start : goal.returns-then-len-start
returns-then-len-start c =
    is_too_long c.args.size c.args.line.now c.in-Ok.text.now c.args.records.now.items c.put_characters.new.records.items
    c.in-Ok.ensures.cases.1 c.in-Ok.ensures.cases.0 (rw c.if-not-branch.false at c.in_ok-put_characters.ensures)
    (omega (arith, c.args.records.now.ok.0, c.put_characters.new.records.ok.0))

pub overflow_add-start : goal.overflow_add-start
overflow_add-start c =
    omega (arith, c.len-start.ensures, c.args.records.now.ok.1, c.args.records.now.small, c.from-size.ensures, c.ranges.size.fits)

pub returns : goal.returns
returns c =
    is_filled c.args.size c.args.line.now c.in-Ok.text.now c.args.records.now.items c.put_characters.new.records.items
    c.in-Ok.ensures.cases.1 c.in-Ok.ensures.cases.0 (rw c.if-not-branch.false at c.in_ok-put_characters.ensures)
    c.resize.new.self.items (c.len-start.result + c.from-size.result)
    (omega (arith, c.args.records.now.ok.0, c.put_characters.new.records.ok.0))
    (omega (arith, c.args.records.now.ok.0))
    (cc (c.in_ok-resize.ensures.items, c.put_characters.new.records.ok.0))

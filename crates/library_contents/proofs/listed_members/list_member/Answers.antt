use Rattle.std.proofs.Common.{◌∙◌}
use Rattle.library_contents.specs.Lines.{shown}
use Rattle.library_contents.proofs.Added.{measured}
use Rattle.library_contents.proofs.listed_members.list_member.Goals as goal

pub returns-clause-lines : goal.returns-clause-lines
returns-clause-lines g c =
    let w = c.member_of-wanted.ensures in
    let read = rw (w.form, w.extents, w.start, w.tracks) at c.in-Ok.ensures.blocks in
    let line = rw (c.as_slice-bytes.ensures.value) at c.in_default-add_member.ensures.lines in
    measured (shown c.args.library.form) c.args.member.entry c.args.member.user.now (g.V.SlotReader.volume c.args.volume.now) _ _
    read _ _ _ _ _
    (c.as_str.ensures.value ∙ c.in-Ok-safe_name.ensures)
    line (rw (c.as_str-2.ensures.value, ← c.as_str.ensures.value) at c.add_end.ensures.lines)

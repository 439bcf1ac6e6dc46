use Rattle.library_contents.specs.Lines.{shown}
use Rattle.library_contents.proofs.Added.{listed}
use Rattle.library_contents.proofs.listed_members.list_members.Goals as goal

pub returns-clause-lines : goal.returns-clause-lines
returns-clause-lines g c =
    let d = c.directory_of.ensures in
    let read = rw (d.form, d.extents, d.start, d.tracks) at c.in-Ok.ensures.blocks in
    let entries = rw (c.in-Ok.ensures.volume.0, c.as_slice-bytes.ensures.value) at c.in_default-list_entries.ensures.lines in
    listed (g.V.SlotReader.volume c.args.volume.now) (shown c.args.library.form) c.args.library.extents.now _ read c.add_end.result _ _ _ _
    c.in_default.ensures.lines entries c.add_end.ensures.lines

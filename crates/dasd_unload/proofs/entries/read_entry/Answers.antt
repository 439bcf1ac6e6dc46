use Rattle.std.proofs.Common.{◌∙◌, ◌*◌}
use Rattle.std.proofs.lemmas.List.{take_rest}
use Rattle.dasd_unload.proofs.Described.{without_notes, with_notes}
use Rattle.dasd_unload.proofs.entries.read_entry.Goals as goal

pub returns-then-count-eq0-clause-form : goal.returns-then-count-eq0-clause-form
returns-then-count-eq0-clause-form g c = λ slots known. rw (c.member_named-member.ensures, c.new.ensures) at c.entry_form.ensures
    ∙ without_notes c.args.library.extents.now c.args.library.entries.now c.args.entry c.args.user.now _ slots _
    c.note_count-count.ensures.value c.if-count-eq0.true

pub returns-clause-form : goal.returns-clause-form
returns-clause-form g c = λ slots known.
    let notes = rw (c.read_keyed.ensures.kept, c.as_slice.ensures.value) at c.in_ok-notes.ensures.notes in
    let written = rw c.member_named-member.ensures at c.entry_form-2.ensures in
    rw (take_rest c.args.user.now (c.note_count-count.result * 4)) at written
    ∙ with_notes c.args.library.extents.now c.args.library.entries.now c.args.entry c.args.user.now _ slots c.note_count-count.result
    c.in_ok-blocks.blocks.items c.in_ok-notes.notes.items c.note_count-count.ensures.value (c.in_ok-blocks.ensures.bytes slots known)
    (notes slots known)

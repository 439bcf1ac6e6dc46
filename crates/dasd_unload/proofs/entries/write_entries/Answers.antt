use Rattle.std.proofs.Common.{ℕ, ◌∙◌, List, sym}
use Rattle.volume_labels.specs.declared.directories.DirectoryEntry.{DirectoryEntry}
use Rattle.set_forms.specs.declared.forms.FormLine.TheVariants.{Entry}
use Rattle.dasd_unload.specs.Described.{entry_in, user_data}
use Rattle.dasd_unload.proofs.Described.{this_step, last_step, at_end, one_form_more, none_left}
use Rattle.dasd_unload.proofs.entries.write_entries.Goals as goal
use Rattle.dasd_unload.proofs.entries.write_entries.Goals.{in-Entry+in_ok-form-in-Entry+in_ok-push-in-Entry, in-Skip}

pub loop-preserved : goal.loop-preserved
loop-preserved g c =
    let v = g.V.SlotReader.volume c.args.volume.now in
    let bytes = c.args.library.bytes.now in
    let form = λ (slots : List (List ℕ)) (e : DirectoryEntry) (next : ℕ).
    Entry (entry_in c.args.library.extents.now c.args.library.entries.now e (user_data bytes e next) v.geometry slots) in
    elim c.match-directory_step.branch [
      | in-Entry+in_ok-form-in-Entry+in_ok-push-in-Entry w ↦ record {
        text = λ slots known.
            let step = this_step (form slots) bytes c.loop.counter c.loop.at _ (sym c.directory_step.ensures
            ∙ w.in-Entry.is) c.loop-test.true in
            let read = rw (c.loop.invariant.kept, w.user_data-user.ensures.value) at w.in_ok-form-in-Entry.ensures.form in
            rw (w.text-is, w.at-is)
            (one_form_more _ _ _ _ _ (rw (read slots known) at w.in_ok-push-in-Entry.ensures.text) (rw step at
            (c.loop.invariant.text slots known)));
        kept = rw w.volume-is (w.read_entry.ensures.kept ∙ c.loop.invariant.kept);
      }
      | in-Skip w ↦ record {
        text = λ slots known.
            let step = this_step (form slots) bytes c.loop.counter c.loop.at _ (sym c.directory_step.ensures
            ∙ w.in-Skip.is) c.loop-test.true in
            rw (w.text-is, w.at-is) (rw step at (c.loop.invariant.text slots known));
        kept = rw w.volume-is c.loop.invariant.kept;
      }
    ]

pub returns-in-End-clause-text : goal.returns-in-End-clause-text
returns-in-End-clause-text g c = λ slots known.
    let v = g.V.SlotReader.volume c.args.volume.now in
    let bytes = c.args.library.bytes.now in
    let form = λ (e : DirectoryEntry) (next : ℕ).
    Entry (entry_in c.args.library.extents.now c.args.library.entries.now e (user_data bytes e next) v.geometry slots) in
    none_left _ _ _ (this_step form bytes c.loop.counter c.loop.at _ (sym c.directory_step.ensures) c.loop-test.true
    ∙ at_end form bytes _ c.in-End.is _) (c.loop.invariant.text slots known)

pub returns-clause-text : goal.returns-clause-text
returns-clause-text g c = λ slots known.
    let v = g.V.SlotReader.volume c.args.volume.now in
    let bytes = c.args.library.bytes.now in
    let form = λ (e : DirectoryEntry) (next : ℕ).
    Entry (entry_in c.args.library.extents.now c.args.library.entries.now e (user_data bytes e next) v.geometry slots) in
    none_left _ _ _ (last_step form bytes c.loop.counter c.loop.at c.loop-test.false) (c.loop.invariant.text slots known)

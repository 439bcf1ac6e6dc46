use Rattle.std.proofs.Common.{◌∙◌, ◌++◌, ap, sym, refl, None, arith}
use Rattle.std.proofs.lemmas.List.{get_or-set_other}
use Rattle.dasd_jobs.specs.Written.{files_of}
use Rattle.dasd_run.proofs.Saving.{none_yet, none_there, saved_there, none_left}
use Rattle.dasd_run.proofs.saves.save_all.Goals.{in-Some+in-Ok, in_default}
use Rattle.dasd_run.proofs.saves.save_all.Goals as goal

-- all new files are put there
pub returns-in-Ok-put_all-clause-saves : goal.returns-in-Ok-put_all-clause-saves
returns-in-Ok-put_all-clause-saves g c =
    let i = c.loop-i.invariant in
    i.whole _ (none_left c.args.volumes.now c.args.images.now c.loop-i.i _ _ (omega arith) (rw i.written at c.in-Ok-put_all.ensures.ok))

-- none is
pub returns-in-Err-put_all-clause-saves : goal.returns-in-Err-put_all-clause-saves
returns-in-Err-put_all-clause-saves g c = (c.in-Err-put_all.ensures.err ∙ c.loop-i.invariant.written, _, refl)

pub returns-in-Err-clause-saves : goal.returns-in-Err-clause-saves
returns-in-Err-clause-saves g c = (c.in-Err.ensures.kept ∙ c.loop-i.invariant.written, _, refl)

pub loop-i-init : goal.loop-i-init
loop-i-init g c = record {
  same = λ k above. refl;
  whole = λ now. none_yet c.args.volumes.now c.args.images.now _ _ now (ap (files_of g.F.Draft.ImageStore.content) c.new-new.ensures.items);
  written = refl;
  opened = refl;
}

pub loop-i-preserved : goal.loop-i-preserved
loop-i-preserved g c =
    let vs = c.args.volumes.now in
    let ds = c.args.images.now in
    let i = c.loop-i.i in
    let content = g.F.Draft.ImageStore.content in
    let front = g.F.ImageFiles.written c.args.files.now in
    let before = files_of content c.loop-i.new.items in
    record {
      same = λ k above.
          rw c.take_image.ensures.others
          (get_or-set_other c.loop-i.images i k None None (omega arith) ∙ c.loop-i.invariant.same k (omega arith));
      whole = λ now rest.
          c.loop-i.invariant.whole now
          (elim c.match-take_image.branch [
            | in-Some+in-Ok w ↦
                let after = files_of content w.begin_volume.new.new.items in
                saved_there vs ds i w.index-volumes-i.result (w.in-Some.field-0-0, w.in-Some.image) front before after now
                (c.loop-i-test.true, sym (w.in-Some.ensures.taken ∙ c.loop-i.invariant.same i (omega arith)))
                (rw w.index-volumes-i.is at w.in-Ok.ensures.begins)
                (rw w.new-is at rest)
            | in_default w ↦
                none_there vs ds i (front ++ before) now c.loop-i-test.true
                (sym (c.loop-i.invariant.same i (omega arith)) ∙ sym c.take_image.ensures.taken ∙ w.in_default.is)
                (rw w.new-is at rest)
          ]);
      written = elim c.match-take_image.branch [
        | in-Some+in-Ok w ↦ rw w.files-is (w.begin_volume.ensures.kept ∙ c.loop-i.invariant.written)
        | in_default w ↦ rw w.files-is c.loop-i.invariant.written
      ];
      opened = elim c.match-take_image.branch [
        | in-Some+in-Ok w ↦ rw w.files-is (w.begin_volume.ensures.same ∙ c.loop-i.invariant.opened)
        | in_default w ↦ rw w.files-is c.loop-i.invariant.opened
      ];
    }

use Rattle.std.proofs.Common.{◌≡◌, ◌∙◌, ap}
use Rattle.dasd_run.proofs.Saving.{fault_of_files}
use Rattle.dasd_run.proofs.runs.finish.Goals.{in-Some, in_default}
use Rattle.dasd_run.proofs.runs.finish.Goals as goal

-- the channel is finished; what is told beside writes no file
pub returns-clause-saves : goal.returns-clause-saves
returns-clause-saves g c =
    let written = g.F.ImageFiles.written in
    let told : written c.match-reset.files ≡ written c.tell_running.new.files = elim c.match-reset.branch [
      | in-Some w ↦ ap written w.files-is ∙ w.remark.ensures.kept
      | in_default w ↦ ap written w.files-is
    ] in
    record {
      storage = c.finish-images.result.storage;
      images = c.finish-images.result.images;
      unsaved = c.finish-images.result.reset.unsaved;
      finishes = c.finish-images.ensures;
      saves = rw (told, c.tell_running.ensures.kept) at c.save_all.ensures.saves;
    }

-- and opens none
pub returns-clause-same : goal.returns-clause-same
returns-clause-same g c =
    let opened = g.F.ImageFiles.opened in
    let told : opened c.match-reset.files ≡ opened c.tell_running.new.files = elim c.match-reset.branch [
      | in-Some w ↦ ap opened w.files-is ∙ w.remark.ensures.same
      | in_default w ↦ ap opened w.files-is
    ] in
    c.save_all.ensures.same ∙ told ∙ c.tell_running.ensures.same

pub returns-clause-fault : goal.returns-clause-fault
returns-clause-fault g c = fault_of_files c.save_all.result _ _ _ c.save_all.ensures.saves

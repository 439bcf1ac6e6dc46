use Rattle.std.proofs.Common.{◌≡◌, List, ℕ, OnOk, subst}
use Rattle.dasd_jobs.proofs.Drafts.{first_written}
use Rattle.dasd_jobs.proofs.jobs.write_volume.Goals as goal

pub returns : goal.returns
returns g c = subst (λ (bytes : List ℕ). OnOk c.write_new_volume.result (g.D.ImageStore.content c.write_new_volume.new.store ≡ bytes))
    (first_written _ _ c.requires.empty) c.write_new_volume.ensures.written

use Rattle.std.proofs.Common.{◌≡◌, List, ℕ, OnOk, subst}
use Rattle.dasd_jobs.proofs.Drafts.{first_written}
use Rattle.dasd_jobs.proofs.mounting.write_bytes.Goals as goal

pub returns : goal.returns
returns g c = subst (λ (bytes : List ℕ). OnOk c.write_at.result (g.D.ImageStore.content c.write_at.new.self ≡ bytes))
    (first_written _ _ c.requires.empty) c.write_at.ensures.written

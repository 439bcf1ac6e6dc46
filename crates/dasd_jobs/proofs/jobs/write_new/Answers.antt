use Rattle.std.proofs.Common.{◌∙◌, List, ℕ, ap}
use Rattle.ckd_image.specs.Image.{new_file}
use Rattle.dasd_jobs.specs.Written.{with_file}
use Rattle.dasd_jobs.proofs.jobs.write_new.Goals as goal

-- what was put is the new volume that was written
pub returns-in-Ok-put : goal.returns-in-Ok-put
returns-in-Ok-put g c = c.settle.ensures.kept ∙ c.in-Ok-put.ensures.ok
    ∙ ap (λ (bytes : List ℕ). with_file (g.F.ImageFiles.written c.args.files.now) c.args.volume.path.now bytes)
    (c.in-Ok.ensures ∙ ap new_file c.new.ensures)

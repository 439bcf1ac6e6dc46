use Rattle.std.proofs.Common.{◌∙◌, ap, sym}
use Rattle.ckd_image.specs.Image.{ImageState}
use Rattle.dasd_jobs.proofs.mounting.mount.Goals as goal

pub returns-in-Ok-clause-same : goal.returns-in-Ok-clause-same
returns-in-Ok-clause-same c = ap (λ (i : ImageState). i.lasting.origins) c.in-Ok.ensures.image ∙ sym c.requires.as_made

use Rattle.std.proofs.Common.{◌∙◌, ap, List, ℕ}
use Rattle.ckd_track.specs.declared.geometries.Geometry.{Geometry}
use Rattle.dasd_jobs.specs.Written.{with_file}
use Rattle.changed_volumes.specs.LabelledFiles.{labelled_file}
use Rattle.changed_volumes.proofs.formats.write_new.Goals as goal

-- what was put is the labelled volume that was written
pub returns-in-Ok-put : goal.returns-in-Ok-put
returns-in-Ok-put g c =
    c.settle.ensures.kept ∙ c.in-Ok-put.ensures.ok
    ∙ ap (λ (bytes : List ℕ). with_file (g.F.ImageFiles.written c.args.files.now) c.args.volume.now.path.now bytes)
    (c.in-Ok.ensures ∙ ap (λ (it : Geometry). labelled_file it c.args.volume.now.label) c.new-geometry.ensures)

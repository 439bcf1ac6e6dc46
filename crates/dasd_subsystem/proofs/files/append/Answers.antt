use Rattle.std.proofs.Common.{◌∙◌, ap, [], ◌∷◌, Some}
use Rattle.ckd_image.specs.Files.{each}
use Rattle.dasd_subsystem.proofs.Copies.{each_append}
use Rattle.dasd_subsystem.proofs.files.append.Goals as goal

-- the file stands behind the others
pub returns-clause-contents : goal.returns-clause-contents
returns-clause-contents c = ap (each (λ f. f.content)) c.push.ensures.items ∙ each_append (λ f. f.content) c.args.files.now.items
    (Some c.args.file ∷ [])

use Rattle.std.proofs.Common.{◌∷◌, [], Some}
use Rattle.ckd_image.specs.Store.{Stored}
use Rattle.ckd_image.proofs.ReadLemmas.{each-append}
use Rattle.dasd_jobs.proofs.opened.append.Goals as goal

pub returns-clause-content : goal.returns-clause-content
returns-clause-content c = cc (each-append (λ (s : Stored). s.content) c.args.stores.now.items (Some c.args.store ∷ []))

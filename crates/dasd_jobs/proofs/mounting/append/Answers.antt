use Rattle.std.proofs.Common.{◌∷◌, [], Some}
use Rattle.ckd_image.proofs.ReadLemmas.{each-append}
use Rattle.dasd_files.specs.Files.{FileState}
use Rattle.dasd_jobs.proofs.mounting.append.Goals as goal

pub returns-clause-content : goal.returns-clause-content
returns-clause-content c = cc (each-append (λ (f : FileState). f.content) c.args.stores.now.items (Some c.args.store ∷ []))

pub returns-clause-as_made : goal.returns-clause-as_made
returns-clause-as_made c before one =
    let old = c.args.stores.now.items in
    let last = Some c.args.store ∷ [] in
    cc (each-append (λ (f : FileState). f.content) old last, each-append (λ (f : FileState). f.origin) old last)

use Rattle.std.proofs.Common.{◌≡◌, ◌∙◌, rules, refl, ap, arith, length, drop}
use Rattle.std.proofs.lemmas.List.{take_at}
use Rattle.ckd_image.specs.Store.{overwritten}
use Rattle.dasd_files.specs.Files.{FileState}
use Rattle.dasd_files.proofs.Written.{written}
use Rattle.dasd_files.proofs.volume_file.VolumeFileImageStore.write_at.Goals as goal

-- what is true of a file stays true
pub invariant_of-self-then-counts : goal.invariant_of-self-then-counts
invariant_of-self-then-counts c =
    let old = c.self.inside.held.items in
    let new = c.write_over-counts.new.held in
    let put : new ≡ overwritten old c.args.at c.args.bytes.now = search rules in
    let size : length new ≡ c.self.inside.held.len = search rules in
    written _ _ c.args.at c.args.bytes.now c.self.invariant (omega (arith, ap (λ (f : FileState). length f.content) c.self.view_is))
    (take_at new (drop (length new) old) c.self.inside.held.len size ∙ put) refl c.another-self-inside.ensures.next (search rules)
    (search rules)

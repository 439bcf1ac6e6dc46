use Rattle.std.proofs.Common.{rules, ◌≡◌, length}
use Rattle.ckd_image.proofs.StoreLemmas.{eight}
use Rattle.ckd_image.proofs.stores.stores_of.Goals as goal

pub returns : goal.returns
returns g c =
    let long : length c.args.files ≡ 8 = search rules in
    rw (
      c.take_file-8.ensures.file,
      c.take_file-7.ensures.files,
      c.take_file-7.ensures.file,
      c.take_file-6.ensures.files,
      c.take_file-6.ensures.file,
      c.take_file-5.ensures.files,
      c.take_file-5.ensures.file,
      c.take_file-4.ensures.files,
      c.take_file-4.ensures.file,
      c.take_file-3.ensures.files,
      c.take_file-3.ensures.file,
      c.take_file-2.ensures.files,
      c.take_file-2.ensures.file,
      c.take_file.ensures.files,
      c.take_file.ensures.file,
    )
    (eight c.args.files long)

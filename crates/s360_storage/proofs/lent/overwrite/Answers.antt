use Rattle.std.proofs.Common.{◌≡◌, ◌+◌, ◌-◌, length, refl, arith}
use Rattle.s360_words.proofs.Overwriting.{overwritten-part}
use Rattle.s360_storage.proofs.lent.overwrite.Goals as goal

pub returns : goal.returns
returns c =
    let counted : c.args.at + length c.args.new.now - c.args.at ≡ length c.args.new.now = omega arith in
    overwritten-part _ _ _ _ _ _ refl c.copy_from_slice.ensures.after counted c.requires

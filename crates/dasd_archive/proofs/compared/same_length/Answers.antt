use Rattle.std.proofs.Common.{◌≡◌, arith}
use Rattle.dasd_archive.specs.Compare.{same_length}
use Rattle.dasd_archive.proofs.Prefixes.{whole}
use Rattle.dasd_archive.proofs.compared.same_length.Goals as goal

pub returns : goal.returns
returns c =
    let is : c.loop-i.i ≡ same_length c.args.one.now c.args.other.now = whole c.args.one.now c.args.other.now c.loop-i.i
    (omega arith) c.loop-i.invariant in
    omega (arith, is)

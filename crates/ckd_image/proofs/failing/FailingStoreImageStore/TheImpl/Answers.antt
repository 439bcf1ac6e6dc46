use Rattle.std.proofs.Common.{ap}
use Rattle.ckd_image.specs.Store.{has_room}
use Rattle.ckd_image.specs.Failing.{Failing, fails_next}
use Rattle.ckd_image.proofs.FailingWrites.{told}
use Rattle.ckd_image.proofs.failing.FailingStoreImageStore.TheImpl.Goals as goal

pub write_at-tells : goal.write_at-tells
write_at-tells x c =
    let old = c.args.self.now in
    let new = c.new.self.now in
    told old new c.args.at c.args.bytes.now (fails_next old) (has_room old.store c.args.at c.args.bytes.now) c.result c.requires
    c.ensures.succeeds (ap (λ (f : Failing). f.store) c.ensures.after) (ap (λ (f : Failing). f.made_to_fail) c.ensures.after)

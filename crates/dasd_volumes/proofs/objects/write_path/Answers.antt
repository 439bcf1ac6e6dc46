use Rattle.std.proofs.Common.{subst, codes}
use Rattle.std.proofs.lemmas.Result.{err_from_is_err_and}
use Rattle.counted_io.specs.Streams.{seen_by, WritesWhole}
use Rattle.dasd_volumes.proofs.Printing.{then_whole, stopped_before}
use Rattle.dasd_volumes.proofs.objects.write_path.Goals as goal

pub returns-in_err-write_whole : goal.returns-in_err-write_whole
returns-in_err-write_whole g c =
    let p = err_from_is_err_and c.from_residual.result c.from_residual.ensures.1 in
    rw p.1 (stopped_before _ _ (codes "{\"path\":") c.args.path.now c.in_err-write_whole.ensures)

pub returns : goal.returns
returns g c =
    then_whole c.write_whole-2.result _ _ _ (codes "{\"path\":") c.args.path.now c.in_ok-write_whole.ensures
    (subst (λ t. WritesWhole c.write_whole-2.result (seen_by g.W.Write.contents c.write_whole.new.writer)
    (seen_by g.W.Write.contents c.write_whole-2.new.writer) t) c.as_bytes.ensures.value c.write_whole-2.ensures)

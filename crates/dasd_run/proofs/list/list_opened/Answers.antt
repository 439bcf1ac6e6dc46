use Rattle.std.proofs.Common.{Err, inl, ap, refl}
use Rattle.std.proofs.lemmas.Result.{err_from_is_err_and}
use Rattle.counted_io.specs.Streams.{seen_by}
use Rattle.dasd_run.proofs.Writes.{memory_told}
use Rattle.dasd_run.proofs.list.list_opened.Goals as goal

-- the part was not printed to its end
pub returns-in_err-list_part-clause-part : goal.returns-in_err-list_part-clause-part
returns-in_err-list_part-clause-part g c =
    let p = err_from_is_err_and c.from_residual.result c.from_residual.ensures.1 in
    let same = c.geometry.ensures.geometry in
    let listed = c.in_err-list_part.ensures in
    rw (p.1, p.2) (inl (
      rw same at c.in-Some.ensures.exist,
      Err c.in_err-list_part.field-0.0,
      refl,
      (rw (c.in-Some.ensures.cylinders, same) at listed.lines, listed.writes, tt),
    ))

pub returns-in_err-list_part-clause-memory : goal.returns-in_err-list_part-clause-memory
returns-in_err-list_part-clause-memory g c =
    let p = err_from_is_err_and c.from_residual.result c.from_residual.ensures.1 in
    let f = c.in_err-list_part.field-0.0 in
    rw (p.1, p.2) (λ e. ap (seen_by g.W.Write.contents) (c.in_err-list_part.ensures.none (memory_told f e)))

use Rattle.std.proofs.Common.{◌∙◌, [], Ok, Err, ap, refl}
use Rattle.std.proofs.lemmas.Result.{err_from_is_err_and}
use Rattle.counted_io.specs.Streams.{seen_by}
use Rattle.counted_io.proofs.Written.{takes_more}
use Rattle.dasd_volumes.proofs.Fronts.{front_behind}
use Rattle.dasd_volumes.proofs.Printing.{front_before}
use Rattle.dasd_archive.specs.declared.reports.Tally.{Tally}
use Rattle.dasd_run.specs.Strict.{found_in}
use Rattle.dasd_run.proofs.Writes.{writes_told, writes_behind}
use Rattle.dasd_run.proofs.strict.check_opened.Goals as goal

-- what was found of the headers was not printed to its end
pub returns-in_err-check_heads : goal.returns-in_err-check_heads
returns-in_err-check_heads g c =
    let p = err_from_is_err_and c.from_residual.result c.from_residual.ensures.1 in
    let f = c.in_err-check_heads.field-0.0 in
    let heads = c.in_err-check_heads.ensures in
    rw (p.1, p.2)
    (Err f, refl, tt, (λ slots known. front_before _ _ _ _ heads.found, writes_told (Unit {0}) Tally f _ _ heads.writes, tt))

pub returns : goal.returns
returns g c =
    let heads = c.in_ok-check_heads.ensures in
    let is = heads.found.1 [] c.new-tally.ensures in
    let found = found_in c.args.heads.now in
    let strict = c.in_ok-counted.ensures in (
      Ok c.in_ok-counted.counted,
      ap Ok c.worse.ensures,
      strict.counts found is,
      (λ slots known. takes_more _ _ _ _ _ heads.found.0 (strict.lines found is slots known), strict.writes ∙ heads.writes, strict.flushed),
    )

-- what was found of the volume was not
pub returns-in_err-counted : goal.returns-in_err-counted
returns-in_err-counted g c =
    let p = err_from_is_err_and c.from_residual-in_err-counted.result c.from_residual-in_err-counted.ensures.1 in
    let f = c.in_err-counted.field-0.0 in
    let heads = c.in_ok-check_heads.ensures in
    let is = heads.found.1 [] c.new-tally.ensures in
    let strict = c.in_err-counted.ensures in
    let after = seen_by g.W.Write.contents c.check_strict.new.writer in
    let found = found_in c.args.heads.now in
    rw (p.1, p.2) (
      Err f,
      refl,
      tt,
      (
        λ slots known. front_behind _ _ after _ _ heads.found.0 (strict.lines found is slots known),
        writes_behind Tally f _ _ after heads.writes strict.writes,
        tt,
      ),
    )

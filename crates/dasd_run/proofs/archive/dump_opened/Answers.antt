use Rattle.std.proofs.Common.{◌≡◌, ◌∙◌, Ok, Err, inl, inr, refl, sym, ap}
use Rattle.std.proofs.lemmas.Bool.{false≢true}
use Rattle.std.proofs.lemmas.Result.{err_from_is_err_and}
use Rattle.counted_io.specs.Streams.{seen_by}
use Rattle.dasd_volumes.proofs.Printing.{none_printed}
use Rattle.dasd_run.proofs.Writes.{none_written}
use Rattle.dasd_run.proofs.archive.dump_opened.Goals.{else-names-via-then-names+in_ok-has_records+else-not-branch}
use Rattle.dasd_run.proofs.archive.dump_opened.Goals.{else-names-via-else-names}
use Rattle.dasd_run.proofs.archive.dump_opened.Goals as goal

-- no track has one of the records
pub returns-then-not-branch : goal.returns-then-not-branch
returns-then-not-branch g c = inr (
  refl,
  sym c.names_records-names.ensures ∙ c.if-names.true,
  rw (c.if-not-branch.true, c.in-Some.ensures.part) at c.in_ok-has_records.ensures.tells,
  refl,
)

-- a track can't be read of the volume, or there is no memory for one
pub returns-in_err-has_records : goal.returns-in_err-has_records
returns-in_err-has_records g c =
    let p = err_from_is_err_and c.from_residual.result c.from_residual.ensures.1 in
    let f = c.in_err-has_records.field-0.0 in
    let none = none_written (Unit {0}) f (seen_by g.W.Write.contents c.args.writer.now) c.in_err-has_records.ensures.fault in
    let exists = rw c.geometry.ensures.geometry at c.in-Some.ensures.exists in
    rw (p.1, p.2) (inl (inl (exists, Err f, refl, (λ slots known. none_printed _ _, none, tt)), tt))

-- the part is dumped
pub returns : goal.returns
returns g c =
    let volume = g.V.SlotReader.volume in
    let same : volume c.else-names.volume ≡ volume c.args.volume.now = elim c.else-names.branch [
      | else-names-via-then-names+in_ok-has_records+else-not-branch w ↦ ap volume w.volume-is ∙ w.in_ok-has_records.ensures.volume.0
      | else-names-via-else-names w ↦ ap volume w.volume-is
    ] in
    let dumped = c.in_ok-dump.ensures in
    let exists = rw c.geometry.ensures.geometry at c.in-Some.ensures.exists in
    let lines = rw (c.in-Some.ensures.part, same) at dumped.lines in
    inl (
      inl (exists, Ok tt, refl, (lines, dumped.writes, dumped.flushed)),
      λ names. elim c.else-names.branch [
        | else-names-via-then-names+in_ok-has_records+else-not-branch w ↦
            rw (w.if-not-branch.false, c.in-Some.ensures.part) at w.in_ok-has_records.ensures.tells
        | else-names-via-else-names w ↦ absurd (false≢true (sym w.if-names.false ∙ c.names_records-names.ensures ∙ names))
      ],
    )

-- or not to its end
pub returns-in_err-dump : goal.returns-in_err-dump
returns-in_err-dump g c =
    let p = err_from_is_err_and c.from_residual-in_err-dump.result c.from_residual-in_err-dump.ensures.1 in
    let volume = g.V.SlotReader.volume in
    let same : volume c.else-names.volume ≡ volume c.args.volume.now = elim c.else-names.branch [
      | else-names-via-then-names+in_ok-has_records+else-not-branch w ↦ ap volume w.volume-is ∙ w.in_ok-has_records.ensures.volume.0
      | else-names-via-else-names w ↦ ap volume w.volume-is
    ] in
    let dumped = c.in_err-dump.ensures in
    let exists = rw c.geometry.ensures.geometry at c.in-Some.ensures.exists in
    let lines = rw (c.in-Some.ensures.part, same) at dumped.lines in
    rw (p.1, p.2) (inl (inl (exists, Err c.in_err-dump.field-0.0, refl, (lines, dumped.writes, tt)), tt))

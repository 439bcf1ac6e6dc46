-- What is counted is the number of the records that the slot spells.
use Rattle.std.proofs.Common.{◌∙◌, sym, ap, Err}
use Rattle.std.proofs.lemmas.Result.{err_from_is_err_and}
use Rattle.ckd_track.specs.Track.{track_of, track_in}
use Rattle.ckd_track.proofs.Laws.{read_is_spelled, tells}
use Rattle.ckd_track.proofs.Offsets.{are_bytes, has_number, no_number}
use Rattle.ckd_track.proofs.view.read_slot.Goals as goal

pub invariant_of-result : goal.invariant_of-result
invariant_of-result c =
    let s = c.args.slot.now in
    let h = has_number (track_of s) c.in_ok-records.records (sym c.in_ok-records.was ∙ c.count_records.ensures) in
    (read_is_spelled s (track_in s) (are_bytes s c.type_inv.slot) h.0, h.1, tt)

pub returns : goal.returns
returns c =
    let s = c.args.slot.now in
    tells s (are_bytes s c.type_inv.slot) _ (sym (has_number (track_of s) c.in_ok-records.records (sym c.in_ok-records.was
    ∙ c.count_records.ensures)).0)

pub returns-in_err-records : goal.returns-in_err-records
returns-in_err-records c =
    let s = c.args.slot.now in
    let p = err_from_is_err_and c.from_residual.result c.from_residual.ensures.1 in
    tells s (are_bytes s c.type_inv.slot) _ (p.1 ∙ ap Err p.2
    ∙ sym (no_number (track_of s) c.in_err-records.field-0.0 (sym c.in_err-records.was ∙ c.count_records.ensures)))

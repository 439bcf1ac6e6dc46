use Rattle.std.proofs.Common.{rules, tests, ◌+◌, ◌∙◌, ℕ, ap}
use Rattle.std.proofs.lemmas.Result.{err_from_is_err_and}
use Rattle.dasd_volumes.proofs.Fronts.{one_more_text, front_of_text}
use Rattle.dasd_volumes.specs.Lines.{track_line, record_line}
use Rattle.dasd_volumes.proofs.lists.list_lines.Goals as goal

pub loop-i-preserved : goal.loop-i-preserved
loop-i-preserved g c = record {
  taken = one_more_text _ _ _ record_line _ c.args.view.now.records c.loop-i.i _ (search (rules, tests)) c.loop-i.invariant.taken
      c.in_ok-list_record.ensures.0;
  sound = c.in_ok-list_record.ensures.1 ∙ c.loop-i.invariant.sound;
}

pub returns-in_err-list_record : goal.returns-in_err-list_record
returns-in_err-list_record g c =
    let p = err_from_is_err_and c.from_residual-in_err-list_record.result c.from_residual-in_err-list_record.ensures.1 in
    rw p.1 (
      front_of_text _ _ _ record_line (track_line c.args.track.geometry.model c.args.track.cylinder c.args.track.head c.args.view.now)
          c.args.view.now.records c.loop-i.i _ (search (rules, tests)) c.loop-i.invariant.taken c.in_err-list_record.ensures.0,
      c.in_err-list_record.ensures.1 ∙ ap (λ (n : ℕ). n + 1) c.loop-i.invariant.sound,
    )

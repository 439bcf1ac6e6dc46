use Rattle.std.proofs.Common.{◌∙◌, refl, ap, not, length}
use Rattle.std.proofs.lemmas.List.{length-set}
use Rattle.record_tracks.proofs.Found.{none_tabled, had, lacked, is_table}
use Rattle.record_tracks.proofs.codes.table.Goals as goal
use Rattle.record_tracks.proofs.codes.table.Goals.{then-is_none, else-is_none}

pub loop-number-init : goal.loop-number-init
loop-number-init c = (refl, none_tabled)

pub loop-number-preserved : goal.loop-number-preserved
loop-number-preserved c =
    let l = c.loop-number in
    let is = c.from-place.ensures ∙ c.character.ensures in elim c.if-is_none.branch [
      | then-is_none w ↦ (
        ap length w.table-is ∙ length-set l.table c.from-place.result _ ∙ l.invariant.0,
        w.table-is ∙ lacked l.table l.number c.from-place.result l.invariant.1 is (c.is_none.ensures ∙ ap not w.if-is_none.true),
      )
      | else-is_none w ↦ (
        ap length w.table-is ∙ l.invariant.0,
        w.table-is ∙ had l.table l.number c.from-place.result l.invariant.1 is (c.is_none.ensures ∙ ap not w.if-is_none.false),
      )
    ]

pub returns : goal.returns
returns c =
    is_table c.loop-number.table c.loop-number.number c.loop-number.invariant.1 c.loop-number.auto.number-end c.loop-number-test.false

use Rattle.std.proofs.Common.{◌∙◌, None, ap, arith, slice_index_or, sym}
use Rattle.s360_channels.specs.Saves.{back_at, why_not_at}
use Rattle.s360_channels.proofs.BackFits.{back_next, one_more}
use Rattle.s360_channels.proofs.saving.put_back.Goals as goal

pub put_back_at-requires : goal.put_back_at-requires
put_back_at-requires g c =
    let saved = c.args.saved.now in
    let place = c.loop-place.place in (
      omega arith,
      ap (why_not_at (slice_index_or saved place None)) (sym c.index-list-place.is)
          ∙ back_next saved c.args.list.now c.loop-place.list place c.index-list-place.result c.loop-place.invariant c.index-list-place.is
          c.requires (omega arith) (omega arith),
    )

pub loop-place-preserved : goal.loop-place-preserved
loop-place-preserved g c =
    let saved = c.args.saved.now in
    let place = c.loop-place.place in
    one_more saved c.args.list.now c.loop-place.list place c.index-list-place.result c.put_back_at.new.selector c.loop-place.invariant
    c.index-list-place.is (c.put_back_at.ensures ∙ ap (back_at (slice_index_or saved place None)) (sym c.index-list-place.is)) (omega arith)
    (omega arith)

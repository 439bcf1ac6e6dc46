use Rattle.std.proofs.Common.{◌∙◌}
use Rattle.changed_volumes.proofs.Saved.{not_changed, read_behind, saved}
use Rattle.changed_volumes.proofs.changes.change_files.Goals as goal

-- the image that was read is not changed
pub returns-in-Err-change : goal.returns-in-Err-change
returns-in-Err-change g c =
    not_changed (g.C.ImageChange.changing c.args.change.now) _ c.in-Ok.image _ _
    (read_behind _ c.in-Ok.image _ _ _ c.plan_saving.ensures.same c.in-Ok.ensures.as_read c.in-Ok.ensures.whole)
    c.in-Err-change.fault _ _ c.in-Err-change.ensures.refused (c.in-Ok.ensures.kept ∙ c.plan_saving.ensures.kept)

-- it was changed, and saved, or in part
pub returns-in-Ok-write_back : goal.returns-in-Ok-write_back
returns-in-Ok-write_back g c =
    saved (g.C.ImageChange.changing c.args.change.now) _ c.in-Ok.image _ _
    (read_behind _ c.in-Ok.image _ _ _ c.plan_saving.ensures.same c.in-Ok.ensures.as_read c.in-Ok.ensures.whole)
    _ c.in-Ok-change.answer c.change.new.image _ _ _ _ c.in-Ok-write_back.ensures.same c.in-Ok-change.ensures.same
    c.in-Ok-change.ensures.made (c.in-Ok.ensures.kept ∙ c.plan_saving.ensures.kept) c.in-Ok-write_back.ensures.writes

pub returns-in-Err-write_back : goal.returns-in-Err-write_back
returns-in-Err-write_back g c = (
  c.in-Ok-change.answer,
  saved (g.C.ImageChange.changing c.args.change.now) _ c.in-Ok.image _ _
      (read_behind _ c.in-Ok.image _ _ _ c.plan_saving.ensures.same c.in-Ok.ensures.as_read c.in-Ok.ensures.whole)
      _ c.in-Ok-change.answer c.change.new.image _ _ _ _ c.in-Err-write_back.ensures.same c.in-Ok-change.ensures.same
      c.in-Ok-change.ensures.made (c.in-Ok.ensures.kept ∙ c.plan_saving.ensures.kept) c.in-Err-write_back.ensures.writes,
)

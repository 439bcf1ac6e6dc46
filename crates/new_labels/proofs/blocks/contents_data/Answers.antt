use Rattle.std.proofs.Common.{◌∙◌, ap, List, ℕ}
use Rattle.ckd_track.specs.Changes.{overwritten}
use Rattle.new_labels.proofs.Fields.{contents_written}
use Rattle.new_labels.proofs.blocks.contents_data.Goals as goal

pub returns-clause-bytes : goal.returns-clause-bytes
returns-clause-bytes c =
    contents_written c.args.geometry c.args.label.now _ c.table_extent.result c.drive_bytes.result c.contents_head.result
    (c.overwrite-3.ensures ∙ ap (λ (b : List ℕ). overwritten b 0 c.contents_head.result) (c.overwrite-2.ensures
    ∙ ap (λ (b : List ℕ). overwritten b 18 c.drive_bytes.result) c.overwrite.ensures))
    c.table_extent.ensures c.drive_bytes.ensures c.contents_head.ensures

use Rattle.std.proofs.Common.{◌∙◌, ap, rules, List, ℕ}
use Rattle.ckd_track.specs.Changes.{overwritten}
use Rattle.volume_labels.specs.Labels.{volume_label_of, volume_label_name}
use Rattle.new_labels.proofs.Fields.{volume_written, volume_read}
use Rattle.new_labels.proofs.records.volume_data.Goals as goal

-- what stands in the label, field by field
pub returns : goal.returns
returns c =
    let label = c.args.label.now in
    let place = c.first_block.result in
    let is = volume_written c.args.geometry label _ place (search rules) (search rules)
    (c.overwrite-4.ensures ∙ ap (λ (b : List ℕ). overwritten b 0 volume_label_name) (c.overwrite-3.ensures
    ∙ ap (λ (b : List ℕ). overwritten b 4 label.serial) (c.overwrite-2.ensures
    ∙ ap (λ (b : List ℕ). overwritten b 11 place) c.overwrite.ensures)))
    c.first_block.ensures in
    record {
      bytes = is;
      read = ap volume_label_of is ∙ volume_read c.args.geometry label (search rules) (search rules);
    }

use Rattle.std.proofs.Common.{◌≡◌, ◌∙◌, ap, rules, length, [], ◌∷◌, List, ℕ}
use Rattle.ckd_track.specs.Changes.{overwritten}
use Rattle.volume_labels.specs.Labels.{data_set_block_of}
use Rattle.new_labels.specs.SetBlocks.{data_set_data}
use Rattle.new_labels.proofs.SetFields.{data_set_written, data_set_is_read}
use Rattle.new_labels.proofs.set_blocks.data_set_data.Goals as goal

-- what stands in the block, field by field
pub returns : goal.returns
returns c =
    let s = c.args.set.now in
    let six : length s.serial ≡ 6 = search rules in
    let twenty : length s.kept.system ≡ 20 = search rules in
    let seven : length s.kept.allocation ≡ 7 = search rules in
    let is : c.overwrite-9.new.slot ≡ data_set_data s =
    data_set_written s _ c.numbers_bytes.result c.form_bytes.result c.length_bytes.result c.last_bytes.result c.extent_bytes.result
    six twenty seven
    (c.overwrite-9.ensures ∙ ap (λ (b : List ℕ). overwritten b 0 (0xF1 ∷ [])) (c.overwrite-8.ensures
    ∙ ap (λ (b : List ℕ). overwritten b 1 s.serial) (c.overwrite-7.ensures
    ∙ ap (λ (b : List ℕ). overwritten b 7 c.numbers_bytes.result) (c.overwrite-6.ensures
    ∙ ap (λ (b : List ℕ). overwritten b 18 s.kept.system) (c.overwrite-5.ensures
    ∙ ap (λ (b : List ℕ). overwritten b 38 c.form_bytes.result) (c.overwrite-4.ensures
    ∙ ap (λ (b : List ℕ). overwritten b 42 c.length_bytes.result) (c.overwrite-3.ensures
    ∙ ap (λ (b : List ℕ). overwritten b 47 s.kept.allocation) (c.overwrite-2.ensures
    ∙ ap (λ (b : List ℕ). overwritten b 54 c.last_bytes.result) c.overwrite.ensures))))))))
    (record {
      numbers_are = c.numbers_bytes.ensures;
      form_is = c.form_bytes.ensures;
      lengths_are = c.length_bytes.ensures;
      last_is = c.last_bytes.ensures;
      extent_is = c.extent_bytes.ensures;
    }) in
    record { bytes = is; read = ap (data_set_block_of s.name) is ∙ data_set_is_read s six twenty seven }

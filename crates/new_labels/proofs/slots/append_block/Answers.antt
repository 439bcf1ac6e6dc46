use Rattle.std.proofs.Common.{◌∙◌, ap, sym, subst, length, rules, ℕ}
use Rattle.ckd_track.specs.Track.{Record, record_bytes}
use Rattle.new_labels.specs.Records.{record_id}
use Rattle.new_labels.specs.Tracks.{PutBehind, with_id, block_key, block_data}
use Rattle.new_labels.proofs.Filled.{same_record}
use Rattle.new_labels.proofs.slots.append_block.Goals as goal

pub returns-clause-written : goal.returns-clause-written
returns-clause-written c =
    subst (λ (r : Record). PutBehind c.args.at (record_bytes r) c.args.slot.now c.append_record.new.slot)
    (same_record _ _ _ _ _ _ c.record_id-id.ensures c.block_key-key.ensures c.block_data.ensures
    ∙ ap (λ (b : ℕ). with_id (record_id c.args.geometry c.args.place.0 c.args.place.1) (block_key c.args.geometry c.args.label.now b)
    (block_data c.args.geometry c.args.label.now b)) c.block_at-block.ensures) c.append_record.ensures.written

pub returns-clause-size : goal.returns-clause-size
returns-clause-size c =
    ap (λ (r : Record). length (record_bytes r))
    (sym (same_record _ _ _ _ _ _ c.record_id-id.ensures c.block_key-key.ensures c.block_data.ensures
    ∙ ap (λ (b : ℕ). with_id (record_id c.args.geometry c.args.place.0 c.args.place.1) (block_key c.args.geometry c.args.label.now b)
    (block_data c.args.geometry c.args.label.now b)) c.block_at-block.ensures))
    ∙ c.append_record.ensures.size ∙ search rules

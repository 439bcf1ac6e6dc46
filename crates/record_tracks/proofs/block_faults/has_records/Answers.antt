use Rattle.std.proofs.Common.{◌≡◌, ◌∙◌, ap, sym, ℕ, suc, ◌+◌, ◌-◌, ◌≤◌, ◌<◌, true, List, length, arith, Option, Result, Some, None, Ok, Err}
use Rattle.volume_labels.specs.declared.records.{RecordForm.RecordForm, RecordFault.RecordFault, Piece.Piece}
use Rattle.volume_labels.specs.Records.{next_record}
use Rattle.record_tracks.specs.BlockFaults.{and_records, has_records_from, has_records}
use Rattle.record_tracks.proofs.block_faults.has_records.Goals as goal

-- The records of a block.
module _ (f : RecordForm) (block : List ℕ) where
  -- what stands at a place, behind k records
  next_there : (k at : ℕ) (r : Result (Option Piece) RecordFault) → k < length block → r ≡ next_record f block at
      → has_records f block ≡ has_records_from (length block - k) f block at
      → has_records f block ≡ and_records r (has_records_from (length block - (k + 1)) f block)
  unfolding has_records_from
  next_there k at r there is h = h ∙ ap (λ n. has_records_from n f block at) {y = suc (length block - (k + 1))} (omega arith)
      ∙ ap (λ r. and_records r (has_records_from (length block - (k + 1)) f block)) (sym is)

  -- all steps are done
  no_more : (k at : ℕ) → length block ≤ k → has_records f block ≡ has_records_from (length block - k) f block at
      → has_records f block ≡ true
  unfolding has_records_from
  no_more k at done h = h ∙ ap (λ n. has_records_from n f block at) {y = 0} (omega arith)

pub loop-k-init : goal.loop-k-init
loop-k-init c = (omega arith, ap (λ n. has_records_from n c.args.form c.args.block.now 0) (omega arith))

pub returns-in-Ok-None : goal.returns-in-Ok-None
returns-in-Ok-None c = sym (next_there c.args.form c.args.block.now c.loop-k._k c.loop-k.at (Ok None) c.loop-k-test.true
    (cc) c.loop-k.invariant.1)

pub returns-in-Err : goal.returns-in-Err
returns-in-Err c = sym (next_there c.args.form c.args.block.now c.loop-k._k c.loop-k.at (Err c.in-Err.field-0) c.loop-k-test.true
    (sym c.in-Err.is ∙ c.next_record.ensures.value) c.loop-k.invariant.1)

pub loop-k-preserved : goal.loop-k-preserved
loop-k-preserved c = (
  (rw c.in-Ok-Some.field-0-is at c.in-Ok-Some.ensures.within).2,
  next_there c.args.form c.args.block.now c.loop-k._k c.loop-k.at (Ok (Some c.in-Ok-Some.piece)) c.loop-k-test.true
      (cc) c.loop-k.invariant.1,
)

pub returns : goal.returns
returns c = sym (no_more c.args.form c.args.block.now c.loop-k._k c.loop-k.at c.loop-k-test.false c.loop-k.invariant.1)

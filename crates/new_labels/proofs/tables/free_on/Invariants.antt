use Rattle.std.proofs.Common.{◌≡◌, drop}
use Rattle.std.specs.List.{position_from}
use Rattle.new_labels.specs.Tables.{is_free_block}
use Rattle.new_labels.proofs.tables.free_on.Given as goal

-- none of the records so far is a free block
abbrev pub invariant-loop-i : goal.invariant-loop-i
invariant-loop-i l = position_from is_free_block 1 (drop 1 l.view.records) ≡ position_from is_free_block l.i (drop l.i l.view.records)

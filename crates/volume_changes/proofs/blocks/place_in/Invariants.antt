use Rattle.std.proofs.Common.{◌≡◌, drop}
use Rattle.std.specs.List.{position_from}
use Rattle.volume_changes.specs.Blocks.{is_record_of}
use Rattle.volume_changes.proofs.blocks.place_in.Given as goal

-- none of the records so far is that of the block
abbrev pub invariant-loop-i : goal.invariant-loop-i
invariant-loop-i l =
    position_from (is_record_of l.block) 1 (drop 1 l.view.records) ≡ position_from (is_record_of l.block) l.i (drop l.i l.view.records)

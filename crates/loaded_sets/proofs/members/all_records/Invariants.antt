use Rattle.std.proofs.Common.{◌≡◌, ◌+◌, map, drop, take, All}
use Rattle.record_tracks.specs.Records.{all_areas}
use Rattle.record_tracks.specs.Blocks.{block_areas}
use Rattle.loaded_sets.specs.Members.{each_made, fitting}
use Rattle.loaded_sets.specs.LibraryParts.{HasBlocks}
use Rattle.loaded_sets.proofs.Made.{behind}
use Rattle.loaded_sets.proofs.members.all_records.Given as goal

-- the records of the members so far, whose blocks have no fault
abbrev pub invariant-loop-number : goal.invariant-loop-number
invariant-loop-number l =
    let files = map (λ f. f.now) l.members in
    let make = fitting l.measure.model l.measure.layout l.measure.key_length l.cut in record {
      fit : each_made make 1 files ≡ behind (take l.number files) (each_made make (l.number + 1) (drop l.number files));
      areas : map (λ r. all_areas r.items) l.all.items ≡ map (block_areas l.cut) (take l.number files);
      each : All (HasBlocks l.measure.model l.cut) (take l.number files);
    }

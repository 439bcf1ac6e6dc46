use Rattle.std.proofs.Common.{◌≡◌, flat_map, take}
use Rattle.record_tracks.specs.Records.{areas_of}
use Rattle.record_tracks.specs.ReadBack.{keyed_text}
use Rattle.loaded_folders.proofs.blocks.spell_records.Given as goal

-- the records so far
abbrev pub invariant-loop-block : goal.invariant-loop-block
invariant-loop-block l = l.bytes.items ≡ flat_map (λ b. keyed_text (areas_of b)) (take l.block-index l.records)

use Rattle.std.proofs.Common.{◌≡◌, ◌<◌, ◌++◌, ◌-◌, ℕ, All, length, map}
use Rattle.record_tracks.specs.{Records.all_areas, Blocks.first_areas, Blocks.rests_to, Blocks.block_areas}
use Rattle.record_tracks.proofs.cut_records.push_blocks.Given as goal

-- the blocks so far, and those that are left, are all
abbrev pub invariant-loop-k : goal.invariant-loop-k
invariant-loop-k l = record {
  all : all_areas l.records.items ++ map (first_areas l.cut) (rests_to l.cut (length l.bytes - l._k) l.rest)
      ≡ all_areas l.fn.records.items ++ block_areas l.cut l.bytes;
  bytes : All (λ (byte : ℕ). byte < 256) l.bytes;
}

-- Control blocks that are written anew: those that become free, and those of free tracks (format 5).
use Rattle.std.specs.Prelude.{ℕ, ◌+◌, ◌*◌, nat_lt, if◌then◌else◌, List, ◌∷◌, ◌++◌, take, drop, replicate, slice_index_or}
use Rattle.volume_labels.specs.declared.fields.FreeTracks.{FreeTracks}
use Rattle.volume_labels.specs.declared.fields.RecordAddress.{RecordAddress}
use Rattle.dasd_volumes.specs.Volumes.{of_each}
use Rattle.new_labels.specs.SetBlocks.{nowhere, record_bytes}
use Rattle.new_labels.specs.FreeSpace.{run_bytes}
use Rattle.volume_contents.specs.declared.blocks.Block.{Block}
use Rattle.volume_contents.specs.Contents.{block_in}
use Rattle.volume_changes.specs.declared.blocks.BlockChange.{BlockChange}

-- run k, from 0 on; one of no tracks where there are no more
abbrev pub run_in : List FreeTracks → (k : ℕ) → FreeTracks
run_in runs k = slice_index_or runs k (record { first = 0; cylinders = 0; tracks = 0 })

-- the first 26 runs, which go into one block, in their bytes
abbrev pub runs_bytes : List FreeTracks → List ℕ
runs_bytes runs = of_each (λ k. run_bytes (run_in runs k)) 26

-- Format 5: eight of its runs stand in the key, behind four bytes 5, and the others in the data, before the address of the next block.
abbrev pub free_space_key : List FreeTracks → List ℕ
free_space_key runs = 5 ∷ 5 ∷ 5 ∷ 5 ∷ take 40 (runs_bytes runs)

abbrev pub free_space_data : List FreeTracks → (next : RecordAddress) → List ℕ
free_space_data runs next = 0xF5 ∷ drop 40 (runs_bytes runs) ++ record_bytes next

-- the address of the next of so many blocks of free tracks; none behind the last
abbrev pub next_in : (blocks : List Block) → (holding i : ℕ) → RecordAddress
next_in blocks holding i = if nat_lt (i + 1) holding then (block_in blocks (i + 1)).address else nowhere

-- Of blocks that are written anew the first ones say the runs of free tracks, 26 in each, and all others become free: zeros.
abbrev pub rewritten : (blocks : List Block) → List FreeTracks → (holding i : ℕ) → BlockChange
rewritten blocks runs holding i =
    if nat_lt i holding
    then record {
      block = block_in blocks i;
      key = free_space_key (drop (26 * i) runs);
      bytes = free_space_data (drop (26 * i) runs) (next_in blocks holding i);
    }
    else record { block = block_in blocks i; key = replicate 44 0; bytes = replicate 96 0 }

use Rattle.std.proofs.Common.{◌≡◌, ◌≤◌, ◌<◌, List, ℕ, Some, length}
use Rattle.dasd_archive.specs.Numbered.{LacksOn}
use Rattle.dasd_archive.proofs.numbered.has_records.Given as goal

-- the cylinders so far lack the records; the volume stays, and the slot keeps its length
abbrev pub invariant-loop-cylinder : goal.invariant-loop-cylinder
invariant-loop-cylinder g l =
    let before = g.V.SlotReader.volume l.fn.volume in record {
      lacks : (slots : List (List ℕ)) → before.slots ≡ Some slots → (cylinder : ℕ) → cylinder < l.cylinder
          → l.part.cylinders.first ≤ cylinder → LacksOn l.part.heads l.part.numbers cylinder before.geometry slots;
      volume : g.V.SlotReader.volume l.volume ≡ before;
      failures : g.V.SlotReader.failures l.volume ≡ g.V.SlotReader.failures l.fn.volume;
      size : length l.slot ≡ before.geometry.track_size;
    }

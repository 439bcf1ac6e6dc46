use Rattle.std.proofs.Common.{◌≡◌, length, map, take, All, IsSome}
use Rattle.std.specs.List.{AllZip}
use Rattle.ckd_image.specs.Files.{each}
use Rattle.dasd_jobs.specs.Back.{AreAsMade}
use Rattle.dasd_jobs.specs.Sources.{IsWhole}
use Rattle.dasd_jobs.proofs.mounting.read_files.Given as goal

-- the files so far were read whole
abbrev pub invariant-loop-i : goal.invariant-loop-i
invariant-loop-i g l = record {
  there : All IsSome l.stores.items;
  as_made : AreAsMade l.stores.items;
  count : length l.stores.items ≡ l.i;
  same : map g.O.OpenedFile.content l.locked.items ≡ map g.O.OpenedFile.content l.fn.locked.items;
  whole : AllZip IsWhole (take l.i (map g.O.OpenedFile.content l.fn.locked.items)) (each (λ s. s.content) l.stores.items);
}

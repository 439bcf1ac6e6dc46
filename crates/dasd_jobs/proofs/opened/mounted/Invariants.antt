use Rattle.std.proofs.Common.{◌≡◌, All, IsSome, length, map, take}
use Rattle.ckd_image.specs.Files.{each}
use Rattle.dasd_jobs.specs.Opening.{alone, judged}
use Rattle.dasd_jobs.proofs.opened.mounted.Given as goal

-- each store that was appended is there, and holds a header with zeros behind it
abbrev pub invariant-loop-i : goal.invariant-loop-i
invariant-loop-i l = record {
  there : All IsSome l.stores.items;
  count : length l.stores.items ≡ l.i;
  content : each (λ s. s.content) l.stores.items ≡ map alone (take l.i (judged l.as_far l.heads));
}

use Rattle.std.proofs.Common.{◌≡◌, map, take}
use Rattle.std.specs.List.{AllZip}
use Rattle.dasd_jobs.specs.Sources.{IsHeader}
use Rattle.dasd_jobs.proofs.opened.headers_of.Given as goal

-- the headers so far were read
abbrev pub invariant-loop-i : goal.invariant-loop-i
invariant-loop-i g l = record {
  same : map g.O.OpenedFile.content l.files.items ≡ map g.O.OpenedFile.content l.fn.files.items;
  headers : AllZip IsHeader (take l.i (map g.O.OpenedFile.content l.fn.files.items)) l.headers.items;
}

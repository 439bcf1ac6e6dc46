use Rattle.std.proofs.Common.{◌≡◌, map, take, length}
use Rattle.std.specs.List.{AllZip}
use Rattle.dasd_jobs.specs.Sources.{OpensPaths}
use Rattle.dasd_jobs.specs.Opening.{IsHeadOf}
use Rattle.dasd_jobs.proofs.opened.open_volume.Given as goal

-- no file was written so far; those so far were opened, and no other, and their headers are at hand
abbrev pub invariant-loop-path : goal.invariant-loop-path
invariant-loop-path g l = record {
  kept : g.F.ImageFiles.written l.files ≡ g.F.ImageFiles.written l.fn.files;
  opens : OpensPaths (map (λ path. path.now) (take l.path-index l.paths)) (map g.F.Opened.OpenedFile.content l.opened.items)
      (g.F.ImageFiles.opened l.fn.files) (g.F.ImageFiles.opened l.files);
  heads : AllZip IsHeadOf (map g.F.Opened.OpenedFile.content l.opened.items) l.heads.items;
  count : length l.heads.items ≡ l.path-index;
}

use Rattle.std.proofs.Common.{◌≡◌, ◌++◌, map}
use Rattle.dasd_jobs.specs.Back.{changed_files, AreKept}
use Rattle.dasd_jobs.specs.Written.{files_of}
use Rattle.dasd_jobs.proofs.mounting.begin_stores.Given as goal

-- new files are begun for the changed ones so far, in their order
abbrev pub invariant-loop-i : goal.invariant-loop-i
invariant-loop-i g l = record {
  begun : files_of g.F.Draft.ImageStore.content l.new.items ≡ files_of g.F.Draft.ImageStore.content l.fn.new.items
      ++ changed_files (map (λ path. path.now) l.paths) l.stores l.i;
  kept : AreKept l.stores l.i;
  written : g.F.ImageFiles.written l.files ≡ g.F.ImageFiles.written l.fn.files;
  same : g.F.ImageFiles.opened l.files ≡ g.F.ImageFiles.opened l.fn.files;
}

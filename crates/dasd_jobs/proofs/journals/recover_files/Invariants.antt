use Rattle.std.proofs.Common.{◌≡◌}
use Rattle.dasd_jobs.proofs.journals.recover_files.Given as goal

-- no file is written or opened so far
abbrev pub invariant-loop-path : goal.invariant-loop-path
invariant-loop-path g l = record {
  written : g.F.ImageFiles.written l.files ≡ g.F.ImageFiles.written l.fn.files;
  same : g.F.ImageFiles.opened l.files ≡ g.F.ImageFiles.opened l.fn.files;
}

use Rattle.std.proofs.Common.{ℕ, ◌≡◌, ◌≤◌, ◌++◌, List, drop, slice_index_or, None}
use Rattle.std.specs.List.{zip}
use Rattle.dasd_jobs.specs.Written.{Replaced, files_of}
use Rattle.dasd_run.specs.Saves.{AreSaved}
use Rattle.dasd_run.proofs.saves.save_all.Given as goal

-- the images behind are those that were given, and what is written of the volumes behind makes the whole; no file was opened or written
abbrev pub invariant-loop-i : goal.invariant-loop-i
invariant-loop-i g l = record {
  same : (k : ℕ) → l.i ≤ k → slice_index_or l.images k None ≡ slice_index_or l.fn.images k None;
  whole : (now : List Replaced) → AreSaved (drop l.i (zip l.volumes l.fn.images))
      (g.F.ImageFiles.written l.fn.files ++ files_of g.F.Draft.ImageStore.content l.new.items) now
      → AreSaved (zip l.volumes l.fn.images) (g.F.ImageFiles.written l.fn.files) now;
  written : g.F.ImageFiles.written l.files ≡ g.F.ImageFiles.written l.fn.files;
  opened : g.F.ImageFiles.opened l.files ≡ g.F.ImageFiles.opened l.fn.files;
}

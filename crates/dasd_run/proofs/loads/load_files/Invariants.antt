use Rattle.std.proofs.Common.{◌≡◌, ◌+◌, take}
use Rattle.dasd_run.specs.Loads.{LoadsFiles, bytes_of}
use Rattle.dasd_run.proofs.Loading.{names_in}
use Rattle.dasd_run.proofs.loads.load_files.Given as goal

-- the files of the names so far are loaded, and so many bytes are left
abbrev pub invariant-loop-i : goal.invariant-loop-i
invariant-loop-i g l = record {
  kept : g.F.ImageFiles.written l.files ≡ g.F.ImageFiles.written l.fn.files;
  loads : LoadsFiles (names_in (take l.i l.names)) l.loaded.items (g.F.ImageFiles.opened l.fn.files) (g.F.ImageFiles.opened l.files);
  total : bytes_of l.loaded.items + l.left ≡ 524288;
}

use Rattle.std.proofs.Common.{◌≡◌, ℕ, List, map}
use Rattle.std.specs.String.{string_bytes}
use Rattle.loaded_folders.specs.Reading.{ReadsFiles}
use Rattle.loaded_folders.proofs.Chains.{SoFar}
use Rattle.loaded_folders.proofs.folder.read_files.Given as goal

-- the first files were read, and no file was written
abbrev pub invariant-loop-name : goal.invariant-loop-name
invariant-loop-name g l = record {
  kept : g.F.ImageFiles.written l.files ≡ g.F.ImageFiles.written l.fn.files;
  first : List (List ℕ);
  passed : SoFar string_bytes l.names l.name-index first;
  read : ReadsFiles l.folder first (map (λ b. b.items) l.all.items) (g.F.ImageFiles.opened l.fn.files) (g.F.ImageFiles.opened l.files);
}

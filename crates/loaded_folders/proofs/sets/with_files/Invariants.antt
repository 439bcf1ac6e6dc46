use Rattle.std.proofs.Common.{◌≡◌, ◌++◌, length, map, flat_map, drop}
use Rattle.loaded_folders.specs.Sets.{file_names, with_files}
use Rattle.loaded_folders.specs.Parts.{lines_of, folder_set}
use Rattle.loaded_folders.proofs.sets.with_files.Given as goal

-- the data sets so far, and the others with the other files, of which there are as many as they have
abbrev pub invariant-loop-lines : goal.invariant-loop-lines
invariant-loop-lines l = record {
  all : map folder_set l.all.items ++ with_files (map lines_of (drop l.lines-index l.sets)) (map (λ f. f.items) l.rest)
      ≡ with_files (map lines_of l.sets) (map (λ f. f.items) l.fn.files);
  rest : length l.rest ≡ length (flat_map file_names (map lines_of (drop l.lines-index l.sets)));
}

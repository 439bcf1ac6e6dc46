use Rattle.std.proofs.Common.{◌≡◌, map, take}
use Rattle.loaded_folders.proofs.images.slices.Given as goal

-- the files so far
abbrev pub invariant-loop-file : goal.invariant-loop-file
invariant-loop-file l = map (λ f. f.now) l.all.items ≡ map (λ f. f.items) (take l.file-index l.files)

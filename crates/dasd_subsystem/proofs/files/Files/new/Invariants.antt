use Rattle.std.proofs.Common.{◌≡◌, length, take, map, replicate, All, IsSome}
use Rattle.ckd_image.specs.Files.{each}
use Rattle.dasd_subsystem.proofs.files.Files.new.Given as goal

-- as many files of zeros as lengths were looked at
abbrev pub invariant-loop-len : goal.invariant-loop-len
invariant-loop-len l = record {
  there : All IsSome l.held.items;
  room : length l.held.items ≡ l.len-index;
  contents : each (λ f. f.content) l.held.items ≡ map (λ n. replicate n 0) (take l.len-index l.fn.lengths);
}

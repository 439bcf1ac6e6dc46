use Rattle.std.proofs.Common.{◌≡◌, length, take, map, All, IsSome}
use Rattle.ckd_image.specs.Files.{each}
use Rattle.dasd_subsystem.proofs.files.Files.copy_of.Given as goal

-- as many copies as files were looked at, which hold what these do
abbrev pub invariant-loop-bytes : goal.invariant-loop-bytes
invariant-loop-bytes l = record {
  there : All IsSome l.held.items;
  room : length l.held.items ≡ l.bytes-index;
  contents : each (λ f. f.content) l.held.items ≡ map (λ file. file.now) (take l.bytes-index l.fn.files);
}

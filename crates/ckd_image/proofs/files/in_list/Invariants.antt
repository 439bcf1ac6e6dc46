use Rattle.std.proofs.Common.{◌≡◌, ◌≤◌, ℕ, take, length, All, IsSome}
use Rattle.ckd_image.specs.Files.{each, file_at}
use Rattle.ckd_image.proofs.files.in_list.Given as goal

abbrev pub invariant-loop-place : goal.invariant-loop-place
invariant-loop-place g l = record {
  content : each g.S.ImageStore.content l.stores.items ≡ each g.S.ImageStore.content (take l.place l.fn.files);
  origins : each g.S.ImageStore.origin l.stores.items ≡ each g.S.ImageStore.origin (take l.place l.fn.files);
  failures : each g.S.ImageStore.failures l.stores.items ≡ each g.S.ImageStore.failures (take l.place l.fn.files);
  there : All IsSome l.stores.items;
  long : length l.fn.files ≡ 8;
  room : length l.stores.items ≤ l.place;
  rest : (k : ℕ) → l.place ≤ k → file_at l.files k ≡ file_at l.fn.files k;
}

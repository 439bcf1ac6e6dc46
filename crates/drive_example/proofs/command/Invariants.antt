use Rattle.std.proofs.Common.{◌≡◌, ◌≤◌, length}
use Rattle.drive_example.proofs.command.Given as goal

-- so many of the bytes have passed, and there are as many of them as there were
abbrev pub invariant-loop : goal.invariant-loop
invariant-loop l = record {
  within : l.moved ≤ length l.bytes;
  size : length l.bytes ≡ length l.fn.bytes;
}

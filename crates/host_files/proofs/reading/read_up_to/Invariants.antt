use Rattle.std.proofs.Common.{◌≤◌, length}
use Rattle.host_files.proofs.reading.read_up_to.Given as goal

-- no more bytes than were asked for
abbrev pub invariant-loop : goal.invariant-loop
invariant-loop l = length l.bytes.items ≤ l.most

use Rattle.std.proofs.Common.{◌≡◌, ◌+◌, ◌*◌, ◌++◌, length}
use Rattle.dasd_archive.specs.Dump.{blanks_text}
use Rattle.dasd_archive.proofs.rows.put_blanks.Given as goal

-- so many are put so far
abbrev pub invariant-loop-i : goal.invariant-loop-i
invariant-loop-i l = record {
  text : l.line.items ≡ l.initial.line.items ++ blanks_text l.i;
  size : length l.line.items ≡ length l.initial.line.items + 3 * l.i;
}

use Rattle.std.proofs.Common.{◌≡◌, ◌++◌, ◌+◌, ◌-◌, ◌≤◌, length, replicate}
use Rattle.std.specs.Prelude.{max}
use Rattle.trace_words.proofs.columns.put_blanks.Given as goal

-- the blanks so far
abbrev pub invariant-loop : goal.invariant-loop
invariant-loop l = record {
  blanks : l.row.bytes ≡ l.fn.row.bytes ++ replicate (l.counter - length l.fn.row.bytes) 32;
  some : length l.fn.row.bytes + 1 ≤ l.counter;
  few : l.counter ≤ max (length l.fn.row.bytes + 1) l.column;
}

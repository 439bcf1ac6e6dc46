use Rattle.std.proofs.Common.{◌≡◌, ◌-◌, ◌≤◌, List, ℕ, None, length}
use Rattle.std.specs.Io.KnownBytes.{Appends}
use Rattle.dasd_extract.specs.Written.{behind}
use Rattle.dasd_extract.specs.Blocks.{lines_from, lines_written}
use Rattle.dasd_extract.proofs.blocks.write_lines.Given as goal

-- the lines so far are written, and what is left is that from here on
abbrev pub invariant-loop : goal.invariant-loop
invariant-loop g l = record {
  before : List ℕ;
  written : Appends (g.W.Write.contents l.fn.writer) (g.W.Write.contents l.writer) before;
  whole : lines_written l.form l.track l.number l.block ≡ behind None before
      (lines_from (length l.block - l.counter) l.form l.track l.number l.block l.at);
  within : l.at ≤ length l.block;
}

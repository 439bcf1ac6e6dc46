use Rattle.std.proofs.Common.{◌≡◌, ◌-◌, length}
use Rattle.library_contents.specs.Directories.{placed_from, placed_entries}
use Rattle.library_contents.proofs.Placed.{before_all}
use Rattle.library_contents.proofs.directories.placed_entries.Given as goal

-- the entries so far, and then those from here on
abbrev pub invariant-loop : goal.invariant-loop
invariant-loop l = placed_entries l.bytes ≡ before_all l.entries.items (placed_from (length l.bytes - l.counter) l.bytes l.at)

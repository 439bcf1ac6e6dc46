use Rattle.std.proofs.Common.{◌≡◌, [], length, map}
use Rattle.s360_assembler.specs.declared.fields.Quoting.TheVariants.{Outside}
use Rattle.s360_deck.specs.Deck.{lines_of}
use Rattle.s360_assembler.specs.Fields.{raised}
use Rattle.s360_assembler.specs.Files.{names_behind}
use Rattle.s360_assembler.proofs.files.files_named.Given as goal

-- the names so far and those of the rest are those of the whole text
abbrev pub invariant-loop-rest : goal.invariant-loop-rest
invariant-loop-rest l = record {
  named : names_behind (map (λ n. n.items) l.names.items) (lines_of l.rest) ≡ names_behind [] (lines_of (raised Outside l.text));
}

abbrev pub decreases-loop-rest : goal.decreases-loop-rest
decreases-loop-rest l = length l.rest

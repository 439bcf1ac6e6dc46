use Rattle.std.proofs.Common.{◌≡◌, ◌++◌, drop}
use Rattle.s360_assembler.specs.declared.fields.Quoting.TheVariants.{Outside}
use Rattle.s360_assembler.specs.Fields.{raised}
use Rattle.s360_assembler.proofs.fields.raised.Given as goal

-- the bytes so far and those of the rest are those of the whole text
abbrev pub invariant-loop-byte : goal.invariant-loop-byte
invariant-loop-byte l = l.capitals.items ++ raised l.quoting (drop l.byte-index l.text) ≡ raised Outside l.text

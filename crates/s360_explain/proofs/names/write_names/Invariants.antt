use Rattle.std.proofs.Common.{◌≡◌, take}
use Rattle.std.specs.Prelude.{filter}
use Rattle.std.specs.Fmt.{HasWritten, IsPlainFormatter}
use Rattle.s360_words.specs.Words.{has}
use Rattle.s360_explain.specs.Names.{bits_text}
use Rattle.s360_explain.proofs.NameLists.{is_nil}
use Rattle.s360_explain.proofs.names.write_names.Given as goal

-- the names of the bits so far are written
abbrev pub invariant-loop-bit : goal.invariant-loop-bit
invariant-loop-bit g l = record {
  written : IsPlainFormatter l.initial.f → HasWritten g.W.Write.write_str_gives l.initial.f
      (bits_text l.field (filter (has l.number) (take l.bit-index l.named))) l.f;
  first : l.is_first ≡ is_nil (filter (has l.number) (take l.bit-index l.named));
}

use Rattle.std.proofs.Common.{◌≡◌, ◌+◌, ◌-◌, ◌≤◌, ◌++◌, length, option_map}
use Rattle.set_forms.specs.Names.{bytes_within, name_bytes}
use Rattle.set_forms.proofs.names.name_bytes.Given as goal

-- the bytes so far and those of the rest are those of the whole word
abbrev pub invariant-loop-rest : goal.invariant-loop-rest
invariant-loop-rest l = record {
  spelled : option_map (λ more. l.bytes.items ++ more) (bytes_within (length l.word - length l.bytes.items) l.rest) ≡ name_bytes l.word;
  size : length l.bytes.items + length l.rest ≤ length l.word;
}

abbrev pub decreases-loop-rest : goal.decreases-loop-rest
decreases-loop-rest l = length l.rest

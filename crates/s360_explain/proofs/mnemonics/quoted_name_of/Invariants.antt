use Rattle.std.proofs.Common.{◌≡◌, ◌∷◌, map, take}
use Rattle.std.specs.Char.{to_ascii_uppercase}
use Rattle.s360_explain.specs.Names.{code_name}
use Rattle.s360_explain.proofs.mnemonics.quoted_name_of.Given as goal

-- an apostrophe, and the letters so far
abbrev pub invariant-loop-byte : goal.invariant-loop-byte
invariant-loop-byte l = l.name.items ≡ 39 ∷ map to_ascii_uppercase (take l.byte-index (code_name l.code))

use Rattle.std.proofs.Common.{◌≡◌, drop}
use Rattle.s360_explain.specs.Lines.{has_nonzero}
use Rattle.s360_explain.proofs.lines.has_nonzero.Given as goal

-- no byte so far is other than zero
abbrev pub invariant-loop-byte : goal.invariant-loop-byte
invariant-loop-byte l = has_nonzero (drop l.byte-index l.bytes) ≡ has_nonzero l.bytes

use Rattle.std.proofs.Common.{◌≡◌, ◌++◌, take, false}
use Rattle.std.specs.List.{flat_map}
use Rattle.std.specs.String.{string_bytes}
use Rattle.volume_labels.specs.Names.{byte_name}
use Rattle.volume_labels.proofs.names.push_rest.Given as goal

-- the bytes so far are appended
abbrev pub invariant-loop-i : goal.invariant-loop-i
invariant-loop-i l = string_bytes l.name ≡ string_bytes l.fn.name ++ flat_map (byte_name false) (take l.i l.bytes)

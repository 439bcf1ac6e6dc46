use Rattle.std.proofs.Common.{All, IsSome}
use Rattle.stage_files.proofs.files.Files.stores.Given as goal

abbrev pub invariant-loop-name : goal.invariant-loop-name
invariant-loop-name l = All IsSome l.stores.items

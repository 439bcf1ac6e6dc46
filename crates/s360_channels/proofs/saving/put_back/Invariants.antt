use Rattle.std.proofs.Common.{◌≡◌, take}
use Rattle.s360_channels.specs.Saves.{all_back}
use Rattle.s360_channels.proofs.saving.put_back.Given as goal

abbrev pub invariant-loop-place : goal.invariant-loop-place
invariant-loop-place g l = l.list ≡ all_back (take l.place l.saved) l.fn.list

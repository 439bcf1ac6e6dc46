use Rattle.std.proofs.Common.{◌≡◌, ◌++◌, take}
use Rattle.volume_contents.specs.Sets.{used_extents}
use Rattle.volume_contents.proofs.sets.push_extents.Given as goal

-- those so far that are extents are there
abbrev pub invariant-loop-extent : goal.invariant-loop-extent
invariant-loop-extent l = l.extents.items ≡ l.fn.extents.items ++ used_extents (take l.extent-index l.more)

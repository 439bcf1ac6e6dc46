use Rattle.std.proofs.Common.{◌≡◌, ◌++◌, take, flat_map}
use Rattle.volume_contents.specs.Sets.{first_extents, extents_in}
use Rattle.volume_contents.proofs.sets.data_set_of.Given as goal

-- the extents of the format 1 block, and of the links so far
abbrev pub invariant-loop-link : goal.invariant-loop-link
invariant-loop-link l = l.extents.items ≡ first_extents l.first ++ flat_map extents_in (take l.link-index l.link-items)

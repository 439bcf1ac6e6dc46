use Rattle.std.proofs.Common.{◌≡◌, map, take}
use Rattle.loaded_folders.proofs.member_entries.with_member.Given as goal

-- the members so far
abbrev pub invariant-loop-blocks : goal.invariant-loop-blocks
invariant-loop-blocks l = map (λ m. m.now) l.members.items ≡ map (λ m. m.items) (take l.blocks-index l.old)

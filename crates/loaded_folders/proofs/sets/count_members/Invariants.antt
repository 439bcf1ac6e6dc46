use Rattle.std.proofs.Common.{◌≡◌, ◌+◌, ◌≤◌, length, map, drop}
use Rattle.loaded_folders.specs.Sets.{members_of}
use Rattle.loaded_folders.proofs.sets.count_members.Given as goal

-- the members so far, and those of the other entries; each is an entry
abbrev pub invariant-loop-entry : goal.invariant-loop-entry
invariant-loop-entry l = record {
  members : l.count + length (members_of (map (λ e. e.now) (drop l.entry-index l.entries)))
      ≡ length (members_of (map (λ e. e.now) l.entries));
  few : l.count ≤ l.entry-index;
}

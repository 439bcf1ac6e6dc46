use Rattle.std.proofs.Common.{◌≡◌, ◌+◌, map, drop}
use Rattle.loaded_sets.specs.Contents.{text_bytes}
use Rattle.loaded_sets.specs.Members.{each_made}
use Rattle.loaded_sets.proofs.Made.{behind}
use Rattle.loaded_sets.proofs.members.text_members.Given as goal

-- the texts so far, and what is made of the others
abbrev pub invariant-loop-number : goal.invariant-loop-number
invariant-loop-number l = each_made (text_bytes l.layout) 1 (map (λ f. f.now) l.files)
    ≡ behind (map (λ t. t.items) l.texts.items) (each_made (text_bytes l.layout) (l.number + 1) (drop l.number (map (λ f. f.now) l.files)))

use Rattle.std.proofs.Common.{◌≡◌, ◌++◌, sym, subst, IfOk}
use Rattle.volume_contents.specs.Sets.{used_extents, extents_of_kind}
use Rattle.volume_contents.proofs.sets.push_link.Goals as goal

pub returns-in-MoreExtents : goal.returns-in-MoreExtents
returns-in-MoreExtents c =
    subst (λ k. IfOk c.push_extents.result (λ x. c.push_extents.new.extents.items ≡ c.args.extents.now.items
    ++ extents_of_kind c.args.link.now k)) (sym c.in-MoreExtents.is)
    (subst (λ b. IfOk c.push_extents.result (λ x. c.push_extents.new.extents.items ≡ c.args.extents.now.items ++ used_extents b.extents))
    c.extents_block.ensures c.push_extents.ensures)

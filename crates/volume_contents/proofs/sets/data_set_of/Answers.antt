use Rattle.std.proofs.Common.{◌≡◌, ◌∙◌, ◌++◌, ap, sym, subst, refl, flat_map, append-nil, false}
use Rattle.volume_contents.specs.Chains.{links_from}
use Rattle.volume_contents.specs.Sets.{first_extents, extents_in}
use Rattle.volume_contents.proofs.Added.{each_more, each_all}
use Rattle.volume_contents.proofs.sets.data_set_of.Goals as goal

pub loop-link-init : goal.loop-link-init
loop-link-init c = rw c.new-extents.ensures.items at c.in_ok-push_extents.ensures
    ∙ sym (append-nil (first_extents c.data_set_block-first.result))

pub loop-link-preserved : goal.loop-link-preserved
loop-link-preserved c = each_more _ _ _ extents_in c.deref-link-items.result.now c.loop-link.link-index _ c.loop-link-test.true
    c.loop-link.invariant c.in_ok-push_link.ensures

pub returns : goal.returns
returns c =
    let is = c.data_set_block-first.ensures in
    let chain = c.in_ok-behind.ensures in
    let all = each_all _ _ extents_in c.deref-link-items.result.now c.loop-link.link-index c.loop-link-test.false c.loop-link.invariant in
    record {
      address = refl;
      block = is;
      extents = subst (λ d. c.loop-link.extents.items ≡ first_extents d ++ flat_map extents_in
          (links_from 21 false c.args.blocks.now d.next).links) is
          (all ∙ ap (λ l. first_extents c.data_set_block-first.result ++ flat_map extents_in l) (c.deref-link-items.ensures.value
          ∙ chain.links));
      fault = subst (λ d. c.in_ok-behind.behind.fault ≡ (links_from 21 false c.args.blocks.now d.next).fault) is chain.fault;
    }

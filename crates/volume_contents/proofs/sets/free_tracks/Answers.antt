use Rattle.std.proofs.Common.{◌≡◌, ◌∙◌, ◌++◌, ap, subst, flat_map, ℕ, Option, []}
use Rattle.volume_contents.specs.Sets.{pieces_in, used_pieces, free_links, address_found}
use Rattle.volume_contents.specs.Contents.{no_block}
use Rattle.volume_contents.proofs.Added.{each_more, each_all}
use Rattle.volume_contents.proofs.sets.free_tracks.Goals as goal

pub loop-link-init : goal.loop-link-init
loop-link-init c = c.new-pieces.ensures.items

pub loop-link-preserved : goal.loop-link-preserved
loop-link-preserved c =
    each_more [] _ _ pieces_in c.deref-link-items.result.now c.loop-link.link-index no_block c.loop-link-test.true c.loop-link.invariant
    (subst (λ f. c.push_pieces.new.pieces.items ≡ c.loop-link.pieces.items ++ used_pieces f.free) c.free_space_block.ensures
    c.in_ok-push_pieces.ensures)

pub returns : goal.returns
returns c =
    let at_first = c.in-Some.ensures in
    let chain = c.in_ok-behind.ensures in
    let all = each_all [] _ pieces_in c.deref-link-items.result.now c.loop-link.link-index c.loop-link-test.false c.loop-link.invariant in
    record {
      address = ap (address_found c.args.blocks.now) at_first;
      pieces = subst (λ (p : Option ℕ). c.loop-link.pieces.items ≡ flat_map pieces_in (free_links c.args.blocks.now p).links) at_first
          (all ∙ ap (flat_map pieces_in) (c.deref-link-items.ensures.value ∙ chain.links));
      fault = subst (λ (p : Option ℕ). c.in_ok-behind.behind.fault ≡ (free_links c.args.blocks.now p).fault) at_first chain.fault;
    }

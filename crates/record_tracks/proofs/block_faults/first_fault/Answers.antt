use Rattle.std.proofs.Common.{ap₂, Some, None, refl, ◌<◌, ◌≡◌, ◌∙◌, ap, sym, ◌+◌, ◌-◌, ◌≤◌, length, drop, List, ℕ, Option}
use Rattle.record_tracks.specs.declared.{blocks.Cut.Cut, block_faults.DescribedFault.DescribedFault}
use Rattle.record_tracks.specs.{Blocks.size_of, Blocks.rests_to, BlockFaults.fault_of_first, BlockFaults.first_fault, BlockFaults.or_next}
use Rattle.record_tracks.proofs.Rests.{is_empty, has_some, none_left, next_rest, at_first, at_last}
use Rattle.record_tracks.proofs.block_faults.first_fault.Goals.{After-fault_of_first}
use Rattle.record_tracks.proofs.block_faults.first_fault.Goals as goal

pub loop-k-init : goal.loop-k-init
loop-k-init c =
    ap (λ (rests : List (List ℕ)). first_fault (fault_of_first c.args.model c.args.layout c.args.key_length c.args.blocks.cut) rests 0)
    (at_first c.args.blocks.cut c.args.blocks.bytes.now)

-- no block is left
pub returns-then-is_empty : goal.returns-then-is_empty
unfolding first_fault
returns-then-is_empty c =
    let b = c.args.blocks in
    let why = fault_of_first c.args.model c.args.layout c.args.key_length b.cut in
    let empty = is_empty _ c.is_empty.result c.is_empty.ensures c.if-is_empty.true in
    let none = none_left b.cut (length b.bytes.now - c.loop-k.k) c.loop-k.rest.now empty in
    sym (c.loop-k.invariant ∙ ap (λ rests. first_fault why rests c.loop-k.k) none)

-- what is said of the next one
next : (why : List ℕ → Option DescribedFault) (cut : Cut) (size k : ℕ) (rest left : List ℕ) (o : Option DescribedFault) → k < size
    → 1 ≤ length rest → o ≡ why rest → left ≡ drop (size_of cut rest) rest
    → first_fault why (rests_to cut (size - k) rest) k ≡ or_next k o (first_fault why (rests_to cut (size - (k + 1)) left))
unfolding first_fault
next why cut size k rest left o there some is behind =
    ap (λ rests. first_fault why rests k) (next_rest cut size k rest there some)
    ∙ ap₂ (λ o left. or_next k o (first_fault why (rests_to cut (size - (k + 1)) left))) (sym is) (sym behind)

pub returns-in-Some : goal.returns-in-Some
returns-in-Some c =
    let b = c.args.blocks in
    sym (c.loop-k.invariant ∙ next (fault_of_first c.args.model c.args.layout c.args.key_length b.cut) b.cut (length b.bytes.now) c.loop-k.k
    c.loop-k.rest.now _ (Some c.in-Some.fault) c.loop-k-test.true (has_some _ c.is_empty.result c.is_empty.ensures c.if-is_empty.false)
    (sym c.in-Some.is ∙ c.fault_of_first.ensures) refl)

pub loop-k-preserved : goal.loop-k-preserved
loop-k-preserved c =
    let b = c.args.blocks in
    c.loop-k.invariant ∙ next (fault_of_first c.args.model c.args.layout c.args.key_length b.cut) b.cut (length b.bytes.now) c.loop-k.k
    c.loop-k.rest.now _ None c.loop-k-test.true (has_some _ c.is_empty.result c.is_empty.ensures c.if-is_empty.false)
    (sym c.in_default.is ∙ c.fault_of_first.ensures) c.behind_first-rest.ensures

pub returns : goal.returns
unfolding first_fault
returns c =
    let b = c.args.blocks in
    let why = fault_of_first c.args.model c.args.layout c.args.key_length b.cut in
    let none = at_last b.cut (length b.bytes.now) c.loop-k.k c.loop-k.rest.now c.loop-k-test.false in
    sym (c.loop-k.invariant ∙ ap (λ rests. first_fault why rests c.loop-k.k) none)

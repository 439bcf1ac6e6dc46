-- Chains of control blocks that are followed step by step.
use Rattle.std.proofs.Common.{◌≡◌, ◌∙◌, ap, sym, subst, refl, ℕ, zero, suc, ◌+◌, ◌-◌, ◌<◌, ◌≤◌, List, [], ◌∷◌, ◌++◌, append_assoc}
use Rattle.std.proofs.Common.{append-nil, Bool, Option, None, Some, arith}
use Rattle.volume_labels.specs.declared.fields.RecordAddress.{RecordAddress}
use Rattle.volume_contents.specs.declared.blocks.Block.{Block}
use Rattle.volume_contents.specs.declared.chains.Chain.{Chain}
use Rattle.volume_contents.specs.declared.chains.ChainFault.{ChainFault}
use Rattle.volume_contents.specs.declared.chains.Step.TheVariants.{End, Fault, Link}
use Rattle.volume_contents.specs.Chains.{Links, ChainOf, links_from, from_step, step_to, and_more, ended, end_of, next_of}

-- blocks, and what stands behind them
abbrev pub behind : List Block → Links → Links
behind before l = record { links = before ++ l.links; fault = l.fault }

-- these blocks are followed, and what stands from the next address on is what is left of so many
abbrev pub Followed : (most counter : ℕ) → (is_free : Bool) → List Block → (first next : RecordAddress) → (links : List Block) → Type 0
Followed most counter is_free blocks first next links =
    (left : ℕ) → counter + left ≡ most → links_from most is_free blocks first ≡ behind links (links_from left is_free blocks next)

pub none_followed : (most : ℕ) (is_free : Bool) (blocks : List Block) (first : RecordAddress)
    → Followed most 0 is_free blocks first first []
none_followed most is_free blocks first left all = ap (λ n. links_from n is_free blocks first) (same most left all)
  where
    same : (most left : ℕ) → 0 + left ≡ most → most ≡ left
    same most left h = omega (arith, h)

linked : (is_free : Bool) (blocks : List Block) (next : RecordAddress) (b : Block) (left : ℕ) → Link b ≡ step_to is_free blocks next
    → links_from (suc left) is_free blocks next ≡ and_more b (links_from left is_free blocks (next_of b))
unfolding links_from
linked is_free blocks next b left is = ap (λ s. from_step s (links_from left is_free blocks)) (sym is)

ends_here : (is_free : Bool) (blocks : List Block) (next : RecordAddress) (left : ℕ) → End ≡ step_to is_free blocks next
    → links_from (suc left) is_free blocks next ≡ ended None
unfolding links_from
ends_here is_free blocks next left is = ap (λ s. from_step s (links_from left is_free blocks)) (sym is)

faults_here : (is_free : Bool) (blocks : List Block) (next : RecordAddress) (f : ChainFault) (left : ℕ)
    → Fault f ≡ step_to is_free blocks next
    → links_from (suc left) is_free blocks next ≡ ended (Some f)
unfolding links_from
faults_here is_free blocks next f left is = ap (λ s. from_step s (links_from left is_free blocks)) (sym is)

none_left : (is_free : Bool) (blocks : List Block) (next : RecordAddress) → links_from 0 is_free blocks next ≡ ended (end_of next)
unfolding links_from
none_left is_free blocks next = refl

-- one block more
pub one_followed : (most counter : ℕ) (is_free : Bool) (blocks : List Block) (first next : RecordAddress) (links now : List Block)
    (b : Block)
    → Followed most counter is_free blocks first next links → Link b ≡ step_to is_free blocks next → now ≡ links ++ b ∷ []
    → Followed most (counter + 1) is_free blocks first (next_of b) now
one_followed most counter is_free blocks first next links now b f is more left all =
    f (suc left) (one_left most counter left all)
    ∙ ap (behind links) (linked is_free blocks next b left is)
    ∙ ap (λ l. record { links = l; fault = (links_from left is_free blocks (next_of b)).fault })
    (sym (append_assoc links (b ∷ []) (links_from left is_free blocks (next_of b)).links))
    ∙ ap (λ l. behind l (links_from left is_free blocks (next_of b))) (sym more)
  where
    one_left : (most counter left : ℕ) → counter + 1 + left ≡ most → counter + suc left ≡ most
    one_left most counter left h = omega (arith, h)

chain_is : (most : ℕ) (is_free : Bool) (blocks : List Block) (first : RecordAddress) (c : Chain) (fault : Option ChainFault)
    → links_from most is_free blocks first ≡ behind c.links.items (ended fault) → c.fault ≡ fault → ChainOf most is_free blocks first c
chain_is most is_free blocks first c fault is same = record {
  links = sym (ap (λ (l : Links). l.links) is ∙ append-nil c.links.items);
  fault = same ∙ sym (ap (λ (l : Links). l.fault) is);
}

counted : (most counter : ℕ) → counter < most → counter + suc (most - suc counter) ≡ most
counted most counter h = omega (arith, h)

-- it ends there
pub followed_to_end : (most counter : ℕ) (is_free : Bool) (blocks : List Block) (first next : RecordAddress) (c : Chain)
    → Followed most counter is_free blocks first next c.links.items → counter < most → End ≡ step_to is_free blocks next → c.fault ≡ None
    → ChainOf most is_free blocks first c
followed_to_end most counter is_free blocks first next c f inside is same =
    chain_is most is_free blocks first c None
    (f (suc (most - suc counter)) (counted most counter inside) ∙ ap (behind c.links.items) (ends_here is_free blocks next _ is)) same

-- what stands there is wrong
pub followed_to_fault : (most counter : ℕ) (is_free : Bool) (blocks : List Block) (first next : RecordAddress) (c : Chain)
    (fault : ChainFault)
    → Followed most counter is_free blocks first next c.links.items → counter < most → Fault fault ≡ step_to is_free blocks next
    → c.fault ≡ Some fault
    → ChainOf most is_free blocks first c
followed_to_fault most counter is_free blocks first next c fault f inside is same =
    chain_is most is_free blocks first c (Some fault)
    (f (suc (most - suc counter)) (counted most counter inside) ∙ ap (behind c.links.items) (faults_here is_free blocks next fault _ is))
    same

-- as many blocks as there may be
pub followed_all : (most counter : ℕ) (is_free : Bool) (blocks : List Block) (first next : RecordAddress) (c : Chain)
    → Followed most counter is_free blocks first next c.links.items → most ≤ counter → counter ≤ most → c.fault ≡ end_of next
    → ChainOf most is_free blocks first c
followed_all most counter is_free blocks first next c f done few same =
    chain_is most is_free blocks first c (end_of next)
    (f 0 (omega (arith, done, few)) ∙ ap (behind c.links.items) (none_left is_free blocks next)) same

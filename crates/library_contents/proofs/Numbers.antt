-- Where in the blocks of a member others begin.
use Rattle.std.proofs.Common.{ℕ, zero, suc, ◌+◌, ◌-◌, ◌<◌, ◌≤◌, ◌≡◌, ◌∙◌, List, length, bytes_eq, if◌then◌else◌, ◌==◌, Bool, true, false}
use Rattle.std.proofs.Common.{Option, Some, None, ap, sym, refl, arith}
use Rattle.std.proofs.lemmas.Slice.Eq.{bytes_eq-Decides}
use Rattle.library_contents.specs.Notes.{behind_block, number_from, block_number, from_block, NumberIsWhereTheyBegin}

module _ (others : List ℕ) where
  more_blocks : (most number : ℕ) (blocks : List ℕ) → number_from (suc most) number blocks others
      ≡ (if bytes_eq blocks others then Some number else number_from most (number + 1) (behind_block blocks) others)
  unfolding number_from
  more_blocks most number blocks = refl

  no_blocks : (number : ℕ) (blocks : List ℕ) → number_from zero number blocks others ≡ None
  unfolding number_from
  no_blocks number blocks = refl

  module _ (all k : ℕ) (blocks : List ℕ) where
    pub past_blocks : all ≤ k → number_from (all - k) k blocks others ≡ None
    past_blocks passed = let e : all - k ≡ 0 = omega (arith, passed) in ap (λ m. number_from m k blocks others) e ∙ no_blocks k blocks

    this_block : k < all → number_from (all - k) k blocks others
        ≡ (if bytes_eq blocks others then Some k else number_from (all - (k + 1)) (k + 1) (behind_block blocks) others)
    this_block inside = let e : all - k ≡ suc (all - (k + 1)) = omega arith in cc (more_blocks (all - (k + 1)) k blocks)

    pub are_these : k < all → bytes_eq blocks others ≡ true → number_from (all - k) k blocks others ≡ Some k
    are_these inside same = cc (this_block inside)

    pub are_others : k < all → bytes_eq blocks others ≡ false
        → number_from (all - k) k blocks others ≡ number_from (all - (k + 1)) (k + 1) (behind_block blocks) others
    are_others inside same = cc (this_block inside)

pub is_number : (member blocks : List ℕ) (r : Option ℕ) → (length blocks == 0) ≡ false → number_from (length member) 0 member blocks ≡ r
    → r ≡ block_number member blocks
is_number member blocks r full is = sym (ap (λ (e : Bool). if e then None else number_from (length member) 0 member blocks) full ∙ is)

-- Where they begin.
first_block : (blocks : List ℕ) → from_block blocks zero ≡ blocks
unfolding from_block
first_block blocks = refl

next_block : (blocks : List ℕ) (number : ℕ) → from_block blocks (suc number) ≡ from_block (behind_block blocks) number
unfolding from_block
next_block blocks number = refl

-- from the block of a number on they are these, the first having another
record Begins (others : List ℕ) (first number : ℕ) (blocks : List ℕ) : Type 0 where
  behind : ℕ
  is : number ≡ first + behind
  are : from_block blocks behind ≡ others

module _ (others : List ℕ) (number : ℕ) where
  one_more : (first : ℕ) (blocks : List ℕ) → Begins others (first + 1) number (behind_block blocks) → Begins others first number blocks
  one_more first blocks b = record { behind = suc b.behind; is = omega (arith, b.is); are = next_block blocks b.behind ∙ b.are }

  this_one : (first : ℕ) (blocks : List ℕ) → bytes_eq blocks others ≡ true → Some first ≡ Some number → Begins others first number blocks
  this_one first blocks same is = record {
    behind = zero;
    is = grind (arith, is);
    are = first_block blocks ∙ (bytes_eq-Decides blocks others).0 same;
  }

  step : (most first : ℕ) (blocks : List ℕ) (same : Bool) → bytes_eq blocks others ≡ same
      → (number_from most (first + 1) (behind_block blocks) others ≡ Some number → Begins others (first + 1) number (behind_block blocks))
      → (if same then Some first else number_from most (first + 1) (behind_block blocks) others) ≡ Some number
      → Begins others first number blocks
  step most first blocks true same rest is = this_one first blocks same is
  step most first blocks false same rest is = one_more first blocks (rest is)

  begins : (most first : ℕ) (blocks : List ℕ) → number_from most first blocks others ≡ Some number → Begins others first number blocks
  begins zero first blocks is = (let e : None ≡ Some number = sym (no_blocks others first blocks) ∙ is in absurd cc)
  begins (suc most) first blocks is = step most first blocks (bytes_eq blocks others) refl (begins most (first + 1) (behind_block blocks))
      (sym (more_blocks others most first blocks) ∙ is)

  pub begin_there : (member : List ℕ) (empty : Bool) → (if empty then None else number_from (length member) 0 member others) ≡ Some number
      → from_block member number ≡ others
  begin_there member true is = absurd cc
  begin_there member false is =
      let b = begins (length member) 0 member is in
      let same : number ≡ b.behind = omega (arith, b.is) in ap (from_block member) same ∙ b.are

pub number_is_where_they_begin : NumberIsWhereTheyBegin
number_is_where_they_begin member blocks number is = begin_there blocks number member (length blocks == 0) is

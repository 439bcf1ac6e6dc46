-- Characters are looked up in code page 037.
use Rattle.std.proofs.Common.{◌≡◌, ◌≤◌, ◌+◌, ℕ, zero, suc, ◌==◌, nat_lt, true, false, List, map, refl, arith, replicate, zero-add, add-one}
use Rattle.std.proofs.Common.{Option, Some, None, position, is_some, if◌then◌else◌}
use Rattle.std.specs.{List.list_all, List.range_with_len, Prelude.slice_index_or, Prelude.slice_set}
use Rattle.std.proofs.lemmas.List.{get_or-map, FromFn.get_or-range_with_len, FromFn.length-range_with_len, Sums.AllPass-from_list_all}
use Rattle.std.proofs.lemmas.{List.Quantifiers.position-Some, Bool.ltb-true, Bool.eqb-true}
use Rattle.volume_labels.specs.Ebcdic.{character_of, code_page_037}
use Rattle.record_tracks.specs.Codes.{code_of, IsTable}

-- A byte enters the table at its character, unless another one is there.
unfoldable pub entered : (n : ℕ) → List (Option ℕ) → List (Option ℕ)
entered n table = if is_some (slice_index_or table (character_of n) None) then table else slice_set table (character_of n) (Some n)

-- the table after the first bytes
unfoldable pub tabled : (n : ℕ) → List (Option ℕ)
tabled zero = replicate 256 None
tabled (suc n) = entered n (tabled n)

pub none_tabled : replicate 256 None ≡ tabled 0
unfolding tabled
none_tabled = refl

module _ (table : List (Option ℕ)) (n at : ℕ) (so_far : table ≡ tabled n) (is : at ≡ character_of n) where
  pub had : is_some (slice_index_or table at None) ≡ true → table ≡ tabled (n + 1)
  unfolding tabled entered
  had some = let there = rw (so_far, is) at some in rw (add-one, there) so_far

  pub lacked : is_some (slice_index_or table at None) ≡ false → slice_set table at (Some n) ≡ tabled (n + 1)
  unfolding tabled entered
  lacked none = let none = rw (so_far, is) at none in rw (so_far, is, add-one, none) refl

-- Behind all bytes it has the places of all characters.
places : List (Option ℕ)
places = map (λ (c : ℕ). position (λ (it : ℕ). it == c) code_page_037) (range_with_len 0 256)

whole : tabled 256 ≡ places
unfolding tabled entered places code_page_037
whole = refl

pub is_table : (table : List (Option ℕ)) (n : ℕ) → table ≡ tabled n → n ≤ 256 → 256 ≤ n → IsTable table
unfolding places
is_table table n is most least c below =
    let all : n ≡ 256 = omega arith in
    let long = length-range_with_len 0 256 in rw (
      is,
      all,
      whole,
      get_or-map (λ (c : ℕ). position (λ (it : ℕ). it == c) code_page_037) (range_with_len 0 256) c 0 None (omega arith),
      get_or-range_with_len 0 256 c 0 below,
      zero-add,
    ) refl

all_below : list_all (λ it. nat_lt it 256) code_page_037 ≡ true
unfolding code_page_037
all_below = refl

-- no entry is a character from 256 on
pub none_from : (c : ℕ) → 256 ≤ c → code_of c ≡ None
none_from c large = by (position (λ it. it == c) code_page_037) refl
  where
    by : (o : Option ℕ) → position (λ it. it == c) code_page_037 ≡ o → code_of c ≡ None
    by None e = grind (arith, e)
    by (Some i) e =
        let there = position-Some (λ (it : ℕ). it == c) code_page_037 i 0 e in
        let small = ltb-true (character_of i) 256 (AllPass-from_list_all (λ (it : ℕ). nat_lt it 256) code_page_037 all_below i 0 there.0) in
        absurd (omega (arith, eqb-true (character_of i) c there.1))

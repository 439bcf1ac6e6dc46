-- The channels are copied, one after another.
use Rattle.std.proofs.Common.{◌≡◌, ℕ, ◌+◌, ◌<◌, sym, ◌∙◌, arith, List, [], ◌∷◌, length, drop}
use Rattle.std.specs.Prelude.{slice_index_or}
use Rattle.std.proofs.lemmas.List.{drop_more, drop_all}

-- the copy of the one at a place, before the copies of those behind it
pub before : {A : Type 0} {x : A} {xs : List A} (cs : List A) (k : ℕ) (r : A) → length cs ≡ 7 → k < 7 → x ≡ slice_index_or cs k r
    → xs ≡ drop (k + 1) cs → x ∷ xs ≡ drop k cs
before cs k r seven few e f = (λ i. e i ∷ f i) ∙ sym (drop_more cs k r (omega (arith, seven, few)))

-- there are none behind the last
pub none_behind : {A : Type 0} (cs : List A) → length cs ≡ 7 → [] ≡ drop 7 cs
none_behind cs seven = sym (drop_all 7 cs (omega (arith, seven)))

-- What is shown of each drive.
use Rattle.std.proofs.Common.{◌≡◌, ◌<◌, ◌∙◌, subst, sym, ℕ, List, length, map, Option, None}
use Rattle.std.proofs.lemmas.Grind.{same_number_lists}
use Rattle.std.proofs.lemmas.List.{get_or-map, length-map}
use Rattle.std.specs.Prelude.{slice_index_or}

-- numbers that are what a function gives of each element, one after another
pub mapped : {A : Type 0} (f : Option A → ℕ) (xs : List (Option A)) (ys : List ℕ) (n : ℕ) → length xs ≡ n → length ys ≡ n
    → ((k : ℕ) → k < n → slice_index_or ys k 0 ≡ f (slice_index_or xs k None)) → ys ≡ map f xs
mapped f xs ys n long same each =
    same_number_lists ys (map f xs) (same ∙ sym (length-map xs f ∙ long))
    (λ k h. each k (subst (λ m. k < m) same h) ∙ sym (get_or-map f xs k None 0 (subst (λ m. k < m) (same ∙ sym long) h)))

-- Lists of files that are there.
use Rattle.std.proofs.Common.{◌≡◌, ap, List, [], ◌∷◌, ◌++◌, refl, Option, Some, None}
use Rattle.ckd_image.specs.Files.{each}

-- one file more
pub each_append : {S T : Type 0} (f : S → T) (xs ys : List (Option S)) → each f (xs ++ ys) ≡ each f xs ++ each f ys
each_append f [] ys = refl
each_append f (None ∷ xs) ys = each_append f xs ys
each_append f (Some s ∷ xs) ys = ap (λ ts. f s ∷ ts) (each_append f xs ys)

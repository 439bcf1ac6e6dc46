-- Files of a list that are all there.
use Rattle.std.proofs.Common.{◌≡◌, ◌∙◌, ◌<◌, ◌≤◌, ℕ, zero, suc, ap, sym, refl, subst, arith, List, [], ◌∷◌, length, set, Option, Some, None}
use Rattle.std.proofs.Common.{IsSome, All}
use Rattle.std.specs.Prelude.{option_map, slice_get}
use Rattle.std.proofs.lemmas.List.{length-set}
use Rattle.std.proofs.lemmas.List.Elements.{All-head, All-tail, All-set}
use Rattle.ckd_image.specs.Files.{each, file_at, held}
use Rattle.ckd_image.proofs.FileLemmas.{each_same}
use Rattle.dasd_files.specs.Files.{FileState}

-- the file at a place
pub there_at : {S : Type 0} (files : List (Option S)) (place : ℕ) → All IsSome files → place < length files → IsSome (file_at files place)
there_at [] place all h = absurd (omega arith)
there_at (f ∷ files) zero all h = All-head IsSome f files all
there_at (f ∷ files) (suc place) all h = there_at files place (All-tail IsSome f files all) (omega arith)

pub get_each : {S T : Type 0} (f : S → T) (files : List (Option S)) (place : ℕ) → All IsSome files
    → slice_get (each f files) place ≡ option_map f (file_at files place)
get_each f [] place all = refl
get_each f (None ∷ files) place all = let none = All-head IsSome None files all in cc
get_each f (Some s ∷ files) zero all = refl
get_each f (Some s ∷ files) (suc place) all = get_each f files place (All-tail IsSome (Some s) files all)

pub get_past : {S T : Type 0} (f : S → T) (files : List (Option S)) (place : ℕ) → All IsSome files → length files ≤ place
    → slice_get (each f files) place ≡ None
get_past f [] place all h = refl
get_past f (None ∷ files) place all h = let none = All-head IsSome None files all in cc
get_past f (Some s ∷ files) zero all h = absurd (omega arith)
get_past f (Some s ∷ files) (suc place) all h = get_past f files place (All-tail IsSome (Some s) files all) (omega arith)

-- each has its bytes
each_count : {S T : Type 0} (f : S → T) (files : List (Option S)) → All IsSome files → length (each f files) ≡ length files
each_count f [] all = refl
each_count f (None ∷ files) all = let none = All-head IsSome None files all in cc
each_count f (Some s ∷ files) all = ap suc (each_count f files (All-tail IsSome (Some s) files all))

pub count_seen : (files : List (Option FileState)) (seen : List (List ℕ)) → All IsSome files → each (λ f. f.content) files ≡ seen
    → length files ≡ length seen
count_seen files seen all e = sym (each_count (λ f. f.content) files all) ∙ ap length e

-- as many, of the same bytes
pub record Same (old now : List (Option FileState)) : Type 0 where
  pub there : All IsSome now
  pub size : length now ≡ length old
  pub contents : each (λ f. f.content) now ≡ each (λ f. f.content) old

-- behind a call at one of them, which keeps its bytes
pub behind : (old files new : List (Option FileState)) (place : ℕ) → Same old files → place < length old
    → new ≡ set files place (file_at new place) → IsSome (file_at new place)
    → held (λ f. f.content) [] (file_at new place) ≡ held (λ f. f.content) [] (file_at files place) → Same old new
behind old files new place same below is stays content =
    let long = same.size in
    let exists : place < length files = omega arith in
    record {
      there = subst (All IsSome) (sym is) (All-set IsSome files place (file_at new place) stays same.there);
      size = ap length is ∙ length-set files place (file_at new place) ∙ same.size;
      contents =
          each_same (λ f. f.content) [] files new place
          (record { exists = exists; there = there_at files place same.there exists; stays = stays; is = is }) content ∙ same.contents;
    }

-- Files that are read and data sets that are loaded, one behind another.
use Rattle.std.proofs.Common.{◌≡◌, ◌∙◌, ap, sym, refl, subst, ℕ, suc, ◌+◌, ◌<◌, ◌≤◌, List, [], ◌∷◌, ◌++◌, length}
use Rattle.std.proofs.Common.{map, drop, get_or, append_assoc, append-nil}
use Rattle.std.proofs.lemmas.List.{drop_more, drop_all}
use Rattle.ckd_image.specs.Image.{ImageState}
use Rattle.ckd_track.specs.declared.geometries.Geometry.{Geometry}
use Rattle.changed_volumes.specs.Changes.{IsSameImage}
use Rattle.dasd_jobs.specs.Sources.{SourceFile, ReadsFront}
use Rattle.dasd_unload.specs.Volumes.{path_in}
use Rattle.loaded_sets.specs.declared.contents.SourceForm.{SourceForm}
use Rattle.loaded_folders.specs.Sets.{FolderSet}
use Rattle.loaded_folders.specs.Reading.{ReadsFiles}
use Rattle.loaded_folders.specs.Loads.{GetsOne, GetsAll, line_of}

-- what f makes of the elements from one on
pub next_of : {X Y : Type 0} (f : X → Y) (xs : List X) (i : ℕ) (x : X) → x ≡ get_or xs i x → i < length xs
    → map f (drop i xs) ≡ f x ∷ map f (drop (i + 1) xs)
next_of f xs i x is inside = ap (map f) (drop_more xs i x inside) ∙ ap (λ y. f y ∷ map f (drop (i + 1) xs)) (sym is)

-- elements that were passed, as f makes them, and those that are left
pub record SoFar {X Y : Type 0} (f : X → Y) (xs : List X) (i : ℕ) (done : List Y) : Type 0 where
  pub all : done ++ map f (drop i xs) ≡ map f xs

module _ {X Y : Type 0} (f : X → Y) (xs : List X) (i : ℕ) (done : List Y) (so_far : SoFar f xs i done) where
  module _ (x : X) (is : x ≡ get_or xs i x) (inside : i < length xs) where
    -- the next of them stands behind those that were passed
    pub split : map f xs ≡ done ++ f x ∷ map f (drop (i + 1) xs)
    split = sym so_far.all ∙ ap (λ l. done ++ l) (next_of f xs i x is inside)

    -- it was passed
    pub one_more : SoFar f xs (i + 1) (done ++ f x ∷ [])
    one_more = record { all = append_assoc done (f x ∷ []) (map f (drop (i + 1) xs)) ∙ sym split }

  -- all were passed
  pub all_passed : length xs ≤ i → done ≡ map f xs
  all_passed passed = sym (append-nil done) ∙ sym (ap (λ l. done ++ map f l) (drop_all i xs passed)) ∙ so_far.all

-- files were read, and one more
pub reads_more : (folder : List ℕ) (names bytes : List (List ℕ)) (n b : List ℕ) (a m z : List SourceFile)
    → ReadsFiles folder names bytes a m → ReadsFront (path_in folder n) 9560245800 b m z
    → ReadsFiles folder (names ++ n ∷ []) (bytes ++ b ∷ []) a z
reads_more folder [] [] n b a m z is read =
    (z, subst (λ (s : List SourceFile). ReadsFront (path_in folder n) 9560245800 b s z) is read, refl)
reads_more folder [] (x ∷ bytes) n b a m z is read = elim is [ ]
reads_more folder (y ∷ names) [] n b a m z is read = elim is [ ]
reads_more folder (y ∷ names) (x ∷ bytes) n b a m z (between, front, others) read =
    (between, front, reads_more folder names bytes n b between m z others read)

-- as many files were read as there are names
pub as_many : (folder : List ℕ) (names bytes : List (List ℕ)) (a z : List SourceFile) → ReadsFiles folder names bytes a z
    → length bytes ≡ length names
as_many folder [] [] a z is = refl
as_many folder [] (x ∷ bytes) a z is = elim is [ ]
as_many folder (y ∷ names) [] a z is = elim is [ ]
as_many folder (y ∷ names) (x ∷ bytes) a z (between, front, others) = ap suc (as_many folder names bytes between z others)

-- data sets were loaded, and one more
pub gets_more : (source : SourceForm) (sets : List FolderSet) (s : FolderSet) (g : Geometry) (a b c : List (List ℕ)) (l : List ℕ) (t : ℕ)
    → GetsAll source sets g a b l → GetsOne source s g b t c → GetsAll source (sets ++ s ∷ []) g a c (l ++ line_of s t)
gets_more source [] s g a b c l t (same, none) one = (
  t,
  c,
  [],
  subst (λ (x : List (List ℕ)). GetsOne source s g x t c) same one,
  (refl, refl),
  ap (λ (x : List ℕ). x ++ line_of s t) none ∙ sym (append-nil (line_of s t)),
)
gets_more source (x ∷ sets) s g a b c l t (n, m, more, first, others, is) one = (
  n,
  m,
  more ++ line_of s t,
  first,
  gets_more source sets s g m b c more t others one,
  ap (λ (y : List ℕ). y ++ line_of s t) is ∙ append_assoc (line_of x n) more (line_of s t),
)

-- an image stays the same but for its slots, by two calls
pub same_through : (a b c : ImageState) → IsSameImage a b → IsSameImage b c → IsSameImage a c
same_through a b c first next = record { geometry = next.geometry ∙ first.geometry; lasting = next.lasting ∙ first.lasting }

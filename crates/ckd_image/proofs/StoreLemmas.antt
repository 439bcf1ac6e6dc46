-- The stores of an image's files, each in a field of its own.
use Rattle.std.proofs.Common.{◌≡◌, ℕ, zero, suc, List, [], ◌∷◌, length, Option, Some, None, set, refl, arith}
use Rattle.std.specs.List.{AllByRecursion}
use Rattle.ckd_image.specs.Files.{file_at, each, HoldTracks, HoldsWhole}

module _ {S : Type 0} where
  -- The files once the first of them were taken.
  abbrev pub taken : List (Option S) → ℕ → List (Option S)
  taken files zero = files
  taken files (suc k) = set (taken files k) k None

  -- A list of eight is its elements, taken one after another.
  pub eight : (files : List (Option S)) → length files ≡ 8
      → file_at files 0 ∷ file_at (taken files 1) 1 ∷ file_at (taken files 2) 2 ∷ file_at (taken files 3) 3 ∷ file_at (taken files 4) 4
      ∷ file_at (taken files 5) 5 ∷ file_at (taken files 6) 6 ∷ file_at (taken files 7) 7 ∷ [] ≡ files
  eight (a ∷ b ∷ c ∷ d ∷ e ∷ f ∷ g ∷ h ∷ []) long = refl
  eight files long = absurd (omega (arith, long))

  -- One more file before those that hold these tracks.
  pub holds_more : (content : S → List ℕ) (size : ℕ) (file : Option S) (n : ℕ) (files : List (Option S)) (tracks : List ℕ)
      → HoldTracks content size (file ∷ []) (n ∷ []) → HoldTracks content size files tracks
      → HoldTracks content size (file ∷ files) (n ∷ tracks)
  holds_more content size None n files tracks one rest = (one.0, rest)
  holds_more content size (Some s) n files tracks one rest = (one.0, rest)

  -- Each of several files is whole.
  pub each_whole : (content : S → List ℕ) (size : ℕ) (f : Option S) (files : List (Option S))
      → AllByRecursion (HoldsWhole size) (each content (f ∷ files))
      → AllByRecursion (HoldsWhole size) (each content (f ∷ [])) × AllByRecursion (HoldsWhole size) (each content files)
  each_whole content size None files whole = (tt, whole)
  each_whole content size (Some s) files whole = ((whole.0, tt), whole.1)

-- what counting the tracks of each file asks
pub ruleset counting = (holds_more, each_whole)

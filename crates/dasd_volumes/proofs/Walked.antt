-- Texts of tracks that are printed one after another.
use Rattle.std.proofs.Common.{ℕ, ◌≡◌, List, [], ◌∷◌, ◌++◌, append-nil, sym, subst, refl, ap, ◌∙◌}
use Rattle.std.specs.List.{flat_map, FoldsTo}
use Rattle.std.proofs.lemmas.List.Concat.{flat_map-append, flat_map-cons}
use Rattle.ckd_track.specs.declared.geometries.Geometry.{Geometry}
use Rattle.ckd_track.specs.Geometry.{track_at}
use Rattle.std.specs.Prelude.{slice_index_or}
use Rattle.dasd_volumes.specs.Reading.{KnownVolume}
use Rattle.dasd_volumes.specs.declared.walks.Range.{Range}
use Rattle.dasd_volumes.specs.declared.walks.Tracks.{Tracks}
use Rattle.dasd_volumes.specs.Volumes.{ReadTrack, track_read, tracks_in, text_on, text_in, all_tracks}

-- a track that was read, by its slot
pub read_is : (g h : Geometry) (slots : List (List ℕ)) (cylinder head number : ℕ) (slot : List ℕ)
    → h ≡ g → number ≡ track_at h cylinder head
    → slot ≡ slice_index_or slots number []
    → record { track = record { geometry = h; cylinder = cylinder; head = head }; slot = slot } ≡ track_read g slots cylinder head
read_is g h slots cylinder head number slot same at is = rw (is, at, same) refl

-- what holds of the text of one track holds of that of a list of it alone, and where the text is the same
pub text_of_one : (P : List ℕ → Type 0) (text now : ReadTrack → List ℕ) (x y : ReadTrack) → now ≡ text → x ≡ y → P (now x)
    → P (flat_map text (y ∷ []))
text_of_one P text now x y same is holds =
    subst P (sym (append-nil (text y))) (subst (λ z. P (text z)) is (subst (λ t. P (t x)) same holds))

-- what holds of the text of a cylinder holds where the text and the volume are the same
pub text_same : (P : List ℕ → Type 0) (text now : ReadTrack → List ℕ) (v w : KnownVolume) (heads : Range) (cylinder : ℕ)
    (slots : List (List ℕ)) → now ≡ text → w ≡ v → P (text_on now heads cylinder w.geometry slots)
    → P (text_on text heads cylinder v.geometry slots)
text_same P text now v w heads cylinder slots same kept holds =
    subst (λ t. P (text_on t heads cylinder v.geometry slots)) same
    (subst (λ (u : KnownVolume). P (text_on now heads cylinder u.geometry slots)) kept holds)

-- steps, and then more
pub steps_then : {P A : Type 0} (R : P → A → P → Type 0) (p q r : P) (xs ys : List A) → FoldsTo R p xs q → FoldsTo R q ys r
    → FoldsTo R p (xs ++ ys) r
steps_then R p q r [] ys first next = subst (λ j. FoldsTo R j ys r) (sym first) next
steps_then R p q r (x ∷ xs) ys first next = (first.0, first.1, steps_then R first.0 q r xs ys first.2 next)

-- what holds of a text of all tracks, where they are found to be all
pub text_of_all : (P : List ℕ → Type 0) (text : ReadTrack → List ℕ) (tracks : Tracks) (g : Geometry) (slots : List (List ℕ))
    → tracks ≡ all_tracks g → P (text_in text tracks g slots) → P (text_in text (all_tracks g) g slots)
text_of_all P text tracks g slots same holds = subst (λ t. P (text_in text t g slots)) same holds

-- the lines of what is found of one after another
pub lines_of_all : {X Y : Type 0} (line : Y → List ℕ) (of : X → List Y) (xs : List X)
    → flat_map (λ x. flat_map line (of x)) xs ≡ flat_map line (flat_map of xs)
lines_of_all line of [] = refl
lines_of_all line of (x ∷ xs) =
    flat_map-cons (λ y. flat_map line (of y)) x xs ∙ ap (λ l. flat_map line (of x) ++ l) (lines_of_all line of xs)
    ∙ sym (flat_map-append line (of x) (flat_map of xs)) ∙ ap (flat_map line) (sym (flat_map-cons of x xs))

-- what holds of the lines of what is found of each track holds of those of all that is found
pub lines_of_found : {Y : Type 0} (P : List ℕ → Type 0) (line : Y → List ℕ) (found : ReadTrack → List Y) (tracks : Tracks) (g : Geometry)
    (slots : List (List ℕ)) → tracks ≡ all_tracks g → P (text_in (λ t. flat_map line (found t)) tracks g slots)
    → P (flat_map line (flat_map found (tracks_in (all_tracks g) g slots)))
lines_of_found P line found tracks g slots same holds =
    subst P (lines_of_all line found (tracks_in (all_tracks g) g slots))
    (text_of_all P (λ t. flat_map line (found t)) tracks g slots same holds)

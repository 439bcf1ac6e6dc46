-- How many tracks there are, and how many of them can't be read.
use Rattle.std.proofs.Common.{◌≡◌, ℕ, zero, suc, ◌+◌, ◌*◌, ◌-◌, ◌^◌, ◌<◌, ◌≤◌, ◌∙◌, List, [], ◌∷◌, Result, Ok, Err, length}
use Rattle.std.proofs.Common.{length-append, add-one, refl, sym, ap, subst, arith}
use Rattle.std.proofs.lemmas.List.Concat.{flat_map-cons}
use Rattle.std.specs.List.{flat_map, FoldsTo}
use Rattle.ckd_track.specs.declared.fault.SlotFault.{SlotFault}
use Rattle.ckd_track.specs.declared.geometries.Geometry.{Geometry}
use Rattle.ckd_track.specs.declared.model.DriveModel.{DriveModel}
use Rattle.ckd_track.specs.declared.model.DriveModel.TheVariants.{D2311, D2314}
use Rattle.ckd_track.specs.Model.{heads_of}
use Rattle.ckd_track.specs.Track.{Track, track_of}
use Rattle.dasd_volumes.specs.declared.walks.Tracks.{Tracks}
use Rattle.dasd_volumes.specs.Checks.{findings_at, findings_in_track, findings_in, CountsFinding}
use Rattle.dasd_volumes.specs.Volumes.{of_each, ReadTrack, track_read, tracks_on, tracks_in, all_heads, all_tracks}
use Rattle.dasd_volumes.proofs.Appended.{of_none, of_one_more}

-- what there is of a track and of more
module _ {A : Type 0} (of : ReadTrack → List A) where
  pub of_one_and_more : (t : ReadTrack) (ts : List ReadTrack) → length (flat_map of (t ∷ ts)) ≡ length (of t) + length (flat_map of ts)
  of_one_and_more t ts = ap length (flat_map-cons of t ts) ∙ length-append (of t) (flat_map of ts)

  -- at most one of each track
  pub few_of_tracks : ((t : ReadTrack) → length (of t) ≤ 1) → (tracks : List ReadTrack) → length (flat_map of tracks) ≤ length tracks
  few_of_tracks few [] = omega arith
  few_of_tracks few (t ∷ ts) =
      let both = of_one_and_more t ts in let one = few t in let rest = few_of_tracks few ts in omega (arith, both, one, rest)

each_one : {A : Type 0} (of : ℕ → A) (n : ℕ) → length (of_each (λ k. of k ∷ []) n) ≡ n
each_one of zero = ap length (of_none (λ k. of k ∷ []))
each_one of (suc n) =
    subst (λ k. length (of_each (λ k. of k ∷ []) k) ≡ k) (add-one n)
    (ap length (of_one_more (λ k. of k ∷ []) n) ∙ length-append (of_each (λ k. of k ∷ []) n) (of n ∷ [])
    ∙ ap (λ (m : ℕ). m + 1) (each_one of n))

each_few : {A : Type 0} (of : ℕ → List A) → ((k : ℕ) → length (of k) ≤ 20) → (n : ℕ) → length (of_each of n) ≤ 20 * n
each_few of few zero = let none = ap length (of_none of) in omega (arith, none)
each_few of few (suc n) =
    subst (λ k. length (of_each of k) ≤ 20 * k) (add-one n)
    (let both = ap length (of_one_more of n) ∙ length-append (of_each of n) (of n) in
    let so_far = each_few of few n in let one = few n in omega (arith, both, so_far, one))

heads_few : (model : DriveModel) → heads_of model ≤ 20
heads_few D2311 = omega arith
heads_few D2314 = omega arith

-- how many tracks a volume has at most
pub tracks_few : (g : Geometry) (slots : List (List ℕ)) → g.cylinders < 65536 → length (tracks_in (all_tracks g) g slots) ≤ 20 * 65536
tracks_few g slots fits =
    let most = each_few (λ k. tracks_on (all_heads g) (0 + k) g slots)
    (λ k. let is = each_one (λ j. track_read g slots (0 + k) (0 + j)) (heads_of g.model - 1 + 1 - 0) in
    let few = heads_few g.model in omega (arith, is, few)) (g.cylinders - 1 + 1 - 0) in
    omega (arith, most, fits)

-- Tracks that can't be read.

one_found : (cylinder head : ℕ) (seen : Result Track SlotFault) → length (findings_at cylinder head seen) ≤ 1
one_found cylinder head (Ok t) = omega arith
one_found cylinder head (Err fault) = omega arith

counted_so : {P : Type 0} (number : P → ℕ) (p q : P) (tracks : List ReadTrack)
    → FoldsTo (λ p t q. CountsFinding (number p) t (number q)) p tracks q
    → number p + length (flat_map findings_in_track tracks) < 2 ^ 32
    → number q ≡ number p + length (flat_map findings_in_track tracks)
counted_so number p q [] same fits =
    let is : number q ≡ number p = ap number (sym same) in
    let none : length (flat_map findings_in_track []) ≡ 0 = refl in omega (arith, is, none)
counted_so number p q (t ∷ ts) steps fits =
    let both = of_one_and_more findings_in_track t ts in
    let first = steps.1 (omega (arith, fits, both)) in
    let next = counted_so number steps.0 q ts steps.2 (omega (arith, fits, both, first)) in
    omega (arith, both, first, next)

-- those of all tracks were counted
pub all_found : {P : Type 0} (number : P → ℕ) (p q : P) (tracks : Tracks) (g : Geometry) (slots : List (List ℕ))
    → g.cylinders < 65536 → number p ≡ 0 → tracks ≡ all_tracks g
    → FoldsTo (λ p t q. CountsFinding (number p) t (number q)) p (tracks_in tracks g slots) q
    → number q ≡ length (findings_in g slots)
all_found number p q tracks g slots fits begins same steps =
    let all = tracks_in (all_tracks g) g slots in
    let most = tracks_few g slots fits in
    let few = few_of_tracks findings_in_track (λ t. one_found t.track.cylinder t.track.head (track_of t.slot)) all in
    let is = counted_so number p q all
    (subst (λ t. FoldsTo (λ p t q. CountsFinding (number p) t (number q)) p (tracks_in t g slots) q) same steps)
    (omega (arith, most, few, begins)) in
    omega (arith, is, begins)

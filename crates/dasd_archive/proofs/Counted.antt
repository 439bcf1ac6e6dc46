-- How many tracks differ, after all were compared.
use Rattle.std.proofs.Common.{◌≡◌, ℕ, ◌+◌, ◌^◌, ◌<◌, ◌≤◌, ◌∙◌, Bool, true, false, List, [], ◌∷◌, Option, Some, length}
use Rattle.std.proofs.Common.{refl, sym, ap, subst, arith, bytes_eq, if◌then◌else◌}
use Rattle.std.specs.List.{flat_map, FoldsTo}
use Rattle.ckd_track.specs.declared.geometries.Geometry.{Geometry}
use Rattle.dasd_volumes.specs.declared.walks.Tracks.{Tracks}
use Rattle.dasd_volumes.specs.Reading.{KnownVolume}
use Rattle.dasd_volumes.specs.Volumes.{ReadTrack, slot_at, tracks_in, all_tracks, text_in}
use Rattle.dasd_volumes.proofs.Counting.{of_one_and_more, few_of_tracks, tracks_few}
use Rattle.dasd_archive.specs.Beside.{CountsTrack}
use Rattle.dasd_archive.specs.Compare.{changed_beside, changed_in, known_slots}

module _ (other_slots : List (List ℕ)) where
  abbrev changed_of : List ReadTrack → ℕ
  changed_of tracks = length (flat_map (changed_beside other_slots) tracks)

  one_at_most : (same : Bool) → length (if same then [] else true ∷ []) ≤ 1
  one_at_most true = omega arith
  one_at_most false = omega arith

  -- each track is counted once at most
  one_of_track : (t : ReadTrack) → length (changed_beside other_slots t) ≤ 1
  one_of_track t = one_at_most (bytes_eq t.slot (slot_at t.track.geometry other_slots t.track.cylinder t.track.head))

  counted_so : {P : Type 0} (volume : P → KnownVolume) (number : P → ℕ) (p q : P) (tracks : List ReadTrack)
      → (volume p).slots ≡ Some other_slots
      → FoldsTo (λ p t q. CountsTrack (volume p) (number p) t (volume q) (number q)) p tracks q
      → number p + changed_of tracks < 2 ^ 32 → number q ≡ number p + changed_of tracks
  counted_so volume number p q [] known same fits =
      let is : number q ≡ number p = ap number (sym same) in
      let none : changed_of [] ≡ 0 = refl in omega (arith, is, none)
  counted_so volume number p q (t ∷ ts) known steps fits =
      let both = of_one_and_more (changed_beside other_slots) t ts in
      let first = steps.1.number other_slots known (omega (arith, fits, both)) in
      let next = counted_so volume number steps.0 q ts (ap (λ (v : KnownVolume). v.slots) steps.1.volume ∙ known) steps.2
      (omega (arith, fits, both, first)) in
      omega (arith, both, first, next)

-- All tracks of a volume were compared beside the known slots of another one, and those that differ were counted, from none on.
pub record ComparesAll {P : Type 0} (volume : P → KnownVolume) (number : P → ℕ) (p q : P) (tracks : Tracks) (g : Geometry)
    (slots other_slots : List (List ℕ)) : Type 0 where
  pub counted : FoldsTo (λ p t q. CountsTrack (volume p) (number p) t (volume q) (number q)) p (tracks_in tracks g slots) q
  pub all : tracks ≡ all_tracks g
  pub fits : g.cylinders < 65536
  pub none_yet : number p ≡ 0
  pub known : (volume p).slots ≡ Some other_slots

-- the tracks that differ of all were counted
pub all_counted : {P : Type 0} (volume : P → KnownVolume) (number : P → ℕ) (p q : P) (tracks : Tracks) (g : Geometry)
    (slots other_slots : List (List ℕ)) → ComparesAll volume number p q tracks g slots other_slots
    → number q ≡ length (changed_in g slots other_slots)
all_counted volume number p q tracks g slots other_slots c =
    let all = tracks_in (all_tracks g) g slots in
    let most = tracks_few g slots c.fits in
    let few = few_of_tracks (changed_beside other_slots) (one_of_track other_slots) all in
    let begins = c.none_yet in
    let is = counted_so other_slots volume number p q all c.known
    (subst (λ t. FoldsTo (λ p t q. CountsTrack (volume p) (number p) t (volume q) (number q)) p (tracks_in t g slots) q) c.all c.counted)
    (omega (arith, most, few, begins)) in
    omega (arith, is, begins)

-- what holds of the lines of all tracks beside known slots
pub text_beside : (P : List ℕ → Type 0) (lines : List (List ℕ) → ReadTrack → List ℕ) (tracks : Tracks) (g : Geometry)
    (slots other_slots : List (List ℕ)) (known : Option (List (List ℕ))) → tracks ≡ all_tracks g → known ≡ Some other_slots
    → P (text_in (lines (known_slots known)) tracks g slots) → P (text_in (lines other_slots) (all_tracks g) g slots)
text_beside P lines tracks g slots other_slots known same is holds =
    subst (λ t. P (text_in (lines other_slots) t g slots)) same
    (subst (λ k. P (text_in (lines (known_slots k)) tracks g slots)) is holds)

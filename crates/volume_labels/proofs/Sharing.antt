-- The tracks of split extents.
use Rattle.std.proofs.Common.{ℕ, ◌+◌, ◌-◌, ◌*◌, ◌/◌, ◌%◌, ◌<◌, ◌≤◌, ◌≡◌, ◌≢◌, ◌∙◌, ap, sym, arith, rules, tests, refl}
use Rattle.std.proofs.Math.Nat.{div-lt_iff_lt-mul, mod-lt, mul_comm}
use Rattle.std.proofs.lemmas.Nat.{div-mul-add, mod-mul-add, mul-add-lt}
use Rattle.volume_labels.specs.declared.fields.TrackAddress.{TrackAddress}
use Rattle.volume_labels.specs.declared.fields.Extent.{Extent}
use Rattle.volume_labels.specs.Addresses.{number_of_track, heads_in, tracks_of_extent, split_track, track_in}
use Rattle.volume_labels.specs.Sharing.{LiesIn, IsSplit, HasTrack}

-- what is known of a split extent
record Bounds (heads : ℕ) (e : Extent) : Type 0 where
  pub first_head : e.first.head < heads
  pub last_head : e.last.head < heads
  pub cylinders : e.first.cylinder ≤ e.last.cylinder
  pub heads_order : e.first.head ≤ e.last.head

bounds : (heads : ℕ) (e : Extent) → IsSplit heads e → Bounds heads e
bounds heads e s = record {
  first_head = search (rules, tests);
  last_head = search (rules, tests);
  cylinders = search (rules, tests);
  heads_order = search (rules, tests);
}

tracks_of_split : (heads : ℕ) (e : Extent) → IsSplit heads e
    → tracks_of_extent heads e ≡ (e.last.cylinder + 1 - e.first.cylinder) * heads_in e
tracks_of_split heads e s = rw s.shares refl

number_in_split : (heads : ℕ) (e : Extent) (n : ℕ) → IsSplit heads e → track_in heads e n ≡ number_of_track heads (split_track e n)
number_in_split heads e n s = rw s.shares refl

pub tracks_lie_in : (heads : ℕ) (e : Extent) (n : ℕ) → IsSplit heads e → n < tracks_of_extent heads e → LiesIn e (split_track e n)
tracks_lie_in heads e n s within =
    let b = bounds heads e s in
    let some : 0 < heads_in e = omega (arith, b.heads_order) in
    let cylinder : n / heads_in e < e.last.cylinder + 1 - e.first.cylinder =
    (div-lt_iff_lt-mul some).1 (rw (tracks_of_split heads e s) at within) in
    let head : n % heads_in e < heads_in e = mod-lt n some in record {
      first_cylinder = omega arith;
      last_cylinder = omega (arith, cylinder, b.cylinders);
      first_head = omega arith;
      last_head = omega (arith, head, b.heads_order);
    }

-- its row is the cylinder behind the first, and its place in it the head behind the first
pub has_all_tracks : (heads : ℕ) (e : Extent) (t : TrackAddress) → IsSplit heads e → LiesIn e t → HasTrack heads e t
has_all_tracks heads e t s l =
    let row = t.cylinder - e.first.cylinder in
    let place = t.head - e.first.head in
    let inside : place < heads_in e = omega (arith, l.last_head, l.first_head) in
    let rows : row < e.last.cylinder + 1 - e.first.cylinder = omega (arith, l.first_cylinder, l.last_cylinder) in
    let cylinder : e.first.cylinder + row ≡ t.cylinder = omega (arith, l.first_cylinder) in
    let head : e.first.head + place ≡ t.head = omega (arith, l.first_head) in record {
      n = row * heads_in e + place;
      within = rw (tracks_of_split heads e s, mul_comm (e.last.cylinder + 1 - e.first.cylinder) (heads_in e))
          (mul-add-lt row (heads_in e) place (e.last.cylinder + 1 - e.first.cylinder) rows inside);
      is_track = number_in_split heads e (row * heads_in e + place) s
          ∙ rw (div-mul-add row (heads_in e) place inside, mod-mul-add row (heads_in e) place inside, cylinder, head) refl;
    }

-- a track's head is told by its number
head_of_number : (heads : ℕ) (t : TrackAddress) → t.head < heads → number_of_track heads t % heads ≡ t.head
head_of_number heads t below = mod-mul-add t.cylinder heads t.head below

pub share_no_track : (heads : ℕ) (d e : Extent) (m n : ℕ) → IsSplit heads d → IsSplit heads e → d.last.head < e.first.head
    → m < tracks_of_extent heads d → n < tracks_of_extent heads e → track_in heads d m ≢ track_in heads e n
share_no_track heads d e m n s u apart m_within n_within same =
    let a = tracks_lie_in heads d m s m_within in
    let b = tracks_lie_in heads e n u n_within in
    let c = bounds heads d s in
    let f = bounds heads e u in
    let x = head_of_number heads (split_track d m) (omega (arith, a.last_head, c.last_head)) in
    let y = head_of_number heads (split_track e n) (omega (arith, b.last_head, f.last_head)) in
    let numbers : number_of_track heads (split_track d m) ≡ number_of_track heads (split_track e n) =
    sym (number_in_split heads d m s) ∙ same ∙ number_in_split heads e n u in
    let heads_same : (split_track d m).head ≡ (split_track e n).head = sym x ∙ ap (λ k. k % heads) numbers ∙ y in
    absurd (omega (arith, heads_same, a.last_head, b.first_head, apart))

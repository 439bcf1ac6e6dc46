-- A track that the addresses of an extent lead to is one that the extent has.
use Rattle.std.proofs.Common.{◌≡◌, ◌∙◌, ap, refl, ℕ, ◌+◌, ◌-◌, ◌*◌, ◌/◌, ◌%◌, ◌≤◌, ◌<◌, ◌==◌}
use Rattle.std.proofs.Common.{slice_index, Bool, true, false, nat_lt, nat_le, not, ◌&&◌}
use Rattle.std.proofs.Common.{arith}
use Rattle.std.proofs.lemmas.Bool.Decides.{nat_tests}
use Rattle.std.proofs.lemmas.Nat.{mod_below, div_below, div-mul-add, mod-mul-add}
use Rattle.std.proofs.lemmas.List.Folds.{list_any_at}
use Rattle.ckd_track.specs.Geometry.{tracks_of}
use Rattle.ckd_track.specs.declared.geometries.Geometry.{Geometry}
use Rattle.ckd_track.specs.Model.{heads_of}
use Rattle.volume_labels.specs.declared.fields.Extent.{Extent}
use Rattle.volume_labels.specs.Addresses.{number_of_track, is_split, is_run, is_in_order, heads_in, tracks_of_extent, track_in}
use Rattle.new_labels.specs.Runs.{has_track, is_taken, Space, IsFreeRun, IsApart}

-- of a run of tracks
in_run : (heads : ℕ) (e : Extent) (m : ℕ) → is_split e ≡ false → m < tracks_of_extent heads e
    → has_track heads (track_in heads e m) e ≡ true
in_run heads e m is there =
    let size : m < number_of_track heads e.last + 1 - number_of_track heads e.first = rw is at there in
    let low : nat_le (number_of_track heads e.first) (number_of_track heads e.first + m) ≡ true = grind (arith, nat_tests) in
    let high : nat_le (number_of_track heads e.first + m) (number_of_track heads e.last) ≡ true = grind (arith, nat_tests) in
    rw (is, low, high) refl

-- of one that shares its cylinders
module _ (heads : ℕ) (e : Extent) (m : ℕ) where
  in_split : is_split e ≡ true → e.first.head ≤ e.last.head → e.last.head < heads
      → m < (e.last.cylinder + 1 - e.first.cylinder) * heads_in e → has_track heads (track_in heads e m) e ≡ true
  in_split is order within there =
      let h = heads_in e in
      let some : 0 < h = omega (arith, order) in
      let q = m / h in
      let r = m % h in
      let low = mod_below m h some in
      let cylinders : q < e.last.cylinder + 1 - e.first.cylinder = div_below m h (e.last.cylinder + 1 - e.first.cylinder) some there in
      let head : e.first.head + r < heads = omega (arith, low, order, within) in
      let c = div-mul-add (e.first.cylinder + q) heads (e.first.head + r) head in
      let t = mod-mul-add (e.first.cylinder + q) heads (e.first.head + r) head in
      let c1 : nat_le e.first.cylinder (e.first.cylinder + q) ≡ true = grind (arith, nat_tests) in
      let c2 : nat_le (e.first.cylinder + q) e.last.cylinder ≡ true = grind (arith, nat_tests) in
      let h1 : nat_le e.first.head (e.first.head + r) ≡ true = grind (arith, nat_tests) in
      let h2 : nat_le (e.first.head + r) e.last.head ≡ true = grind (arith, nat_tests) in
      rw (is, c, t, c1, c2, h1, h2) refl

both : (a b : Bool) → (a && b) ≡ true → (a ≡ true) × (b ≡ true)
both true b e = (refl, e)
both false b e = absurd cc

-- what the order of a split extent says
split_order : (heads : ℕ) (e : Extent) → is_split e ≡ true → is_run heads e ≡ true → (e.first.head ≤ e.last.head) × (e.last.head < heads)
split_order heads e is run =
    let heads_are = both (nat_lt e.first.head heads && nat_lt e.last.head heads) (is_in_order heads e) run in
    let order : (nat_le e.first.cylinder e.last.cylinder && nat_le e.first.head e.last.head) ≡ true = rw is at heads_are.1 in
    let head = (both (nat_le e.first.cylinder e.last.cylinder) (nat_le e.first.head e.last.head) order).1 in
    let last = (both (nat_lt e.first.head heads) (nat_lt e.last.head heads) heads_are.0).1 in
    (grind (arith, nat_tests), grind (arith, nat_tests))

-- the track that an address leads to is one of its extent's
pub has_it : (heads : ℕ) (e : Extent) (m : ℕ) → is_run heads e ≡ true → m < tracks_of_extent heads e
    → (b : Bool) → is_split e ≡ b → has_track heads (track_in heads e m) e ≡ true
has_it heads e m run there false is = in_run heads e m is there
has_it heads e m run there true is =
    let order = split_order heads e is run in
    in_split heads e m is order.0 order.1 (rw is at there)

not_third : (a b c : Bool) → (a && (b && not c)) ≡ true → c ≡ false
not_third true true true e = absurd cc
not_third true true false e = refl
not_third true false c e = absurd cc
not_third false b c e = absurd cc

pub apart : (g : Geometry) (s : Space) (tracks first : ℕ) → IsFreeRun g s tracks first → IsApart g s.extents tracks first
apart g s tracks first run = λ i there e is ok m within k near same.
    let heads = heads_of g.model in
    let has : has_track heads (first + k) e ≡ true = rw same at (has_it heads e m ok within (is_split e) refl) in
    let taken : is_taken g s.extents (first + k) ≡ true =
    list_any_at (has_track heads (first + k)) s.extents i e there (ap (has_track heads (first + k)) is ∙ has) in
    let free = not_third (nat_lt 0 (first + k) && nat_lt (first + k) (tracks_of g)) (not (slice_index s.marks (first + k) == 0))
    (is_taken g s.extents (first + k)) (run k near) in
    absurd cc

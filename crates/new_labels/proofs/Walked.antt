-- A walk over the tracks of a volume that looks for a run of free ones.
use Rattle.std.proofs.Common.{◌≡◌, refl, ℕ, ◌+◌, ◌-◌, ◌≤◌, ◌<◌, Some, None, Bool, true, false, inl}
use Rattle.std.proofs.Common.{inr, ◌⊎◌, nat_lt, not, ◌&&◌, ◌==◌, slice_index, arith}
use Rattle.std.proofs.lemmas.Bool.{cases_lt}
use Rattle.std.proofs.lemmas.Bool.Decides.{nat_tests}
use Rattle.ckd_track.specs.declared.geometries.Geometry.{Geometry}
use Rattle.ckd_track.specs.Geometry.{tracks_of}
use Rattle.new_labels.specs.Runs.{is_taken, Space, is_free, IsFreeRun, IsFirstRun}

-- Before track n the last tracks are free, so many, and that before them is not; and no run ends before track n.
pub record IsWalked (g : Geometry) (s : Space) (tracks n free : ℕ) : Type 0 where
  pub few : free < tracks
  pub behind_label : free < n
  pub are_free : (m : ℕ) → n ≤ m + free → m < n → is_free g s m ≡ true
  pub is_not : (m : ℕ) → m + free + 1 ≡ n → is_free g s m ≡ false
  pub none : (m : ℕ) → m + tracks ≤ n → IsFreeRun g s tracks m → ⊥

module _ (g : Geometry) (s : Space) (tracks : ℕ) where
  -- the first track is that of the label
  pub begun : 1 ≤ tracks → IsWalked g s tracks 1 0
  begun some = record {
    few = omega (arith, some);
    behind_label = omega arith;
    are_free = λ m far near. absurd (omega (arith, far, near));
    is_not = λ m is. let zero_is : m ≡ 0 = omega (arith, is) in rw zero_is refl;
    none = λ m within run. let first = run 0 (omega (arith, some)) in
        let zero_is : m + 0 ≡ 0 = omega (arith, within, some) in
        absurd (by_true (rw zero_is at first));
  }
    where
      by_true : false ≡ true → ⊥
      by_true e = absurd cc

  module _ (n free : ℕ) (w : IsWalked g s tracks n free) where
    -- a track that is not free
    pub over_taken : 1 ≤ tracks → is_free g s n ≡ false → IsWalked g s tracks (n + 1) 0
    over_taken some taken = record {
      few = omega (arith, some);
      behind_label = omega arith;
      are_free = λ m far near. absurd (omega (arith, far, near));
      is_not = λ m is. let e : m ≡ n = omega (arith, is) in rw e taken;
      none = λ m within run. by m within run (cases_lt n (m + tracks));
    }
      where
        by : (m : ℕ) → m + tracks ≤ n + 1 → IsFreeRun g s tracks m → (n < m + tracks) ⊎ (m + tracks ≤ n) → ⊥
        by m within run (inr before) = w.none m before run
        by m within run (inl here) =
            let e : m + (tracks - 1) ≡ n = omega (arith, within, here, some) in
            let free_here = rw e at (run (tracks - 1) (omega (arith, some))) in
            absurd cc

    -- one that is
    pub over_free : is_free g s n ≡ true → free + 1 < tracks → IsWalked g s tracks (n + 1) (free + 1)
    over_free free_here few = record {
      few = few;
      behind_label = omega (arith, w.behind_label);
      are_free = λ m far near. by_free m far near (cases_lt m n);
      is_not = λ m is. w.is_not m (omega (arith, is));
      none = λ m within run. by_none m within run (cases_lt n (m + tracks));
    }
      where
        by_free : (m : ℕ) → n + 1 ≤ m + (free + 1) → m < n + 1 → (m < n) ⊎ (n ≤ m) → is_free g s m ≡ true
        by_free m far near (inl before) = w.are_free m (omega (arith, far)) before
        by_free m far near (inr here) = let e : m ≡ n = omega (arith, near, here) in rw e free_here

        by_none : (m : ℕ) → m + tracks ≤ n + 1 → IsFreeRun g s tracks m → (n < m + tracks) ⊎ (m + tracks ≤ n) → ⊥
        by_none m within run (inr before) = w.none m before run
        by_none m within run (inl here) =
            let before = n - free - 1 in
            let is = w.is_not before (omega (arith, w.behind_label)) in
            let e : m + (before - m) ≡ before = omega (arith, within, here, few, w.behind_label) in
            let free_there = rw e at (run (before - m) (omega (arith, within, here, few, w.behind_label))) in
            absurd cc

    -- the last one of a run
    pub found : is_free g s n ≡ true → free + 1 ≡ tracks → IsFirstRun g s tracks (Some (n + 1 - tracks))
    found free_here all = (λ k there. by k there (cases_lt (n + 1 - tracks + k) n), λ m before run. w.none m (omega (arith, before)) run)
      where
        by : (k : ℕ) → k < tracks → (n + 1 - tracks + k < n) ⊎ (n ≤ n + 1 - tracks + k) → is_free g s (n + 1 - tracks + k) ≡ true
        by k there (inl before) = w.are_free (n + 1 - tracks + k) (omega (arith, all, w.behind_label)) before
        by k there (inr here) =
            let e : n + 1 - tracks + k ≡ n = omega (arith, there, here, all, w.behind_label) in
            rw e free_here

    -- the volume has no further track
    pub nowhere : 1 ≤ tracks → tracks_of g ≤ n → IsFirstRun g s tracks None
    nowhere some far = λ m run.
        let last = run (tracks - 1) (omega (arith, some)) in
        w.none m (omega (arith, some, far, on_volume (m + (tracks - 1)) last)) run
      where
        on_volume : (m : ℕ) → is_free g s m ≡ true → m < tracks_of g
        on_volume m is = grind (arith, nat_tests)

-- a track behind that of the label is free where it is not kept back and no extent has it
pub free_is : (g : Geometry) (s : Space) (n : ℕ) → 0 < n → n < tracks_of g → (b : Bool)
    → b ≡ (not (slice_index s.marks n == 0) && not (is_taken g s.extents n)) → is_free g s n ≡ b
free_is g s n behind there b is =
    let low : nat_lt 0 n ≡ true = grind (arith, nat_tests) in
    let high : nat_lt n (tracks_of g) ≡ true = grind (arith, nat_tests) in
    rw (low, high, is) refl

-- Areas that are put onto tracks one after another.
use Rattle.std.proofs.Common.{◌≡◌, ◌≢◌, ◌∙◌, refl, ℕ, suc, ◌+◌, ◌<◌, ◌≤◌, ◌⊎◌, inl, inr, List, [], length, drop, slice_set, arith}
use Rattle.std.proofs.Common.{add-one, drop-drop}
use Rattle.std.proofs.lemmas.Bool.{cases_lt}
use Rattle.std.proofs.lemmas.List.{get_or-set_same, get_or-set_other, length-set}
use Rattle.ckd_track.specs.declared.model.DriveModel.{DriveModel}
use Rattle.ckd_track.specs.declared.geometries.Geometry.{Geometry}
use Rattle.record_tracks.specs.Tracks.{fitting_on, behind_track, left_behind, loaded_slot}
use Rattle.record_tracks.specs.Records.{Areas}
use Rattle.volume_contents.specs.Contents.{slot_at}
use Rattle.loaded_sets.specs.Placed.{HasAreas}

pub none_behind : (model : DriveModel) (areas : List Areas) → areas ≡ left_behind model areas 0
unfolding left_behind
none_behind model areas = refl

pub one_behind : (model : DriveModel) (areas : List Areas) (n : ℕ)
    → left_behind model areas (suc n) ≡ behind_track model (left_behind model areas n)
unfolding left_behind
one_behind model areas n = refl

-- what is left behind one track more
pub one_more : (model : DriveModel) (areas : List Areas) (next i fit : ℕ) → drop next areas ≡ left_behind model areas i
    → fit ≡ fitting_on model (drop next areas) → drop (next + fit) areas ≡ left_behind model areas (i + 1)
one_more model areas next i fit is as_many = cc (drop-drop fit next areas, one_behind model areas i, add-one i)

pub begun : (g : Geometry) (areas : List Areas) (first : ℕ) (slots : List (List ℕ)) → HasAreas g areas first 0 slots slots
begun g areas first slots = record { within = λ i there. absurd (omega (arith, there)); outside = λ n out. refl; same = refl }

-- one track more has what goes on it
pub goes_on : (g : Geometry) (areas : List Areas) (first i : ℕ) (before between : List (List ℕ)) (slot : List ℕ)
    → HasAreas g areas first i before between → slot ≡ loaded_slot g (first + i) (left_behind g.model areas i)
    → first + i < length between → HasAreas g areas first (i + 1) before (slice_set between (first + i) slot)
goes_on g areas first i before between slot holds is there = record {
  within = λ k near. by k near (cases_lt k i);
  outside = λ n out. get_or-set_other between (first + i) n slot [] (other n out) ∙ holds.outside n (before_it n out);
  same = length-set between (first + i) slot ∙ holds.same;
}
  where
    by : (k : ℕ) → k < i + 1 → (k < i) ⊎ (i ≤ k)
        → slot_at (slice_set between (first + i) slot) (first + k) ≡ loaded_slot g (first + k) (left_behind g.model areas k)
    by k near (inl less) = get_or-set_other between (first + i) (first + k) slot [] (λ e. absurd (omega arith)) ∙ holds.within k less
    by k near (inr here) = let e : k ≡ i = omega arith in rw e (get_or-set_same between (first + i) slot [] there ∙ is)

    other : (n : ℕ) → (n < first) ⊎ (first + (i + 1) ≤ n) → n ≢ first + i
    other n (inl low) e = omega (arith, e, low)
    other n (inr high) e = omega (arith, e, high)

    before_it : (n : ℕ) → (n < first) ⊎ (first + (i + 1) ≤ n) → (n < first) ⊎ (first + i ≤ n)
    before_it n (inl low) = inl low
    before_it n (inr high) = inr (omega (arith, high))

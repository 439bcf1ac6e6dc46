-- How many records go on a track, and how many bytes they take there.
use Rattle.std.proofs.Common.{◌≡◌, ap, refl, inl, inr, ⊎_elim, ◌⊎◌, ℕ, zero, suc, ◌+◌, ◌-◌, ◌*◌, ◌≤◌, ◌<◌, true, false, List, [], ◌∷◌}
use Rattle.std.proofs.Common.{length, take, drop, get_or, nat_le, sum_by, arith, ◌≢◌, All, drop-drop, length-drop}
use Rattle.std.proofs.lemmas.{Bool.cases_lt, Bool.Decides.nat_tests, List.drop_more, List.drop_all, List.Elements.All-get_or}
use Rattle.std.proofs.lemmas.List.Sums.{sum_by-cons}
use Rattle.ckd_track.specs.declared.model.DriveModel.{DriveModel, TheVariants.D2311, TheVariants.D2314}
use Rattle.ckd_track.specs.Model.{capacity_of}
use Rattle.record_tracks.specs.Records.{Areas, GoesOn, charge_for, last_charge_for, end_of_file}
use Rattle.record_tracks.specs.Tracks.{fitting, fitting_on, behind_track, left_behind}

module _ (model : DriveModel) (taken : ℕ) (a : Areas) (others : List Areas) where
  pub one_fits : taken + last_charge_for model a ≤ capacity_of model
      → fitting model taken (a ∷ others) ≡ suc (fitting model (taken + charge_for model a) others)
  unfolding fitting
  one_fits within = let is : nat_le (taken + last_charge_for model a) (capacity_of model) ≡ true = grind (arith, nat_tests) in rw is refl

  pub is_full : capacity_of model < taken + last_charge_for model a → fitting model taken (a ∷ others) ≡ 0
  unfolding fitting
  is_full over = let is : nat_le (taken + last_charge_for model a) (capacity_of model) ≡ false = grind (arith, nat_tests) in rw is refl

-- the bytes that the records take in a slot
abbrev pub area_size : Areas → ℕ
area_size a = 8 + (length a.key_area + length a.data_area)

abbrev pub sizes : List Areas → ℕ
sizes areas = sum_by area_size areas

-- what a record is charged
pub record IsCharge (model : DriveModel) (a : Areas) : Type 0 where
  pub last : length a.key_area + length a.data_area ≤ last_charge_for model a
  pub least : 61 + last_charge_for model a ≤ charge_for model a
  pub most : charge_for model a ≤ 101 + 2 * last_charge_for model a
  pub capacity : capacity_of model ≤ 7294
  pub some : 3625 ≤ capacity_of model

pub charges : (model : DriveModel) (a : Areas) → IsCharge model a
charges D2311 a = record { last = omega arith; least = omega arith; most = omega arith; capacity = omega arith; some = omega arith }
charges D2314 a = record { last = omega arith; least = omega arith; most = omega arith; capacity = omega arith; some = omega arith }

-- a record that goes on a track has lengths that a count area can say
pub few_bytes : (model : DriveModel) (a : Areas) → GoesOn model a → length a.data_area < 65536
few_bytes model a goes = omega (arith, (charges model a).last, (charges model a).capacity)

-- What goes on a track: no more than there is, a number that a byte holds, and with 8 bytes more than the capacity it has room.
pub record FitsOn (model : DriveModel) (taken : ℕ) (areas : List Areas) (n : ℕ) : Type 0 where
  pub within : n ≤ length areas
  pub few : 61 * n ≤ 7355 - taken
  pub room : taken ≤ capacity_of model → taken + sizes (take n areas) ≤ capacity_of model + 8
  pub none : capacity_of model < taken → n ≡ 0

module _ (model : DriveModel) (taken : ℕ) (a : Areas) (others : List Areas) where
  -- those behind one that fits
  one_on : (n : ℕ) → taken + last_charge_for model a ≤ capacity_of model → FitsOn model (taken + charge_for model a) others n
      → FitsOn model taken (a ∷ others) (suc n)
  one_on n within more =
      let next = taken + charge_for model a in
      let c = charges model a in
      let cons = sum_by-cons area_size a (take n others) in
      let by : (capacity_of model < next) ⊎ (next ≤ capacity_of model) → taken + sizes (a ∷ take n others) ≤ capacity_of model + 8 =
      λ either. ⊎_elim (λ over. let none = more.none over in rw none (omega (arith, within, sum_by-cons area_size a [])))
      (λ under. omega (arith, more.room under)) either in
      record {
        within = omega arith;
        few = omega (arith, within);
        room = λ _. by (cases_lt (capacity_of model) next);
        none = λ over. absurd (omega (arith, within));
      }

pub fits_on : (model : DriveModel) (taken : ℕ) (areas : List Areas) → FitsOn model taken areas (fitting model taken areas)
unfolding fitting
fits_on model taken [] = record { within = omega arith; few = omega arith; room = λ h. omega arith; none = λ _. refl }
fits_on model taken (a ∷ others) = elim (cases_lt (capacity_of model) (taken + last_charge_for model a)) [
  | inl over ↦ rw (is_full model taken a others over)
      (record { within = omega arith; few = omega arith; room = λ h. omega arith; none = λ _. refl })
  | inr fits ↦ rw (one_fits model taken a others fits)
      (one_on model taken a others _ fits (fits_on model (taken + charge_for model a) others))
]

-- A loop over records that has passed so many, which have taken so much of the track.
module _ (model : DriveModel) (left : List Areas) (k taken : ℕ) (d : Areas)
    (so_far : fitting_on model left ≡ k + fitting model taken (drop k left)) where
  next_is : k < length left → fitting_on model left ≡ k + fitting model taken (get_or left k d ∷ drop (k + 1) left)
  next_is there = cc (drop_more left k d there)

  pub stops : k < length left → capacity_of model < taken + last_charge_for model (get_or left k d) → k ≡ fitting_on model left
  stops there over = omega (arith, next_is there, is_full model taken (get_or left k d) (drop (k + 1) left) over)

  pub goes_on : k < length left → taken + last_charge_for model (get_or left k d) ≤ capacity_of model
      → fitting_on model left ≡ k + 1 + fitting model (taken + charge_for model (get_or left k d)) (drop (k + 1) left)
  goes_on there within = omega (arith, next_is there, one_fits model taken (get_or left k d) (drop (k + 1) left) within)

  pub ends : length left ≤ k → k ≡ fitting_on model left
  unfolding fitting
  ends all = let none : fitting model taken (drop k left) ≡ 0 = cc (drop_all k left all) in omega (arith, so_far)

-- one at least goes on an empty track
pub some_fits : (model : DriveModel) (a : Areas) (others : List Areas) → GoesOn model a → 1 ≤ fitting_on model (a ∷ others)
some_fits model a others goes = omega (arith, one_fits model 0 a others (omega arith))

pub some_left : {X : Type 0} (all : List X) (next : ℕ) → next < length all → drop next all ≢ []
some_left all next there none = omega (arith, ap length none, length-drop next all)

pub none_behind : (model : DriveModel) (areas : List Areas) → left_behind model areas 0 ≡ areas
unfolding left_behind
none_behind model areas = refl

pub one_behind : (model : DriveModel) (areas : List Areas) (n : ℕ)
    → left_behind model areas (suc n) ≡ behind_track model (left_behind model areas n)
unfolding left_behind
one_behind model areas n = refl

module _ (model : DriveModel) (all : List Areas) (next : ℕ) where
  -- a track takes one at least
  pub some_fit : All (GoesOn model) all → next < length all → 1 ≤ fitting_on model (drop next all)
  some_fit each there =
      let a = get_or all next end_of_file in
      let some = some_fits model a (drop (next + 1) all) (All-get_or (GoesOn model) all next end_of_file there each) in
      omega (arith, some, ap (fitting_on model) (drop_more all next end_of_file there))

  -- what is left behind one track more
  pub one_more : (tracks : ℕ) → drop next all ≡ left_behind model all tracks
      → drop (next + fitting_on model (drop next all)) all ≡ left_behind model all (tracks + 1)
  one_more tracks is =
      let n : suc tracks ≡ tracks + 1 = omega arith in
      cc (drop-drop (fitting_on model (drop next all)) next all, one_behind model all tracks)

-- no more is left behind more tracks
pub left_shrinks : (model : DriveModel) (areas : List Areas) (i j : ℕ) → i ≤ j
    → length (left_behind model areas j) ≤ length (left_behind model areas i)
left_shrinks model areas i zero within = let e : i ≡ 0 = omega arith in rw e (omega arith)
left_shrinks model areas i (suc j) within = elim (cases_lt j i) [
  | inl over ↦ let e : i ≡ suc j = omega arith in rw e (omega arith)
  | inr under ↦
      let left = left_behind model areas j in
      omega (arith, ap length (one_behind model areas j), length-drop (fitting_on model left) left, left_shrinks model areas i j under)
]

-- The address of a record is where it stands.
use Rattle.std.proofs.Common.{◌≡◌, ◌∙◌, ap, sym, refl, subst, ℕ, zero, suc, ◌+◌, ◌-◌, ◌≤◌, ◌<◌, List, [], ◌∷◌, length, map, drop, arith}
use Rattle.std.proofs.Common.{All, true, false, nat_lt, inl, inr, length-drop, drop-drop}
use Rattle.std.proofs.lemmas.{Bool.cases_lt, Bool.Decides.nat_tests, List.drop-map}
use Rattle.ckd_track.specs.declared.model.DriveModel.{DriveModel}
use Rattle.volume_labels.specs.declared.fields.RelativeAddress.{RelativeAddress}
use Rattle.record_tracks.specs.{Records.Areas, Records.GoesOn, Records.charge_for, Addresses.address_from}
use Rattle.record_tracks.specs.{Tracks.fitting, Tracks.fitting_on, Tracks.left_behind, Tracks.StandsAt, Tracks.Takes, Addresses.address_of}
use Rattle.record_tracks.proofs.Fitting.{fits_on, none_behind, one_behind, some_fit, one_more, left_shrinks}

module _ (model : DriveModel) (areas : List Areas) where
  abbrev Stands : (k : ℕ) → RelativeAddress → Type 0
  Stands k a = StandsAt model areas k a.track a.number

  -- from a record on with which a track begins
  stands_from : All (GoesOn model) areas → (most before track k : ℕ) → k < most → before + k < length areas
      → left_behind model areas track ≡ drop before areas → Stands (before + k) (address_from most model (drop before areas) track k)
  unfolding address_from
  stands_from each zero before track k enough there left = absurd (omega arith)
  stands_from each (suc most) before track k enough there left =
      let fit = fitting_on model (drop before areas) in elim (cases_lt k fit) [
        | inl fits ↦ let is : nat_lt k fit ≡ true = grind (arith, nat_tests) in rw is (record {
          before = before;
          left = left;
          place = omega arith;
          first = omega arith;
          there = omega (arith, ap (fitting_on model) left);
        })
        | inr over ↦
            let is : nat_lt k fit ≡ false = grind (arith, nat_tests) in
            let some = some_fit model areas before each (omega arith) in
            let far : before + k ≡ before + fit + (k - fit) = omega arith in
            rw (is, far, drop-drop fit before areas) (stands_from each most (before + fit) (track + 1) (k - fit) (omega arith)
            (omega arith) (sym (one_more model areas before track (sym left))))
      ]

  pub address_stands : All (GoesOn model) areas → (k : ℕ) → k < length areas → Stands k (address_of model areas k)
  address_stands each k there = let e : 0 + k ≡ k = omega arith in subst (λ (j : ℕ). Stands j (address_of model areas k)) e
      (stands_from each (k + 1) 0 0 k (omega arith) (omega arith) (none_behind model areas))

  -- how much is left from the track of a record on
  left_long : (k track number : ℕ) (s : StandsAt model areas k track number)
      → length (left_behind model areas track) ≡ length areas - s.before
  left_long k track number s = ap length s.left ∙ length-drop s.before areas

  -- a record behind another stands on no track before that of the other
  pub in_order : (k j track number later its_number : ℕ) → StandsAt model areas k track number → StandsAt model areas j later its_number
      → k ≤ j → track ≤ later
  in_order k j track number later its_number s r behind = elim (cases_lt later track) [
    | inr is ↦ is
    | inl before ↦
        let next = ap length (one_behind model areas later)
        ∙ length-drop (fitting_on model (left_behind model areas later)) (left_behind model areas later) in
        let fits = (fits_on model 0 (left_behind model areas track)).within in
        let fewer = left_shrinks model areas (suc later) track before in
        absurd (omega (arith, left_long k track number s, left_long j later its_number r))
  ]

  -- a record stands in one place
  pub one_place : (k track number other its_number : ℕ) → StandsAt model areas k track number → StandsAt model areas k other its_number
      → (track ≡ other) × (number ≡ its_number)
  one_place k track number other its_number s r =
      let low = in_order k k track number other its_number s r (omega arith) in
      let high = in_order k k other its_number track number r s (omega arith) in
      let same : track ≡ other = omega arith in (
        same,
        (let e = ap (λ (i : ℕ). length (left_behind model areas i)) same in
            let fits = (fits_on model 0 (left_behind model areas track)).within in
            omega (arith, left_long k track number s, left_long k other its_number r)),
      )

  pub address_is : All (GoesOn model) areas → (k track number : ℕ) → k < length areas → StandsAt model areas k track number
      → address_of model areas k ≡ record { track = track; number = number }
  address_is each k track number there s =
      let a = address_of model areas k in
      let same = one_place k a.track a.number track number (address_stands each k there) s in
      ap (λ (t : ℕ). record a { track = t }) same.0 ∙ ap (λ (n : ℕ). record a { track = track; number = n }) same.1

  -- and on one of the tracks that the records take
  pub is_taken : (tracks k track number : ℕ) → Takes model areas tracks → StandsAt model areas k track number → track < tracks
  is_taken tracks k track number takes s = elim (cases_lt track tracks) [
    | inl is ↦ is
    | inr past ↦
        let fits = (fits_on model 0 (left_behind model areas track)).within in
        absurd (omega (arith, left_shrinks model areas tracks track past, ap length takes.all))
  ]

-- Records of the same lengths stand in the same places.
pub record SameLengths (xs ys : List Areas) : Type 0 where
  pub keys : map (λ a. length a.key_area) xs ≡ map (λ a. length a.key_area) ys
  pub bytes : map (λ a. length a.data_area) xs ≡ map (λ a. length a.data_area) ys

module _ (model : DriveModel) where
  same_fit : (taken : ℕ) (xs ys : List Areas) → SameLengths xs ys → fitting model taken xs ≡ fitting model taken ys
  unfolding fitting
  same_fit taken [] [] same = refl
  same_fit taken [] (y ∷ ys) same = absurd (let no = same.keys in cc)
  same_fit taken (x ∷ xs) [] same = absurd (let no = same.keys in cc)
  same_fit taken (x ∷ xs) (y ∷ ys) same =
      let keys = same.keys in
      let bytes = same.bytes in
      let key : length x.key_area ≡ length y.key_area = cc in
      let byte : length x.data_area ≡ length y.data_area = cc in
      let others : SameLengths xs ys = record { keys = cc; bytes = cc } in
      cc (same_fit (taken + charge_for model y) xs ys others)

  same_left : (n : ℕ) (xs ys : List Areas) → SameLengths xs ys → SameLengths (drop n xs) (drop n ys)
  same_left n xs ys same = record {
    keys = cc (drop-map (λ (a : Areas). length a.key_area) n xs, drop-map (λ (a : Areas). length a.key_area) n ys);
    bytes = cc (drop-map (λ (a : Areas). length a.data_area) n xs, drop-map (λ (a : Areas). length a.data_area) n ys);
  }

  pub same_address : (most : ℕ) (xs ys : List Areas) (track k : ℕ) → SameLengths xs ys
      → address_from most model xs track k ≡ address_from most model ys track k
  unfolding address_from
  same_address zero xs ys track k same = refl
  same_address (suc most) xs ys track k same =
      let here : RelativeAddress = record { track = track; number = k + 1 } in
      let fit = fitting_on model ys in
      cc (same_fit 0 xs ys same, same_address most (drop fit xs) (drop fit ys) (track + 1) (k - fit) (same_left fit xs ys same))

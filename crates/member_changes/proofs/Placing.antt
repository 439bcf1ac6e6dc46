-- The blocks of a directory on a track, looked for one after another.
use Rattle.std.proofs.Common.{◌≡◌, ◌∙◌, ap, refl, ℕ, ◌+◌, ◌<◌, ◌≤◌, Bool}
use Rattle.std.proofs.Common.{true, false, if◌then◌else◌, List, [], ◌∷◌, ◌++◌, length, drop, get_or}
use Rattle.std.proofs.Common.{append_assoc, append-nil, sym}
use Rattle.std.proofs.lemmas.List.{at_drop_more, at_drop_all}
use Rattle.ckd_track.specs.Track.{Record, no_record}
use Rattle.member_changes.specs.declared.places.BlockPlace.{BlockPlace}
use Rattle.member_changes.specs.Places.{is_block, place_of, places_from}

one_record : (track number : ℕ) (r : Record) (rs : List Record)
    → places_from track number (r ∷ rs) ≡ (if is_block r then place_of track number ∷ places_from track (number + 1) rs else [])
unfolding places_from
one_record track number r rs = refl

no_record_left : (track number : ℕ) → places_from track number [] ≡ []
unfolding places_from
no_record_left track number = refl

module _ (track i : ℕ) (rs : List Record) (all found : List BlockPlace) where
  here : i < length rs → all ≡ found ++ places_from track i (drop i rs)
      → all ≡ found ++ (if is_block (get_or rs i no_record) then place_of track i ∷ places_from track (i + 1) (drop (i + 1) rs) else [])
  here inside is =
      is ∙ ap (λ (l : List BlockPlace). found ++ l)
      (at_drop_more (places_from track i) rs i no_record inside ∙ one_record track i (get_or rs i no_record) (drop (i + 1) rs))

  -- one that is a block
  pub passed : i < length rs → is_block (get_or rs i no_record) ≡ true → all ≡ found ++ places_from track i (drop i rs)
      → all ≡ (found ++ place_of track i ∷ []) ++ places_from track (i + 1) (drop (i + 1) rs)
  passed inside that is =
      here inside is
      ∙ ap (λ (it : Bool). found ++ (if it then place_of track i ∷ places_from track (i + 1) (drop (i + 1) rs) else [])) that
      ∙ sym (append_assoc found (place_of track i ∷ []) (places_from track (i + 1) (drop (i + 1) rs)))

  -- one that is none
  pub ended : i < length rs → is_block (get_or rs i no_record) ≡ false → all ≡ found ++ places_from track i (drop i rs) → found ≡ all
  ended inside other is =
      sym (here inside is
      ∙ ap (λ (it : Bool). found ++ (if it then place_of track i ∷ places_from track (i + 1) (drop (i + 1) rs) else [])) other
      ∙ append-nil found)

  -- there are no more
  pub none : length rs ≤ i → all ≡ found ++ places_from track i (drop i rs) → found ≡ all
  none past is =
      sym (is ∙ ap (λ (l : List BlockPlace). found ++ l) (at_drop_all (places_from track i) rs i past ∙ no_record_left track i)
      ∙ append-nil found)

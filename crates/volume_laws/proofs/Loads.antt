-- A volume that gets a data set keeps what is extracted of the others.
use Rattle.std.proofs.Common.{◌≡◌, ◌∙◌, ap, subst, ℕ, ◌+◌, ◌-◌, ◌≤◌, ◌<◌, ◌==◌, ◌⊎◌, inl, inr, ⊎_elim, true, false, ◌&&◌, nat_le}
use Rattle.std.proofs.Common.{if◌then◌else◌, List, Ok, arith}
use Rattle.std.proofs.lemmas.Bool.{or_parts, both_ways, le-leb, and_from, cases_lt}
use Rattle.std.proofs.lemmas.List.Elements.{All-map}
use Rattle.ckd_track.specs.Model.{heads_of}
use Rattle.ckd_track.specs.Track.{track_of}
use Rattle.volume_labels.specs.Addresses.{is_split, number_of_track}
use Rattle.record_tracks.specs.Records.{GoesOn, areas_of}
use Rattle.record_tracks.specs.Tracks.{left_behind, loaded_slot, loaded_track}
use Rattle.record_tracks.proofs.Spelled.{loaded_read}
use Rattle.record_tracks.proofs.Reading.{left_go}
use Rattle.new_labels.specs.Runs.{has_track, is_free, shares_track}
use Rattle.volume_contents.specs.Contents.{slot_at}
use Rattle.dasd_extract.specs.Alternates.{is_other}
use Rattle.dasd_extract.specs.Walk.{track_on}
use Rattle.loaded_sets.specs.declared.plans.PlacedSet.{PlacedSet}
use Rattle.loaded_sets.specs.Placed.{GetsSet}
use Rattle.loaded_sets.specs.Sets.{areas, CanBePlaced}
use Rattle.loaded_sets.specs.Space.{space}
use Rattle.loaded_sets.specs.Tables.{IsOfTable}
use Rattle.loaded_sets.specs.Volumes.{Labelled}
use Rattle.volume_laws.specs.Changes.{is_kept_back, IsClear, LoadKeeps}
use Rattle.volume_laws.proofs.Kept.{free_parts, not_kept_back, own_writes_keep}

-- a track of a table that shares no cylinder is one of its extent
pub of_table : (v : Labelled) (n : ℕ) → is_split v.table.extent ≡ false → is_kept_back v n ≡ false → IsOfTable v.geometry v.table.extent n
    → ⊥
of_table v n whole kept table =
    let heads = heads_of v.geometry.model in
    let e = v.table.extent in
    let none = (or_parts (n == 0) (has_track heads n e) kept).1 in
    let low : nat_le (number_of_track heads e.first) n ≡ true = le-leb (number_of_track heads e.first) n table.from in
    let high : nat_le n (number_of_track heads e.last) ≡ true = le-leb n (number_of_track heads e.last) table.to in
    both_ways (has_track heads n e) none
    (ap (λ b. if b then shares_track heads n e else nat_le (number_of_track heads e.first) n && nat_le n
    (number_of_track heads e.last)) whole
    ∙ and_from _ _ low high)

module _ (v : Labelled) (set : PlacedSet) (before : List (List ℕ)) (tracks : ℕ) (now : List (List ℕ))
    (gets : GetsSet v set before tracks now)
    (goes : CanBePlaced v.geometry.model set) (clear : IsClear v before) where
  abbrev IsIn : ℕ → Type 0
  IsIn n = (gets.first ≤ n) × (n < gets.first + tracks)

  -- a track is one of the data set's, or it is not
  its : (n : ℕ) → IsIn n ⊎ ((n < gets.first) ⊎ (gets.first + tracks ≤ n))
  its n = ⊎_elim (λ low. inr (inl low))
      (λ from. ⊎_elim (λ below. inl (from, below)) (λ behind. inr (inr behind)) (cases_lt n (gets.first + tracks)))
      (cases_lt n gets.first)

  free : (n : ℕ) → IsIn n → is_free v.geometry (space v before) n ≡ true
  free n own =
      let from = own.0 in
      let below = own.1 in
      let is : gets.first + (n - gets.first) ≡ n = omega (arith, from) in
      subst (λ n. is_free v.geometry (space v before) n ≡ true) is
      (gets.gets.free.0 (n - gets.first) (omega (arith, from, below)))

  stays : (n : ℕ) → is_kept_back v n ≡ false → (n < gets.first) ⊎ (gets.first + tracks ≤ n) → slot_at now n ≡ slot_at before n
  stays n kept out = gets.others n (out, of_table v n clear.whole kept)

  others : (n : ℕ) → is_kept_back v n ≡ false → is_free v.geometry (space v before) n ≡ false → slot_at now n ≡ slot_at before n
  others n kept not_free = ⊎_elim (λ own. absurd (both_ways (is_free v.geometry (space v before) n) not_free (free n own))) (stays n kept)
      (its n)

  -- its tracks are new ones with its records, which have no flag
  loaded : (n : ℕ) → IsIn n → is_other (track_on now n) ≡ true
  loaded n own =
      let from = own.0 in
      let below = own.1 in
      let i = n - gets.first in
      let left = left_behind v.geometry.model (areas set) i in
      let is : gets.first + i ≡ n = omega (arith, from) in
      let slot : slot_at now (gets.first + i)
      ≡ loaded_slot v.geometry (gets.first + i) left = gets.written.holds.within i (omega (arith, from, below)) in
      let each = left_go v.geometry.model (areas set) i (All-map (GoesOn v.geometry.model) areas_of set.records.now goes.each) in
      let read : track_on now (gets.first + i) ≡ Ok (loaded_track v.geometry (gets.first + i) left) =
      ap track_of slot ∙ loaded_read v.geometry (gets.first + i) left each in
      subst (λ n. is_other (track_on now n) ≡ true) is (ap is_other read)

  plain : (n : ℕ) → is_free v.geometry (space v before) n ≡ true → is_other (track_on now n) ≡ true
  plain n is_free_ = ⊎_elim (loaded n) (λ out.
      ap (λ slot. is_other (track_of slot)) (stays n (not_kept_back v before n is_free_) out) ∙ (free_parts v before n is_free_).other)
      (its n)

pub load_keeps : LoadKeeps
load_keeps v set before tracks now gets goes sound clear = own_writes_keep v before now sound clear (record {
  others = others v set before tracks now gets goes clear;
  plain = plain v set before tracks now gets goes clear;
})

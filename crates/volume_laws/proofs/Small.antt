-- The small volume is as the laws ask for.
use Rattle.std.proofs.Common.{◌≡◌, ap, refl, sym, subst, ℕ, ◌≤◌, List, [], ◌∷◌, Bool, true, false, nat_le, ◌&&◌, ◌||◌, arith, true≢false}
use Rattle.std.proofs.lemmas.Bool.{and_parts, leb-true}
use Rattle.volume_labels.specs.declared.fields.Extent.{Extent}
use Rattle.volume_labels.specs.declared.fields.TrackAddress.{TrackAddress}
use Rattle.new_labels.specs.Runs.{is_taken}
use Rattle.ckd_track.specs.Track.{slot_of, track_of, records_from}
use Rattle.volume_contents.specs.Checks.{extent_findings, sets_findings, piece_findings}
use Rattle.volume_contents.specs.Chains.{links_from}
use Rattle.dasd_volumes.specs.Volumes.{of_each}
use Rattle.dasd_extract.specs.Walk.{track_on}
use Rattle.volume_laws.specs.Space.{set_extents}
use Rattle.volume_laws.specs.Frame.{is_alternate_of}
use Rattle.volume_laws.specs.Changes.{is_kept_back}
use Rattle.volume_laws.specs.Small.{SmallIsRight, small, small_slots, tiny}

not_other : (b : Bool) → (b || false) ≡ true → b ≡ true
not_other true e = refl
not_other false e = absurd (true≢false (sym e))

-- the extent of its one data set
abbrev fifth_track : TrackAddress
fifth_track = record { cylinder = 0; head = 5 }

abbrev fifth : Extent
fifth = record { kind = 1; number = 0; first = fifth_track; last = fifth_track }

extents : set_extents small ≡ fifth ∷ []
unfolding slot_of track_of records_from of_each links_from
extents = refl

number : (n : ℕ) → is_taken tiny (fifth ∷ []) n ≡ true → n ≡ 5
number n is =
    let both = and_parts (nat_le 5 n) (nat_le n 5) (not_other (nat_le 5 n && nat_le n 5) is) in
    let low : 5 ≤ n = leb-true 5 n both.0 in
    let high : n ≤ 5 = leb-true n 5 both.1 in
    omega (arith, low, high)

taken : (n : ℕ) → is_taken tiny (set_extents small) n ≡ true → n ≡ 5
taken n is = number n (subst (λ es. is_taken tiny es n ≡ true) extents is)

no_alternate : (m : ℕ) → is_alternate_of tiny (track_on small_slots 5) m ≡ true → is_kept_back small m ≡ false
unfolding slot_of track_of records_from of_each
no_alternate m is = absurd (true≢false (sym is))

pub small_is_right : SmallIsRight
unfolding slot_of track_of records_from of_each extent_findings sets_findings piece_findings links_from
small_is_right = record {
  says = record { geometry = refl; label = refl; table = refl; blocks = refl };
  nothing = refl;
  sound = record { table = refl; nothing = refl };
  clear = record {
    whole = refl;
    label = ap (λ es. is_taken tiny es 0) extents;
    alternates = λ n m is names.
        no_alternate m (subst (λ k. is_alternate_of tiny (track_on small_slots k) m ≡ true) (taken n is) names);
  };
  renamed = refl;
}

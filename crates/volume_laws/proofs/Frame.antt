-- What is read for a data set, and what plans leave of it.
use Rattle.std.proofs.Common.{◌≡◌, ◌∙◌, ap, sym, refl, ℕ, zero, suc, ◌+◌, Bool, true, false, ◌&&◌, nat_lt, cond, if◌then◌else◌, List}
use Rattle.std.proofs.Common.{Result, Ok, Err}
use Rattle.std.proofs.lemmas.Bool.{eq-eqb}
use Rattle.std.proofs.Common.{◌⊎◌, ⊎_elim}
use Rattle.ckd_track.specs.declared.fault.SlotFault.{SlotFault}
use Rattle.ckd_track.specs.declared.geometries.Geometry.{Geometry}
use Rattle.ckd_track.specs.Geometry.{tracks_of, track_at}
use Rattle.ckd_track.specs.Model.{heads_of}
use Rattle.ckd_track.specs.Track.{Track, track_of}
use Rattle.volume_labels.specs.declared.addresses.TrackPlace.{TrackPlace}
use Rattle.volume_labels.specs.declared.addresses.TrackPlace.TheVariants as place
use Rattle.volume_labels.specs.Addresses as addresses
use Rattle.new_labels.specs.Runs.{is_taken}
use Rattle.volume_contents.specs.Contents.{slot_at}
use Rattle.dasd_extract.specs.declared.blocks.ExtractedForm.{ExtractedForm}
use Rattle.dasd_extract.specs.Alternates.{is_defective, has_record_0, named_by, holder_of, is_other, read_from}
use Rattle.dasd_extract.specs.declared.stops.Cause.TheVariants.{NoTrack, NotAlternate, TooManyTracks}
use Rattle.dasd_extract.specs.Written.{and_then, until_stop, told_behind, stopped}
use Rattle.dasd_extract.specs.Walk.{Wanted, track_on, slot_written, alternate_written, held_written, found_written, place_written}
use Rattle.dasd_extract.specs.Walk.{number_on, track_written, found_read_from}
use Rattle.dasd_extract.specs.Walk.{place_read_from, alternates_read, track_told, source_written}
use Rattle.volume_laws.specs.Frame.{is_alternate_of, AreOthers, StaysRead, SourceStays}
use Rattle.volume_laws.proofs.Reached.{leads}

module _ (g : Geometry) (s : Wanted) (before now : List (List ℕ)) (stay : StaysRead g s before now) where
  abbrev Stays : ℕ → Type 0
  Stays m = (slot_at now m ≡ slot_at before m) ⊎ AreOthers before now m

  -- what is written of a track that another one names, and whether it is read
  alternate_same : (form : ExtractedForm) (track number m : ℕ) → Stays m
      → alternate_written form track number (track_on now m) ≡ alternate_written form track number (track_on before m)
  alternate_same form track number m stays =
      ⊎_elim (λ same. ap (λ slot. alternate_written form track number (track_of slot)) same) (λ (o : AreOthers before now m).
      ap (λ b. if b then stopped track NotAlternate else slot_written form track number (track_on now m)) o.is
      ∙ sym (ap (λ b. if b then stopped track NotAlternate else slot_written form track number (track_on before m)) o.was)) stays

  other_same : (m : ℕ) → Stays m → cond {A = ℕ} (is_other (track_on now m)) 0 1 ≡ cond {A = ℕ} (is_other (track_on before m)) 0 1
  other_same m stays =
      ⊎_elim (λ same. ap (λ (slot : List ℕ). cond {A = ℕ} (is_other (track_of slot)) 0 1) same) (λ (o : AreOthers before now m).
      ap (λ b. cond {A = ℕ} b 0 1) o.is ∙ sym (ap (λ b. cond {A = ℕ} b 0 1) o.was)) stays

  module _ (n : ℕ) (has : is_taken g s.extents n ≡ true) where
    same_track : track_on now n ≡ track_on before n
    same_track = ap track_of (stay.own n has)

    -- what is written of a track whose blocks are where its own record 0 says
    held_same : (form : ExtractedForm) (track number : ℕ) (r : Result Track SlotFault) → ((m : ℕ) → is_alternate_of g r m ≡ true → Stays m)
        → held_written form track number now n (holder_of g r) ≡ held_written form track number before n (holder_of g r)
    held_same form track number (Err fault) others = ap (slot_written form track number) same_track
    held_same form track number (Ok t) others =
        by (is_defective t) refl (has_record_0 t) refl
        (nat_lt (named_by t).cylinder g.cylinders && nat_lt (named_by t).head (heads_of g.model)) refl
      where
        by : (a : Bool) → is_defective t ≡ a → (b : Bool) → has_record_0 t ≡ b
            → (c : Bool) → (nat_lt (named_by t).cylinder g.cylinders && nat_lt (named_by t).head (heads_of g.model)) ≡ c
            → held_written form track number now n (holder_of g (Ok t)) ≡ held_written form track number before n (holder_of g (Ok t))
        by false x b y c z = rw x (ap (slot_written form track number) same_track)
        by true x false y c z = rw (x, y) refl
        by true x true y false z = rw (x, y, z) refl
        by true x true y true z =
            let m = track_at g (named_by t).cylinder (named_by t).head in
            let it : is_alternate_of g (Ok t) m ≡ true = rw (x, y, z) (eq-eqb m m refl) in
            rw (x, y, z) (alternate_same form track number m (others m it))

    read_same : (r : Result Track SlotFault) → ((m : ℕ) → is_alternate_of g r m ≡ true → Stays m)
        → read_from now (holder_of g r) ≡ read_from before (holder_of g r)
    read_same (Err fault) others = refl
    read_same (Ok t) others =
        by (is_defective t) refl (has_record_0 t) refl
        (nat_lt (named_by t).cylinder g.cylinders && nat_lt (named_by t).head (heads_of g.model)) refl
      where
        by : (a : Bool) → is_defective t ≡ a → (b : Bool) → has_record_0 t ≡ b
            → (c : Bool) → (nat_lt (named_by t).cylinder g.cylinders && nat_lt (named_by t).head (heads_of g.model)) ≡ c
            → read_from now (holder_of g (Ok t)) ≡ read_from before (holder_of g (Ok t))
        by false x b y c z = rw x refl
        by true x false y c z = rw (x, y) refl
        by true x true y false z = rw (x, y, z) refl
        by true x true y true z =
            let m = track_at g (named_by t).cylinder (named_by t).head in
            let it : is_alternate_of g (Ok t) m ≡ true = rw (x, y, z) (eq-eqb m m refl) in
            rw (x, y, z) (other_same m (others m it))

    found_same : (form : ExtractedForm) (track number : ℕ)
        → found_written form track number g now n ≡ found_written form track number g before n
    found_same form track number =
        ap (λ r. held_written form track number now n (holder_of g r)) same_track
        ∙ held_same form track number (track_on before n) (λ m it. stay.alternates n m has it)

    found_read_same : found_read_from n g now ≡ found_read_from n g before
    found_read_same = ap (λ r. read_from now (holder_of g r)) same_track
        ∙ read_same (track_on before n) (λ m it. stay.alternates n m has it)

  place_same : (track number i k : ℕ) (p : TrackPlace) → addresses.track_of (heads_of g.model) s.extents k ≡ p
      → place_written s.form track number i g now p ≡ place_written s.form track number i g before p
  place_same track number i k place.PastEnd is = refl
  place_same track number i k place.BadExtent is = refl
  place_same track number i k (place.Track n) is =
      ap (λ w. if nat_lt n (tracks_of g) then w else stopped track NoTrack)
      (found_same n (leads (heads_of g.model) n s.extents k is) s.form track number)

  place_read_same : (k : ℕ) (p : TrackPlace) → addresses.track_of (heads_of g.model) s.extents k ≡ p
      → place_read_from g now p ≡ place_read_from g before p
  place_read_same k place.PastEnd is = refl
  place_read_same k place.BadExtent is = refl
  place_read_same k (place.Track n) is =
      ap (λ w. if nat_lt n (tracks_of g) then w else 0) (found_read_same n (leads (heads_of g.model) n s.extents k is))

  written_same : (i : ℕ) → track_written s g now i ≡ track_written s g before i
  written_same i = place_same (s.start.track + i) (number_on s.start i) i (s.start.track + i) _ refl

  read_from_same : (i : ℕ) → alternates_read s g now i ≡ alternates_read s g before i
  unfolding alternates_read
  read_from_same zero = refl
  read_from_same (suc i) = (λ j. read_from_same i j + place_read_same (s.start.track + i) _ refl j)

  told_same : (i : ℕ) → track_told s g now i ≡ track_told s g before i
  told_same i = λ j. told_behind (read_from_same (i + 1) j) (written_same i j)

  all_same : (n : ℕ) → until_stop (track_told s g now) n ≡ until_stop (track_told s g before) n
  unfolding until_stop
  all_same zero = refl
  all_same (suc n) = λ j. and_then (all_same n j) (told_same n j)

  same : source_written s g now ≡ source_written s g before
  same = λ j. and_then (all_same s.tracks j) (told_behind (read_from_same s.tracks j) (stopped (s.start.track + s.tracks) TooManyTracks))

pub source_stays : SourceStays
source_stays g s before now stay = same g s before now stay

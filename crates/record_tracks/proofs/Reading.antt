-- Parts of the records are read from their place on, track after track, up to the end of file behind them.
use Rattle.std.proofs.Common.{inl, ◌≡◌, ◌∙◌, ap, sym, refl, ℕ, zero, suc, ◌+◌, ◌-◌, ◌≤◌, ◌<◌, List, [], ◌∷◌, ◌++◌, length, take, drop}
use Rattle.std.proofs.Common.{flat_map, get_or, arith, All, Some, Bool, true, false, cond, nat_lt, ◌==◌, append-nil, length-append, subst}
use Rattle.std.proofs.Common.{Ok, length-drop, ⊎_elim, drop-drop, ◌≢◌, inr, ap₂}
use Rattle.std.proofs.lemmas.List.{take_more, take_all, take_at, get_or-drop, get_or_append_left, get_or-append-add, length-take-le}
use Rattle.std.proofs.lemmas.List.{take-append-le, drop-append-le, take-append-drop, drop_at, drop-take, Sums.position_or_len_is}
use Rattle.std.proofs.{lemmas.Bool.cases_lt, lemmas.Bool.Decides.nat_tests, lemmas.Grind.flat_map-append, Math.Seq.take-append-add}
use Rattle.std.proofs.{lemmas.List.Elements.All-get_or, lemmas.List.Elements.All-drop, lemmas.List.Elements.All-take, Math.Seq.take-add}
use Rattle.std.specs.List.{position}
use Rattle.ckd_track.specs.{declared.geometries.Geometry.Geometry, declared.model.DriveModel.DriveModel, Model.heads_of, Geometry.tracks_of}
use Rattle.ckd_track.specs.Track.{Record, record_in, no_record, track_of}
use Rattle.dasd_extract.specs.Walk.{blocks_from, first_block, blocks_or_none, slot_written, place_written, place_read_from, track_on}
use Rattle.dasd_extract.specs.Walk.{Wanted, wanted, number_on, track_written, track_told, alternates_read, source_written, too_many}
use Rattle.dasd_extract.specs.declared.{stops.Cause.TheVariants.EndOfFile, blocks.ExtractedForm.ExtractedForm}
use Rattle.dasd_extract.specs.Written.{Written, these_bytes, stopped, stop_at, and_then, until_stop, told_behind}
use Rattle.dasd_extract.specs.Blocks.{block_written, number_of}
use Rattle.dasd_extract.proofs.Endings.{until_none, until_one_more, stays_for, ended_stays}
use Rattle.dasd_extract.proofs.Told.{none_read, one_more_read}
use Rattle.record_tracks.specs.ReadBack.{IsWrittenAs, ended_by_file, IsLoadedAt, IsLoaded, IsAskedBy, IsReadBack, IsWritten, IsReadAsData}
use Rattle.record_tracks.specs.{ReadBack.keyed_text, Records.Areas, Records.end_of_file, Records.GoesOn}
use Rattle.record_tracks.specs.Tracks.{fitting_on, record_with, track_bytes, loaded_track, left_behind, StandsAt, Takes}
use Rattle.record_tracks.proofs.Fitting.{left_shrinks, fits_on, none_behind, one_behind, some_fit}
use Rattle.record_tracks.proofs.{Spelled.record_of, Spelled.length-records_of, Spelled.loaded_read, Standing.in_order}
use Rattle.volume_labels.specs.declared.{fields.Extent.Extent, addresses.TrackPlace.TrackPlace}
use Rattle.volume_labels.specs.declared.addresses.TrackPlace.TheVariants as place
use Rattle.volume_labels.specs.Addresses as addresses
use Rattle.dasd_extract.specs.declared.blocks.ExtractedForm.TheVariants as form

-- What is written of one record: its text; of an end of file nothing, and that is the end.
one_written : (f : ExtractedForm) (text : Areas → List ℕ) (track number : ℕ) (id : List ℕ) (a : Areas) → IsWrittenAs f text a
    → block_written f track (record_with id number a) ≡ these_bytes (text a)
one_written f text track number id a is =
    let some = is.some in
    let e : (length a.data_area == 0) ≡ false = grind (arith, nat_tests) in rw e (is.written track number id)

-- Records one after another, each with its number.
module _ (f : ExtractedForm) (text : Areas → List ℕ) (track first : ℕ) (id : List ℕ) (what : ℕ → Written) (xs : List Areas)
    (each : (k : ℕ) → k < length xs → what k ≡ block_written f track (record_with id (first + k) (get_or xs k end_of_file))) where
  -- the first of them
  pub walked : (n : ℕ) → n ≤ length xs → ((k : ℕ) → k < n → IsWrittenAs f text (get_or xs k end_of_file))
      → until_stop what n ≡ these_bytes (flat_map text (take n xs))
  walked zero within are = until_none what
  walked (suc n) within are =
      let e : suc n ≡ n + 1 = omega arith in
      let before = walked n (omega (arith, within)) (λ k there. are k (omega arith)) in
      let a = get_or xs n end_of_file in
      let one = each n (omega (arith, within)) ∙ one_written f text track (first + n) id a (are n (omega arith)) in
      let more : flat_map text (take (n + 1) xs) ≡ flat_map text (take n xs) ++ text a =
      cc (take_more xs n end_of_file (omega arith), flat_map-append text (take n xs) (a ∷ []), append-nil (text a)) in
      cc (until_one_more what n)

  -- all of them, where none is an end of file
  pub all_walked : All (IsWrittenAs f text) xs → until_stop what (length xs) ≡ these_bytes (flat_map text xs)
  all_walked are =
      let two = walked (length xs) (omega arith) (λ k there. All-get_or (IsWrittenAs f text) xs k end_of_file there are) in
      cc (take_all (length xs) xs (omega arith))

  -- those before an end of file
  pub end_walked : (part rest : List Areas) → xs ≡ part ++ (end_of_file ∷ rest) → All (IsWrittenAs f text) part
      → until_stop what (length xs) ≡ ended_by_file (flat_map text part) track
  end_walked part rest is are =
      let n = length part in
      let size = ap length is ∙ length-append part (end_of_file ∷ rest) in
      let at : (k : ℕ) → k < n → get_or xs k end_of_file ≡ get_or part k end_of_file =
      λ k there. cc (get_or_append_left part (end_of_file ∷ rest) end_of_file k there) in
      let before = walked n (omega arith) (λ k there. rw (at k there)
      (All-get_or (IsWrittenAs f text) part k end_of_file there are))
      ∙ ap (λ (ys : List Areas). these_bytes (flat_map text ys)) (ap (take n) is ∙ take_at part (end_of_file ∷ rest) n refl) in
      let zero_on : n ≡ n + 0 = omega arith in
      let none : get_or xs n end_of_file ≡ end_of_file = cc (get_or-append-add part (end_of_file ∷ rest) 0 end_of_file) in
      let end : what n ≡ stopped track EndOfFile = cc (each n (omega arith)) in
      let here : until_stop what (n + 1) ≡ ended_by_file (flat_map text part) track =
      cc (until_one_more what n, append-nil (flat_map text part)) in
      let all : length xs ≡ n + 1 + (length xs - (n + 1)) = omega arith in
      cc (all, stays_for what (n + 1) (length xs - (n + 1)) (stop_at track EndOfFile) (ap (λ (w : Written). w.stop) here), here)

-- The records of a track from one of them on.
module _ (f : ExtractedForm) (track : ℕ) (g : Geometry) (n : ℕ) (left : List Areas) (o : ℕ) where
  abbrev pub placed : List Areas
  placed = take (fitting_on g.model left) left

  length-placed : length placed ≡ fitting_on g.model left
  length-placed = length-take-le (fitting_on g.model left) left (fits_on g.model 0 left).within

  abbrev pub what : ℕ → Written
  what k = block_written f track (record_in (loaded_track g n left) (o + 1 + k))

  pub what_is : (k : ℕ) → o + k < fitting_on g.model left
      → what k ≡ block_written f track (record_with (track_bytes g n) (o + 1 + k) (get_or (drop o placed) k end_of_file))
  what_is k there =
      let far : o + 1 + k ≡ suc (o + k) = omega arith in
      let number : 1 + (o + k) ≡ o + 1 + k = omega arith in ap (λ (r : Record). block_written f track r)
      (cc (record_of (track_bytes g n) 1 placed (o + k) (omega (arith, length-placed)), get_or-drop o placed k end_of_file))

  pub blocks_are : blocks_from f track (loaded_track g n left) (o + 1) ≡ until_stop what (fitting_on g.model left - o)
  blocks_are =
      let count : length (loaded_track g n left).records - (o + 1) ≡ fitting_on g.model left - o =
      omega (arith, length-records_of (track_bytes g n) 1 placed, length-placed) in
      ap (until_stop what) count

  -- each record has its place as its number
  number_at : (k : ℕ) → k ≤ fitting_on g.model left → number_of (record_in (loaded_track g n left) k) ≡ k
  number_at zero within = refl
  number_at (suc k) within =
      let e : 1 + k ≡ suc k = omega arith in cc (record_of (track_bytes g n) 1 placed k (omega (arith, length-placed)))

  -- record o + 1 of the track has that number, and none before it
  pub its_number : o < fitting_on g.model left → first_block (o + 1) (loaded_track g n left) ≡ Some (o + 1)
  its_number there =
      let rs = (loaded_track g n left).records in
      let p : Record → Bool = λ r. number_of r == (o + 1) in
      let size : length rs ≡ 1 + fitting_on g.model left = omega (arith, length-records_of (track_bytes g n) 1 placed, length-placed) in
      let not_before : (k : ℕ) → k < o + 1 → p (get_or rs k no_record) ≡ false =
      λ k before. let e : (k == (o + 1)) ≡ false = grind (arith, nat_tests) in
      cc (number_at k (omega arith)) in
      let here : p (get_or rs (o + 1) no_record) ≡ true =
      let e : ((o + 1) == (o + 1)) ≡ true = grind (arith, nat_tests) in cc (number_at (o + 1) (omega arith)) in
      let found = position_or_len_is p rs (o + 1) no_record (omega arith) not_before (λ _. here) in
      let within : nat_lt (o + 1) (length rs) ≡ true = grind (arith, nat_tests, size) in
      let some : ((o + 1) == 0) ≡ false = grind (arith, nat_tests) in
      let is : position p rs ≡ Some (o + 1) = cc (within) in cc

-- what is left behind tracks goes on tracks too
pub left_go : (model : DriveModel) (areas : List Areas) (i : ℕ) → All (GoesOn model) areas → All (GoesOn model) (left_behind model areas i)
left_go model areas zero each = subst (All (GoesOn model)) (sym (none_behind model areas)) each
left_go model areas (suc i) each = subst (All (GoesOn model)) (sym (one_behind model areas i))
    (All-drop (GoesOn model) (fitting_on model (left_behind model areas i)) (left_behind model areas i) (left_go model areas i each))

-- A loaded track, found over the extents: it is read from itself.
pub record Known (f : ExtractedForm) (g : Geometry) (slots : List (List ℕ)) (i : ℕ) (left : List Areas) (there : TrackPlace) : Type 0 where
  pub n : ℕ
  pub written : (number j : ℕ) → place_written f i number j g slots there
      ≡ blocks_or_none f i number (loaded_track g n left) (first_block number (loaded_track g n left))
  pub itself : place_read_from g slots there ≡ 0

known_at : (f : ExtractedForm) (g : Geometry) (slots : List (List ℕ)) (i : ℕ) (left : List Areas) (there : TrackPlace)
    → All (GoesOn g.model) left → IsLoadedAt g slots left there → Known f g slots i left there
known_at f g slots i left place.PastEnd each loaded = absurd loaded
known_at f g slots i left place.BadExtent each loaded = absurd loaded
known_at f g slots i left (place.Track n) each loaded =
    let within : nat_lt n (tracks_of g) ≡ true = grind (arith, nat_tests, loaded.0) in
    let read : track_on slots n ≡ Ok (loaded_track g n left) = ap track_of loaded.1 ∙ loaded_read g n left each in
    record { n = n; written = λ number j. rw (within, read) (ap (slot_written f i number) read); itself = rw (within, read) refl }

-- From the place of a part on.
module _ (f : ExtractedForm) (g : Geometry) (extents : List Extent) (slots : List (List ℕ)) (most : ℕ) (areas : List Areas)
    (track number last : ℕ) (each : All (GoesOn g.model) areas) (loaded : IsLoaded g extents slots areas (last + 1)) where
  abbrev pub source : Wanted
  source = wanted f extents (record { track = track; number = number }) most

  abbrev pub left : ℕ → List Areas
  left j = left_behind g.model areas (track + j)

  abbrev pub fit : ℕ → ℕ
  fit j = fitting_on g.model (left j)

  abbrev pub told : ℕ → Written
  told j = track_told source g slots j

  abbrev pub place_at : ℕ → TrackPlace
  place_at j = addresses.track_of (heads_of g.model) extents (track + j)

  pub known : (j : ℕ) → track + j ≤ last → Known f g slots (track + j) (left j) (place_at j)
  known j within = known_at f g slots (track + j) (left j) (place_at j) (left_go g.model areas (track + j) each)
      (loaded (track + j) (omega (arith, within)))

  no_alternate : (j : ℕ) → track + j ≤ last + 1 → alternates_read source g slots j ≡ 0
  no_alternate zero within = none_read source g slots
  no_alternate (suc j) within =
      let e : suc j ≡ j + 1 = omega arith in
      let before = no_alternate j (omega (arith, within)) in
      let one = (known j (omega (arith, within))).itself in cc (one_more_read source g slots j 0 0 (sym before) (omega arith))

  told_is : (j : ℕ) → track + j ≤ last → told j ≡ told_behind 0 (track_written source g slots j)
  told_is j within = ap (λ (n : ℕ). told_behind n (track_written source g slots j)) (no_alternate (j + 1) (omega (arith, within)))

  -- The reader begins a track behind so many of its records.
  abbrev pub Begins : (j o : ℕ) → Type 0
  Begins j o = (n : ℕ) → first_block (number_on source.start j) (loaded_track g n (left j)) ≡ Some (o + 1)

  pub first_begins : (o : ℕ) → number ≡ o + 1 → o < fit 0 → Begins 0 o
  first_begins o is there n = cc (its_number f track g n (left 0) o there)

  pub zero_begins : number ≡ 0 → Begins 0 0
  zero_begins is n = ap (λ (m : ℕ). first_block m (loaded_track g n (left 0))) is

  pub later_begins : (j : ℕ) → Begins (suc j) 0
  later_begins j n =
      let e : (suc j == 0) ≡ false = grind (arith, nat_tests) in
      ap (λ (b : Bool). first_block (cond b number 0) (loaded_track g n (left (suc j)))) e

  -- What is told of a track.
  module _ (j o : ℕ) (within : track + j ≤ last) (few : o ≤ fit j) (begins : Begins j o) where
    abbrev pub xs : List Areas
    xs = drop o (take (fit j) (left j))

    pub length-xs : length xs ≡ fit j - o
    length-xs = omega (arith, length-drop o (take (fit j) (left j)), length-take-le (fit j) (left j) (fits_on g.model 0 (left j)).within)

    abbrev pub n : ℕ
    n = (known j within).n

    abbrev pub these : ℕ → Written
    these = what f (track + j) g n (left j) o

    track_is : track_written source g slots j ≡ until_stop these (length xs)
    track_is = cc ((known j within).written (number_on source.start j) j, begins n, blocks_are f (track + j) g n (left j) o, length-xs)

    these_are : (k : ℕ) → k < length xs → these k ≡ block_written f (track + j)
        (record_with (track_bytes g n) (o + 1 + k) (get_or xs k end_of_file))
    these_are k there = what_is f (track + j) g n (left j) o k (omega (arith, length-xs))

    pub all_told : (text : Areas → List ℕ) → All (IsWrittenAs f text) xs → told j ≡ these_bytes (flat_map text xs)
    all_told text are = cc (told_is j within, track_is, all_walked f text (track + j) (o + 1) (track_bytes g n) these xs these_are are)

    pub end_told : (text : Areas → List ℕ) (part rest : List Areas) → xs ≡ part ++ (end_of_file ∷ rest) → All (IsWrittenAs f text) part
        → told j ≡ ended_by_file (flat_map text part) (track + j)
    end_told text part rest is are =
        cc (told_is j within, track_is, end_walked f text (track + j) (o + 1) (track_bytes g n) these xs these_are part rest is are)

  -- What is read of a part, with an end of file behind it.
  module _ (text : Areas → List ℕ) (part behind : List Areas) (first its_number its_own : ℕ) (are : All (IsWrittenAs f text) part)
      (is : drop first areas ≡ part ++ (end_of_file ∷ behind)) (size : length areas ≡ first + length part + 1 + length behind)
      (from : StandsAt g.model areas first track its_own) (asked : IsAskedBy its_own number)
      (to : StandsAt g.model areas (first + length part) last its_number) where
    -- what was written of the tracks so far, and what comes next
    record SoFar (j : ℕ) : Type 0 where
      q : ℕ
      o : ℕ
      few : q ≤ length part
      within : o ≤ fit j
      begins : Begins j o
      written : until_stop told j ≡ these_bytes (flat_map text (take q part))
      here : drop o (left j) ≡ drop q part ++ (end_of_file ∷ behind)

    left_long : (j : ℕ) (s : SoFar j) → length (left j) ≡ s.o + (length part - s.q) + 1 + length behind
    left_long j s = omega (arith, ap length s.here, length-append {A = Areas}, length-drop s.q part, length-drop s.o (left j))

    last_long : length (left_behind g.model areas last) ≡ length areas - to.before
    last_long = ap length to.left ∙ length-drop to.before areas

    -- a track before the last has none but those of the part
    not_yet : (j : ℕ) (s : SoFar j) → track + j < last → fit j - s.o ≤ length part - s.q
    not_yet j s there =
        let next = ap length (one_behind g.model areas (track + j)) ∙ length-drop (fit j) (left j) in
        omega (arith, left_shrinks g.model areas (suc (track + j)) last there, left_long j s, last_long)

    -- the last one has the end of file too
    now : (j : ℕ) (s : SoFar j) → track + j ≡ last → length part - s.q + 1 ≤ fit j - s.o
    now j s there =
        let same = ap (λ (i : ℕ). length (left_behind g.model areas i)) there in
        let holds = ap (λ (i : ℕ). fitting_on g.model (left_behind g.model areas i)) there in omega (arith, left_long j s, last_long)

    -- before the first track nothing was written
    start : SoFar 0
    start =
        let o = its_own - 1 in
        let e : track + 0 ≡ track = omega arith in
        let n : its_own ≡ o + 1 = omega arith in
        let same = ap (λ (i : ℕ). fitting_on g.model (left_behind g.model areas i)) e in
        let there : o < fit 0 = omega arith in
        let far : from.before + o ≡ first = omega arith in record {
          q = 0;
          o = o;
          few = omega arith;
          within = omega arith;
          begins = ⊎_elim (λ (own : number ≡ its_own). first_begins o (own ∙ n) there) (λ (zeros : (number ≡ 0) × (its_own ≡ 1)).
              let none : 0 ≡ o = omega arith in subst (Begins 0) none (zero_begins zeros.0)) asked;
          written = until_none told;
          here = cc (drop-drop o from.before areas);
        }

    -- a track before the last
    next : (j : ℕ) → SoFar j → track + j < last → SoFar (suc j)
    next j s there =
        let m = fit j - s.o in
        let rest = drop s.q part in
        let few = not_yet j s there in
        let within : m ≤ length rest = omega (arith, length-drop s.q part) in
        let all : s.o + m ≡ fit j = omega arith in
        let these : drop s.o (take (fit j) (left j)) ≡ take m rest =
        cc (drop-take s.o m (left j), take-append-le m rest (end_of_file ∷ behind) within) in
        let written = all_told j s.o (omega arith) s.within s.begins text (subst (All (IsWrittenAs f text)) (sym these)
        (All-take (IsWrittenAs f text) m rest (All-drop (IsWrittenAs f text) s.q part are))) in
        let e : suc j ≡ j + 1 = omega arith in
        let on_next : track + suc j ≡ suc (track + j) = omega arith in
        let one : told j ≡ these_bytes (flat_map text (take m rest)) = cc in
        let bytes : flat_map text (take s.q part) ++ flat_map text (take m rest) ≡ flat_map text (take (s.q + m) part) =
        cc (flat_map-append text (take s.q part) (take m rest), take-add s.q m part) in
        let past = drop-append-le m rest (end_of_file ∷ behind) within in record {
          q = s.q + m;
          o = 0;
          few = omega arith;
          within = omega arith;
          begins = later_begins j;
          written = ap (until_stop told) e ∙ until_one_more told j ∙ ap₂ and_then s.written one ∙ ap these_bytes bytes;
          here = cc (one_behind g.model areas (track + j), drop-drop m s.o (left j), drop-drop m s.q part);
        }

    so_far : (j : ℕ) → track + j ≤ last → SoFar j
    so_far zero there = start
    so_far (suc j) there = next j (so_far j (omega arith)) (omega arith)

    -- the last track
    ended : (j : ℕ) → track + j ≡ last → until_stop told (j + 1) ≡ ended_by_file (flat_map text part) last
    ended j there =
        let s = so_far j (omega arith) in
        let m = fit j - s.o in
        let rest = drop s.q part in
        let enough = now j s there in
        let all : s.o + m ≡ fit j = omega arith in
        let more = m - (length rest + 1) in
        let count : m ≡ length rest + suc more = omega (arith, length-drop s.q part) in
        let taken = take-append-add rest (end_of_file ∷ behind) (suc more) in
        let these : drop s.o (take (fit j) (left j)) ≡ rest ++ (end_of_file ∷ take more behind) = cc (drop-take s.o m (left j)) in
        let written = end_told j s.o (omega arith) s.within s.begins text rest (take more behind) these
        (All-drop (IsWrittenAs f text) s.q part are) in
        let bytes : flat_map text (take s.q part) ++ flat_map text rest ≡ flat_map text part =
        cc (flat_map-append text (take s.q part) rest, take-append-drop s.q part) in
        until_one_more told j ∙ ap₂ and_then s.written written ∙ ap₂ ended_by_file bytes there

    pub part_read : last < track + most → source_written source g slots ≡ ended_by_file (flat_map text part) last
    part_read within =
        let before = in_order g.model areas first (first + length part) track its_own last its_number from to (omega arith) in
        let j = last - track in
        let here = ended j (omega arith) in
        let stop = stop_at last EndOfFile in
        let e : j + 1 + (most - (j + 1)) ≡ most = omega arith in
        let stays = stays_for told (j + 1) (most - (j + 1)) stop (ap (λ (w : Written). w.stop) here) in
        let whole : until_stop told most ≡ ended_by_file (flat_map text part) last = cc in
        ended_stays (until_stop told most) (too_many source g slots) stop (ap (λ (w : Written). w.stop) whole) ∙ whole

pub read_back : (model : DriveModel) (areas : List Areas) → All (GoesOn model) areas → IsReadBack model areas
read_back model areas each f text part first track number asked last its_number whole are from is_asked to
    g extents slots most same within loaded =
    let each_here : All (GoesOn g.model) areas = rw same each in
    let from_here : StandsAt g.model areas first track number = rw same from in
    let to_here : StandsAt g.model areas (first + length part) last its_number = rw same to in
    let rest = part ++ (end_of_file ∷ whole.behind) in
    let is : drop first areas ≡ rest = cc (drop_at whole.before rest first whole.number) in
    let size : length areas ≡ first + length part + 1 + length whole.behind =
    omega (arith, ap length whole.all, length-append {A = Areas}) in
    part_read f g extents slots most areas track asked last each_here loaded text part whole.behind first its_number number are is size
    from_here is_asked to_here within

-- the data of a record
pub as_data : (f : ExtractedForm) (a : Areas) → IsWritten f a → IsWrittenAs f (λ (b : Areas). b.data_area) a
as_data form.Raw a some = record { some = some; written = λ track number id. refl }
as_data form.Directory a is =
    let eight = is.0 in
    let whole = is.1 in
    let key : (length a.key_area == 8) ≡ true = grind (arith, nat_tests) in
    let size : (length a.data_area == 256) ≡ true = grind (arith, nat_tests) in
    record { some = omega arith; written = λ track number id. rw (key, size) refl }
as_data (form.Text l) a is = absurd is
as_data form.Keyed a is = absurd is

-- a record with its lengths and its key
pub as_keyed : (a : Areas) → 1 ≤ length a.data_area → IsWrittenAs form.Keyed keyed_text a
as_keyed a some = record { some = some; written = λ track number id. refl }

pub read_as_data : (f : ExtractedForm) (model : DriveModel) (areas : List Areas) → All (GoesOn model) areas → IsReadAsData f model areas
read_as_data f model areas each part first track number asked last its_number whole are =
    read_back model areas each f (λ (b : Areas). b.data_area) part first track number asked last its_number whole
    (λ k d there. as_data f _ (are k d there))

-- the first record stands on the first track, with number 1
pub first_stands : (model : DriveModel) (areas : List Areas) → All (GoesOn model) areas → 0 < length areas → StandsAt model areas 0 0 1
first_stands model areas each some = record {
  before = 0;
  left = none_behind model areas;
  place = refl;
  first = omega arith;
  there = omega (arith, some_fit model areas 0 each some, ap (fitting_on model) (none_behind model areas));
}

-- what is left behind tracks is what is behind so many records
left_from : (model : DriveModel) (areas : List Areas) (n : ℕ) → (m : ℕ) × (left_behind model areas n ≡ drop m areas)
left_from model areas zero = (0, none_behind model areas)
left_from model areas (suc n) =
    let before = left_from model areas n in
    let fit = fitting_on model (left_behind model areas n) in (before.0 + fit, cc (one_behind model areas n, drop-drop fit before.0 areas))

some_in : (xs : List Areas) → xs ≢ [] → 1 ≤ length xs
some_in [] none = absurd (none refl)
some_in (x ∷ xs) some = omega arith

-- the last record stands on the last of the tracks
module _ (model : DriveModel) (areas : List Areas) (tracks : ℕ) (takes : Takes model areas tracks) where
  some_tracks : 0 < length areas → 1 ≤ tracks
  some_tracks some = elim (cases_lt tracks 1) [
    | inl none ↦
        absurd (omega (arith, left_shrinks model areas tracks 0 (omega arith), ap length (none_behind model areas), ap length takes.all))
    | inr is ↦ is
  ]

  pub last_stands : (k : ℕ) → k + 1 ≡ length areas → StandsAt model areas k (tracks - 1) (length (left_behind model areas (tracks - 1)))
  last_stands k all =
      let j = tracks - 1 in
      let last : suc j ≡ tracks = omega (arith, some_tracks (omega arith)) in
      let left = left_behind model areas j in
      let some = some_in left (takes.fewest j last) in
      let from = left_from model areas j in
      let none : drop (fitting_on model left) left ≡ [] = cc (one_behind model areas j) in
      let size : length left - fitting_on model left ≡ 0 = cc (length-drop (fitting_on model left) left) in record {
        before = from.0;
        left = from.1;
        place = omega (arith, all, ap length from.1, length-drop from.0 areas);
        first = some;
        there = omega arith;
      }

-- all of them with an end of file behind them
module _ (model : DriveModel) (part : List Areas) (tracks : ℕ) (each : All (GoesOn model) (part ++ (end_of_file ∷ [])))
    (takes : Takes model (part ++ (end_of_file ∷ [])) tracks) where
  abbrev all : List Areas
  all = part ++ (end_of_file ∷ [])

  long : length part + 1 ≡ length all
  long = omega (arith, length-append part (end_of_file ∷ []))

  pub whole_read : (form : ExtractedForm) (text : Areas → List ℕ) (g : Geometry) (extents : List Extent) (slots : List (List ℕ)) (most : ℕ)
      → All (IsWrittenAs form text) part → g.model ≡ model → tracks ≤ most → IsLoaded g extents slots all tracks
      → source_written (wanted form extents (record { track = 0; number = 0 }) most) g slots
      ≡ ended_by_file (flat_map text part) (tracks - 1)
  whole_read form text g extents slots most are same within loaded =
      let some : 0 < length all = omega (arith, long) in
      let e : tracks - 1 + 1 ≡ tracks = omega (arith, some_tracks model all tracks takes some) in
      let zero_on : length part ≡ 0 + length part = omega arith in
      read_back model all each form text part 0 0 1 0 (tracks - 1) (length (left_behind model all (tracks - 1)))
      (record { before = []; behind = []; all = refl; number = refl }) are (first_stands model all each some) (inr (refl, refl))
      (subst (λ (n : ℕ). StandsAt model all n (tracks - 1) (length (left_behind model all (tracks - 1)))) zero_on
      (last_stands model all tracks takes (length part) long))
      g extents slots most same (omega (arith, within)) (subst (λ (n : ℕ). IsLoaded g extents slots all n) (sym e) loaded)

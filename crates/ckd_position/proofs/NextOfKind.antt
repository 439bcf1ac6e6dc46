-- The next area of each kind, reached from the number of a record.
use Rattle.std.proofs.Common.{◌≡◌, ℕ, zero, suc, ◌+◌, ◌<◌, ◌≤◌, ◌⊎◌, inl, inr, List, [], ◌∷◌, ◌++◌, length, length-drop, drop, refl, ap}
use Rattle.std.proofs.Common.{◌∙◌, arith, Bool, true, false, Some, max}
use Rattle.std.specs.Prelude.{find}
use Rattle.std.proofs.lemmas.Bool.{cases_lt, lt-ltb, le-ltb, and_right}
use Rattle.std.proofs.lemmas.Bool.Decides.{nat_tests}
use Rattle.std.proofs.lemmas.List.{drop_more, drop_all}
use Rattle.ckd_track.specs.Track.{Record, Track, no_record, record_in}
use Rattle.ckd_position.specs.declared.areas.RecordPart.{RecordPart}
use Rattle.ckd_position.specs.declared.areas.RecordPart.TheVariants.{Count, Key, Data}
use Rattle.ckd_position.specs.declared.areas.Area.{Area}
use Rattle.ckd_position.specs.declared.areas.Area.TheVariants.{HomeAddress, Of}
use Rattle.ckd_position.specs.declared.areas.Position.{Position}
use Rattle.ckd_position.specs.declared.areas.Position.TheVariants.{At}
use Rattle.ckd_position.specs.declared.areas.Kind.TheVariants as kind
use Rattle.ckd_position.specs.declared.areas.Next.TheVariants.{IndexPassed}
use Rattle.ckd_position.specs.Areas.{areas_from, areas, has_key, found, is_behind, takes, next_of_kind}
use Rattle.ckd_position.specs.Looks.{part_on, records_begun, key_record, data_record, is_key, next_key_from}
use Rattle.ckd_position.proofs.Walk.{with_key, NoneBefore, skip}

-- a look takes no area before record n, and of that record this part first
part_found : (test : Area → Bool) (part : RecordPart) (t : Track) (n : ℕ) → test HomeAddress ≡ false → NoneBefore test n
    → (n < length t.records → (b : Bool) (rest : List Area) → find test (with_key b n ++ rest) ≡ Some (Of part n))
    → found (find test (areas t)) ≡ part_on t part n
part_found test part t n home before first = by (cases_lt n (length t.records))
  where
    by : (n < length t.records) ⊎ (length t.records ≤ n) → found (find test (areas t)) ≡ part_on t part n
    by (inl h) =
        rw (home, skip test n 0 n t.records before (omega arith), drop_more t.records n no_record h, lt-ltb n (length t.records) h)
        (ap found (first h (has_key (record_in t n)) (areas_from (n + 1) (drop (n + 1) t.records))))
    by (inr h) = rw (home, skip test n 0 n t.records before (omega arith), drop_all n t.records h, le-ltb n (length t.records) h) refl

-- a look that takes only count areas, and one that takes only data areas
count_found : (test : Area → Bool) (t : Track) (n : ℕ) → test HomeAddress ≡ false → ((j : ℕ) → test (Of Key j) ≡ false)
    → ((j : ℕ) → test (Of Data j) ≡ false)
    → ((j : ℕ) → j < n → test (Of Count j) ≡ false) → (n < length t.records → test (Of Count n) ≡ true)
    → found (find test (areas t)) ≡ part_on t Count n
count_found test t n home key body before here = part_found test Count t n home (record {
  count = before;
  key = λ j _. key j;
  body =
      λ j _. body j;
}) (λ l. first (here l))
  where
    first : test (Of Count n) ≡ true → (b : Bool) (rest : List Area) → find test (with_key b n ++ rest) ≡ Some (Of Count n)
    first c true rest = rw c refl
    first c false rest = rw c refl

data_found : (test : Area → Bool) (t : Track) (n : ℕ) → test HomeAddress ≡ false → ((j : ℕ) → test (Of Count j) ≡ false)
    → ((j : ℕ) → test (Of Key j) ≡ false)
    → ((j : ℕ) → j < n → test (Of Data j) ≡ false) → (n < length t.records → test (Of Data n) ≡ true)
    → found (find test (areas t)) ≡ part_on t Data n
data_found test t n home count key before here = part_found test Data t n home (record {
  count = λ j _. count j;
  key = λ j _. key j;
  body =
      before;
}) (λ l. first (here l))
  where
    first : test (Of Data n) ≡ true → (b : Bool) (rest : List Area) → find test (with_key b n ++ rest) ≡ Some (Of Data n)
    first d true rest = rw (count n, key n, d) refl
    first d false rest = rw (count n, d) refl

-- nothing is taken
none_found : (test : Area → Bool) → ((a : Area) → test a ≡ false) → (as' : List Area) → found (find test as') ≡ IndexPassed
none_found test none [] = refl
none_found test none (a ∷ as') = rw (none a) (none_found test none as')

-- Count areas.

-- the count areas of the records that have begun have passed
count_passed : (t : Track) (p : Position) (j : ℕ) → j < records_begun t p → is_behind p (Of Count j) ≡ false
count_passed t (At (Of Count i)) j h = grind (arith, nat_tests)
count_passed t _ j h = grind (arith, nat_tests)

-- and every area of the others is still to pass
still_behind : (t : Track) (p : Position) (part : RecordPart) (j : ℕ) → records_begun t p ≤ j → j < length t.records
    → is_behind p (Of part j) ≡ true
still_behind t (At (Of q i)) part j h l = grind (arith, nat_tests)
still_behind t _ part j h l = refl

pub any_count : (t : Track) (p : Position) → next_of_kind t p kind.AnyCount ≡ part_on t Count (records_begun t p)
any_count t p = count_found (takes kind.AnyCount p) t _ refl (λ j. refl) (λ j. refl) (count_passed t p)
    (λ l. still_behind t p Count (records_begun t p) (omega arith) l)

pub first_count : (t : Track) (p : Position) → records_begun t p ≡ 0 → next_of_kind t p kind.FirstCount ≡ part_on t Count 0
first_count t p e = count_found (takes kind.FirstCount p) t 0 refl (λ j. refl) (λ j. refl) (λ j h. absurd (omega (arith, h)))
    (λ l. still_behind t p Count 0 (omega arith) l)

pub no_first_count : (t : Track) (p : Position) → 0 < records_begun t p → next_of_kind t p kind.FirstCount ≡ IndexPassed
no_first_count t p h = none_found (takes kind.FirstCount p) none (areas t)
  where
    none : (a : Area) → takes kind.FirstCount p a ≡ false
    none (Of Count zero) = count_passed t p 0 h
    none (Of Count (suc i)) = grind (arith, nat_tests)
    none _ = refl

pub later_count : (t : Track) (p : Position) → next_of_kind t p kind.LaterCount ≡ part_on t Count (max (records_begun t p) 1)
later_count t p = count_found (takes kind.LaterCount p) t _ refl (λ j. refl) (λ j. refl) before
    (λ l. let b = still_behind t p Count (max (records_begun t p) 1) (omega arith) l in grind (arith, nat_tests))
  where
    before : (j : ℕ) → j < max (records_begun t p) 1 → takes kind.LaterCount p (Of Count j) ≡ false
    before zero h = refl
    before (suc j) h = and_right _ _ (count_passed t p (suc j) (omega arith))

-- The home address.

pub no_home_address : (t : Track) (a : Area) → next_of_kind t (At a) kind.HomeAddress ≡ IndexPassed
no_home_address t a = none_found (takes kind.HomeAddress (At a)) (none a) (areas t)
  where
    none : (p : Area) (b : Area) → takes kind.HomeAddress (At p) b ≡ false
    none HomeAddress HomeAddress = refl
    none (Of part i) HomeAddress = refl
    none p (Of part i) = refl

-- Data areas.

pub first_data : (t : Track) (p : Position) → is_behind p (Of Data 1) ≡ true → next_of_kind t p kind.FirstData ≡ part_on t Data 1
first_data t p e = data_found (takes kind.FirstData p) t 1 refl (λ j. refl) (λ j. refl) (λ j h. grind (arith, nat_tests)) (λ l. e)

pub no_first_data : (t : Track) (p : Position) → is_behind p (Of Data 1) ≡ false → next_of_kind t p kind.FirstData ≡ IndexPassed
no_first_data t p e = none_found (takes kind.FirstData p) none (areas t)
  where
    none : (a : Area) → takes kind.FirstData p a ≡ false
    none (Of Data (suc zero)) = e
    none (Of Data (suc (suc i))) = grind (arith, nat_tests)
    none _ = refl

data_passed : (t : Track) (p : Position) (j : ℕ) → j < data_record t p → takes kind.Data p (Of Data j) ≡ false
data_passed t (At (Of Count i)) j h = grind (arith, nat_tests)
data_passed t _ j h = grind (arith, nat_tests)

data_taken : (t : Track) (p : Position) → data_record t p < length t.records → takes kind.Data p (Of Data (data_record t p)) ≡ true
data_taken t (At (Of Count i)) l = grind (arith, nat_tests)
data_taken t _ l = grind (arith, nat_tests)

pub next_data : (t : Track) (p : Position) → next_of_kind t p kind.Data ≡ part_on t Data (data_record t p)
next_data t p = data_found (takes kind.Data p) t _ refl (λ j. refl) (λ j. refl) (data_passed t p) (data_taken t p)

-- Key areas, and key and data areas together.

key_passed : (t : Track) (p : Position) (j : ℕ) → j < key_record t p → takes kind.Key p (Of Key j) ≡ false
key_passed t (At (Of Count i)) j h = grind (arith, nat_tests)
key_passed t _ j h = grind (arith, nat_tests)

key_taken : (t : Track) (p : Position) (j : ℕ) → key_record t p ≤ j → j < length t.records → takes kind.Key p (Of Key j) ≡ true
key_taken t (At (Of Count i)) j h l = grind (arith, nat_tests)
key_taken t _ j h l = grind (arith, nat_tests)

-- key and data are taken together where the key is
whole_taken : (p : Position) (j : ℕ) → takes kind.KeyAndData p (Of Data j) ≡ takes kind.Key p (Of Key j)
whole_taken (At (Of Count i)) j = grind (arith, nat_tests)
whole_taken _ j = grind (arith, nat_tests)

pub next_key_and_data : (t : Track) (p : Position) → next_of_kind t p kind.KeyAndData ≡ part_on t Data (key_record t p)
next_key_and_data t p = data_found (takes kind.KeyAndData p) t _ refl (λ j. refl) (λ j. refl) (λ j h. whole_taken p j ∙ key_passed t p j h)
    (λ l. whole_taken p (key_record t p) ∙ key_taken t p (key_record t p) (omega arith) l)

-- a look that takes each key area from record i on is one for the first key area there
first_key : (p : Position) (i : ℕ) (rs : List Record) → ((j : ℕ) → i ≤ j → j < i + length rs → takes kind.Key p (Of Key j) ≡ true)
    → find (takes kind.Key p) (areas_from i rs) ≡ find is_key (areas_from i rs)
first_key p i [] taken = refl
first_key p i (r ∷ rs) taken = here (has_key r) (first_key p (i + 1) rs (λ j h l. taken j (omega arith) (omega arith)))
  where
    here : (b : Bool) → find (takes kind.Key p) (areas_from (i + 1) rs) ≡ find is_key (areas_from (i + 1) rs)
        → find (takes kind.Key p) (with_key b i ++ areas_from (i + 1) rs) ≡ find is_key (with_key b i ++ areas_from (i + 1) rs)
    here true rest = rw (taken i (omega arith) (omega arith)) refl
    here false rest = rest

pub next_key : (t : Track) (p : Position) → next_of_kind t p kind.Key ≡ next_key_from t (key_record t p)
next_key t p =
    let n = key_record t p in
    let none : NoneBefore (takes kind.Key p) n = record { count = λ j h. refl; key = key_passed t p; body = λ j h. refl } in
    ap found (skip (takes kind.Key p) n 0 n t.records none (omega arith)
    ∙ first_key p n (drop n t.records) (λ j h l. key_taken t p j h (omega (arith, length-drop n t.records))))

-- the next area of each kind
pub ruleset next_areas = (
  any_count,
  first_count,
  no_first_count,
  later_count,
  no_home_address,
  first_data,
  no_first_data,
  next_data,
  next_key_and_data,
  next_key,
)

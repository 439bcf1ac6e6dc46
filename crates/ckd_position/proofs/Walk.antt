-- Looking through the areas of a track from the number of a record on.
use Rattle.std.proofs.Common.{◌≡◌, ℕ, zero, suc, ◌+◌, ◌<◌, ◌≤◌, List, [], ◌∷◌, ◌++◌, length, drop, refl, ap, ◌∙◌, arith, Bool, true, false}
use Rattle.std.specs.Prelude.{find, if◌then◌else◌}
use Rattle.std.proofs.lemmas.List.{drop_more, drop_all}
use Rattle.ckd_track.specs.Track.{Record, Track, no_record, record_in}
use Rattle.ckd_position.specs.declared.areas.RecordPart.TheVariants.{Count, Key, Data}
use Rattle.ckd_position.specs.declared.areas.Area.{Area}
use Rattle.ckd_position.specs.declared.areas.Area.TheVariants.{Of}
use Rattle.ckd_position.specs.declared.areas.Next.TheVariants.{Found, IndexPassed}
use Rattle.ckd_position.specs.Areas.{areas_from, has_key}
use Rattle.ckd_position.specs.Looks.{next_key_from}

-- the areas of a record, by whether it has a key
abbrev pub with_key : Bool → ℕ → List Area
with_key b i = if b then Of Count i ∷ Of Key i ∷ Of Data i ∷ [] else Of Count i ∷ Of Data i ∷ []

-- where this record has a key, it is the one that is looked for
pub next_key_here : (t : Track) (i : ℕ) → i < length t.records → has_key (record_in t i) ≡ true → next_key_from t i ≡ Found (Of Key i)
next_key_here t i h k = rw (drop_more t.records i no_record h, k) refl

-- where it has none, the look goes on
pub next_key_later : (t : Track) (i : ℕ) → i < length t.records → has_key (record_in t i) ≡ false
    → next_key_from t i ≡ next_key_from t (i + 1)
next_key_later t i h k = rw (drop_more t.records i no_record h, k) refl

-- past the last record there is none
pub no_key_past : (t : Track) (i : ℕ) → length t.records ≤ i → next_key_from t i ≡ IndexPassed
no_key_past t i h = rw (drop_all i t.records h) refl

-- a look that takes no area of the records before record n
pub record NoneBefore (test : Area → Bool) (n : ℕ) : Type 0 where
  pub count : (j : ℕ) → j < n → test (Of Count j) ≡ false
  pub key : (j : ℕ) → j < n → test (Of Key j) ≡ false
  pub body : (j : ℕ) → j < n → test (Of Data j) ≡ false

-- may begin at that record
pub skip : (test : Area → Bool) (n i m : ℕ) (rs : List Record) → NoneBefore test m → i + n ≡ m
    → find test (areas_from i rs) ≡ find test (areas_from m (drop n rs))
skip test zero i m rs none e = ap (λ k. find test (areas_from k rs)) (omega (arith, e))
skip test (suc n) i m [] none e = refl
skip test (suc n) i m (r ∷ rs) none e = here (has_key r) ∙ skip test n (i + 1) m rs none (omega (arith, e))
  where
    here : (b : Bool) → find test (with_key b i ++ areas_from (i + 1) rs) ≡ find test (areas_from (i + 1) rs)
    here true = rw (none.count i (omega (arith, e)), none.key i (omega (arith, e)), none.body i (omega (arith, e))) refl
    here false = rw (none.count i (omega (arith, e)), none.body i (omega (arith, e))) refl

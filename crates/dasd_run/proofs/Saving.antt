-- Volumes that are saved as one.
use Rattle.std.proofs.Common.{ℕ, ◌+◌, ◌<◌, ◌≤◌, ◌≡◌, ◌∙◌, ◌⊎◌, inl, inr, List, [], ◌∷◌, ◌++◌, length, get_or, drop, ap, sym, refl}
use Rattle.std.proofs.Common.{Option, Some, None, Result, Ok, Err, add-one, append_assoc, append-nil, suc, false, IfErr, arith, rules}
use Rattle.std.specs.List.{zip}
use Rattle.std.proofs.Math.Seq.{drop-cons}
use Rattle.std.proofs.lemmas.Bool.{cases_lt}
use Rattle.std.proofs.lemmas.List.{drop_all, get_or_past}
use Rattle.std.proofs.lemmas.Slice.Zip.{length-zip, get_or-zip}
use Rattle.ckd_image.specs.Image.{ImageState}
use Rattle.dasd_jobs.specs.Back.{IsWritten}
use Rattle.dasd_jobs.specs.Written.{Replaced}
use Rattle.dasd_words.specs.declared.volumes.Volume.{Volume}
use Rattle.program_faults.specs.declared.fault.ProgramFault.{ProgramFault}
use Rattle.program_faults.specs.Faults.{keeps_files}
use Rattle.dasd_run.specs.Saves.{paths_of, AreSaved, SavesAll}

-- what stands beside a volume: the address of its drive and the image that was given back, if there is one
abbrev pub Given : Type 0
Given = Option (ℕ × ImageState)

-- the pairs from a place on, where there is one
from_pair : {A B : Type 0} (xs : List A) (ys : List B) (i : ℕ) (x : A) (y : B) → i < length xs → i < length ys
    → drop i (zip xs ys) ≡ (get_or xs i x, get_or ys i y) ∷ drop (i + 1) (zip xs ys)
from_pair xs ys i x y in_xs in_ys =
    rw add-one (drop-cons (zip xs ys) i (x, y) (omega (arith, length-zip xs ys))
    ∙ ap (λ p. p ∷ drop (suc i) (zip xs ys)) (get_or-zip xs ys i (x, y) in_xs in_ys))

-- and where the second list has ended
no_pair : {A B : Type 0} (xs : List A) (ys : List B) (i : ℕ) → length ys ≤ i → drop i (zip xs ys) ≡ []
no_pair xs ys i past = drop_all i (zip xs ys) (omega (arith, length-zip xs ys))

-- an element that is there is within the list
is_within : {A : Type 0} (ys : List (Option A)) (i : ℕ) (y : A) → get_or ys i None ≡ Some y → i < length ys
is_within ys i y there = by (cases_lt i (length ys))
  where
    by : (i < length ys) ⊎ (length ys ≤ i) → i < length ys
    by (inl less) = less
    by (inr past) = let none : get_or ys i None ≡ None = get_or_past ys i None past in cc

-- a volume beside which no image stands
pub none_there : (vs : List Volume) (ds : List Given) (i : ℕ) (before now : List Replaced)
    → i < length vs → get_or ds i None ≡ None → AreSaved (drop (i + 1) (zip vs ds)) before now
    → AreSaved (drop i (zip vs ds)) before now
none_there [] ds i before now inside none rest = absurd (omega arith)
none_there (v ∷ others) ds i before now inside none rest = by (cases_lt i (length ds))
  where
    vs : List Volume
    vs = v ∷ others

    by : (i < length ds) ⊎ (length ds ≤ i) → AreSaved (drop i (zip vs ds)) before now
    by (inl less) = rw (from_pair vs ds i v None inside less, none) rest
    by (inr past) = rw (no_pair vs ds i past) (rw (no_pair vs ds (i + 1) (omega arith)) at rest)

-- what is written of an image, behind other files
behind : (front before now : List Replaced) (paths : List (List ℕ)) (i : ImageState) → IsWritten paths i before now
    → IsWritten paths i (front ++ before) (front ++ now)
behind front before now paths i w = record {
  stores = w.stores;
  holds = w.holds;
  same = w.same;
  written = (ap (λ (l : List Replaced). front ++ l) w.written.0 ∙ sym (append_assoc front before _), w.written.1);
}

-- a volume that is saved with the others, behind those before it
pub saved_there : (vs : List Volume) (ds : List Given) (i : ℕ) (v : Volume) (d : ℕ × ImageState) (front before between now : List Replaced)
    → (i < length vs) × (get_or ds i None ≡ Some d) → IsWritten (paths_of (get_or vs i v).source) d.1 before between
    → AreSaved (drop (i + 1) (zip vs ds)) (front ++ between) now → AreSaved (drop i (zip vs ds)) (front ++ before) now
saved_there vs ds i v d front before between now there here rest =
    rw (from_pair vs ds i v None there.0 (is_within ds i d there.1), there.1)
    (front ++ between, behind front before between _ _ here, rest)

-- and behind the last one
pub none_left : (vs : List Volume) (ds : List Given) (i : ℕ) (before now : List Replaced) → length vs ≤ i → now ≡ before
    → AreSaved (drop i (zip vs ds)) before now
none_left vs ds i before now past same = rw (drop_all i (zip vs ds) (omega (arith, length-zip vs ds))) same

-- before the first one
pub none_yet : (vs : List Volume) (ds : List Given) (front new now : List Replaced) → new ≡ []
    → AreSaved (drop 0 (zip vs ds)) (front ++ new) now → AreSaved (zip vs ds) front now
none_yet vs ds front new now none saved = rw (none, append-nil front) at saved

-- the fault that is told is a file's
pub fault_of_files : (r : Result (Unit {0}) ProgramFault) (ps : List (Volume × Given)) (before now : List Replaced)
    → SavesAll r ps before now → IfErr r (λ e. keeps_files e ≡ false)
fault_of_files (Ok done) ps before now saved = search rules
fault_of_files (Err e) ps before now saved = rw saved.2 refl

-- The bytes from each block on, one block after another.
use Rattle.std.proofs.Common.{get_or, ◌≡◌, ap, sym, refl, ℕ, zero, suc, ◌+◌, ◌-◌, ◌≤◌, ◌<◌, List, [], ◌∷◌, ◌++◌, length, map, drop, arith}
use Rattle.std.proofs.Common.{All, Bool, true, false, ◌==◌, Option, Some, None, append_assoc, append-nil, take, length-take}
use Rattle.std.proofs.lemmas.{Bool.Decides.nat_tests, List.Elements.All-nil, List.Elements.All-cons}
use Rattle.record_tracks.specs.{Records.Areas, declared.blocks.Cut.Cut, declared.block_faults.DescribedFault.DescribedFault}
use Rattle.record_tracks.specs.Blocks.{size_of, first_areas, rests_to, rests_of, cut_by, IsBlock, AreBlocks}
use Rattle.record_tracks.specs.BlockFaults.{first_fault, described_fault, lengths_fault, fault_of_first, cut_fault, IsCutFor}
use Rattle.record_tracks.specs.declared.blocks.Cut.TheVariants.{Length, Described, WithLengths}
use Rattle.record_tracks.specs.declared.block_faults.BlockFault.{BlockFault}
use Rattle.std.specs.Prelude.{IfNone}
use Rattle.ckd_track.specs.{declared.model.DriveModel.DriveModel, Model.capacity_of}
use Rattle.volume_labels.specs.{declared.records.RecordForm.RecordForm, Records.number_at, declared.layouts.Layout.Layout}
use Rattle.record_tracks.proofs.Listed.{keyless_goes, goes_by_test}
use Rattle.volume_labels.specs.declared.records.RecordForm.TheVariants as form

-- bytes of which it was asked whether there are some
pub is_empty : (n : ℕ) (b : Bool) → b ≡ (n == 0) → b ≡ true → n ≤ 0
is_empty n b is none = grind (arith, nat_tests)

pub has_some : (n : ℕ) (b : Bool) → b ≡ (n == 0) → b ≡ false → 1 ≤ n
has_some n b is some = grind (arith, nat_tests)

pub none_left : (cut : Cut) (most : ℕ) (bytes : List ℕ) → length bytes ≤ 0 → rests_to cut most bytes ≡ []
unfolding rests_to
none_left cut zero bytes none = refl
none_left cut (suc most) [] none = refl
none_left cut (suc most) (b ∷ others) none = absurd (omega arith)

pub one_more : (cut : Cut) (most : ℕ) (bytes : List ℕ) → 1 ≤ length bytes
    → rests_to cut (suc most) bytes ≡ bytes ∷ rests_to cut most (drop (size_of cut bytes) bytes)
unfolding rests_to
one_more cut most [] some = absurd (omega arith)
one_more cut most (b ∷ others) some = refl

-- what is so of all bytes, and behind the first block of any of which it is so, is so from each block on
pub each_rest : (P : List ℕ → Type 0) (cut : Cut) (most : ℕ) (bytes : List ℕ) → P bytes
    → ((rest : List ℕ) → P rest → P (drop (size_of cut rest) rest)) → All P (rests_to cut most bytes)
unfolding rests_to
each_rest P cut zero bytes first next = All-nil P
each_rest P cut (suc most) [] first next = All-nil P
each_rest P cut (suc most) (b ∷ others) first next =
    All-cons P (b ∷ others) (rests_to cut most (drop (size_of cut (b ∷ others)) (b ∷ others))) first
    (each_rest P cut most (drop (size_of cut (b ∷ others)) (b ∷ others)) (next (b ∷ others) first) next)

-- from each of them on there are bytes
pub some_left : (cut : Cut) (most : ℕ) (bytes : List ℕ) → All (λ (rest : List ℕ). 1 ≤ length rest) (rests_to cut most bytes)
unfolding rests_to
some_left cut zero bytes = All-nil (λ (rest : List ℕ). 1 ≤ length rest)
some_left cut (suc most) [] = All-nil (λ (rest : List ℕ). 1 ≤ length rest)
some_left cut (suc most) (b ∷ others) =
    All-cons (λ (rest : List ℕ). 1 ≤ length rest) (b ∷ others) (rests_to cut most (drop (size_of cut (b ∷ others)) (b ∷ others)))
    (omega arith) (some_left cut most (drop (size_of cut (b ∷ others)) (b ∷ others)))

-- A loop over blocks that has passed k of them: which are left, of all bytes and of the rest.
module _ (cut : Cut) (size k : ℕ) (rest : List ℕ) (there : k < size) (some : 1 ≤ length rest) where
  pub next_rest : rests_to cut (size - k) rest ≡ rest ∷ rests_to cut (size - (k + 1)) (drop (size_of cut rest) rest)
  next_rest = let more : size - k ≡ suc (size - (k + 1)) = omega arith in cc (one_more cut (size - (k + 1)) rest some)

  -- the records of these and those before them
  pub next_areas : (before : List Areas) → before ++ map (first_areas cut) (rests_to cut (size - k) rest)
      ≡ (before ++ first_areas cut rest ∷ []) ++ map (first_areas cut) (rests_to cut (size - (k + 1)) (drop (size_of cut rest) rest))
  next_areas before = cc (
    next_rest,
    append_assoc before (first_areas cut rest ∷ []) (map (first_areas cut) (rests_to cut (size - (k + 1)) (drop (size_of cut rest) rest))),
  )

-- no block is left
pub areas_end : (cut : Cut) (most : ℕ) (rest : List ℕ) (before : List Areas) → rests_to cut most rest ≡ []
    → before ++ map (first_areas cut) (rests_to cut most rest) ≡ before
areas_end cut most rest before none = cc (append-nil before)

pub at_first : (cut : Cut) (bytes : List ℕ) → rests_of cut bytes ≡ rests_to cut (length bytes - 0) bytes
at_first cut bytes = ap (λ (n : ℕ). rests_to cut n bytes) (omega arith)

pub at_last : (cut : Cut) (size k : ℕ) (rest : List ℕ) → size ≤ k → rests_to cut (size - k) rest ≡ []
unfolding rests_to
at_last cut size k rest all = let none : size - k ≡ 0 = omega arith in rw none refl

-- The first of blocks that is none.
module _ (why : List ℕ → Option DescribedFault) where
  passes : (rest : List ℕ) (others : List (List ℕ)) (k : ℕ) (o : Option DescribedFault) → o ≡ why rest
      → first_fault why (rest ∷ others) k ≡ None → (why rest ≡ None) × (first_fault why others (k + 1) ≡ None)
  unfolding first_fault
  passes rest others k (Some fault) here is = absurd (cc)
  passes rest others k None here is = (sym here, cc)

  -- where there is none, each is one
  pub none_wrong : (rests : List (List ℕ)) (k : ℕ) → first_fault why rests k ≡ None → All (λ (rest : List ℕ). why rest ≡ None) rests
  none_wrong [] k is = All-nil (λ (rest : List ℕ). why rest ≡ None)
  none_wrong (rest ∷ others) k is =
      let both = passes rest others k (why rest) refl is in
      All-cons (λ (rest : List ℕ). why rest ≡ None) rest others both.0 (none_wrong others (k + 1) both.1)

-- blocks of one length
pub length_fits : (model : DriveModel) (size : ℕ) (bytes : List ℕ) → 1 ≤ size → size ≤ capacity_of model
    → AreBlocks model (Length size) bytes
length_fits model size bytes some most k d there =
    let rest = get_or (rests_of (Length size) bytes) k d in
    let left = some_left (Length size) (length bytes) bytes k d there in record {
      some = omega (arith, length-take size rest);
      whole = tt;
      goes = keyless_goes model (take size rest) (omega (arith, length-take size rest));
    }

-- a block by its descriptor word
described_fits : (model : DriveModel) (l : Layout) (rest : List ℕ) → l.longest ≤ capacity_of model → described_fault l rest ≡ None
    → IsBlock model Described rest
described_fits model l rest most none = let n = number_at rest 0 in record {
  some = grind (arith, nat_tests, length-take n rest);
  whole = grind (arith, nat_tests);
  goes = keyless_goes model (take n rest) (grind (arith, nat_tests, length-take n rest));
}

-- a block by the lengths before it
lengths_fits : (model : DriveModel) (l : Layout) (key_length : ℕ) (rest : List ℕ) → lengths_fault model l key_length rest ≡ None
    → IsBlock model WithLengths rest
lengths_fits model l key_length rest none = record {
  some = grind (arith, nat_tests);
  whole = (grind (arith, nat_tests), grind (arith, nat_tests));
  goes = goes_by_test model (first_areas WithLengths rest) (grind (arith, nat_tests));
}

-- blocks that say their own lengths
first_fits : (model : DriveModel) (l : Layout) (key_length : ℕ) (cut : Cut) (bytes : List ℕ)
    → ((rest : List ℕ) → fault_of_first model l key_length cut rest ≡ None → IsBlock model cut rest)
    → first_fault (fault_of_first model l key_length cut) (rests_of cut bytes) 0 ≡ None → AreBlocks model cut bytes
first_fits model l key_length cut bytes each none k d there =
    each _ (none_wrong (fault_of_first model l key_length cut) (rests_of cut bytes) 0 none k d there)

-- a layout that cuts by one length has this as its longest
longest_is : (f : RecordForm) (longest size : ℕ) → Length size ≡ cut_by f longest → size ≡ longest
longest_is (form.Fixed n) longest size is = cc
longest_is form.Undefined longest size is = cc
longest_is form.Variable longest size is = absurd (cc)
longest_is form.Spanned longest size is = absurd (cc)

pub cut_fits : (model : DriveModel) (l : Layout) (key_length : ℕ) (cut : Cut) (bytes : List ℕ) → IsCutFor l cut → 1 ≤ l.longest
    → l.longest ≤ capacity_of model → cut_fault model l key_length cut bytes ≡ None → AreBlocks model cut bytes
cut_fits model l key_length (Length size) bytes is some most none =
    let e = longest_is l.form l.longest size is in length_fits model size bytes (omega arith) (omega arith)
cut_fits model l key_length Described bytes is some most none =
    first_fits model l key_length Described bytes (λ rest. described_fits model l rest most) none
cut_fits model l key_length WithLengths bytes is some most none =
    first_fits model l key_length WithLengths bytes (lengths_fits model l key_length) none

pub fits_or_fault : (model : DriveModel) (l : Layout) (key_length : ℕ) (cut : Cut) (bytes : List ℕ) (o : Option BlockFault)
    → IsCutFor l cut → 1 ≤ l.longest → l.longest ≤ capacity_of model → o ≡ cut_fault model l key_length cut bytes
    → IfNone o (AreBlocks model cut bytes)
fits_or_fault model l key_length cut bytes None is_cut some most is = cut_fits model l key_length cut bytes is_cut some most (sym is)
fits_or_fault model l key_length cut bytes (Some fault) is_cut some most is = tt

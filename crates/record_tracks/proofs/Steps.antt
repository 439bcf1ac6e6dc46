-- One step of a reader of a directory.
use Rattle.std.proofs.Common.{◌≡◌, ap, false, nat_lt, nat_le, ◌==◌, ◌||◌, cond, slice_range, slice_index, length-append, append_assoc, Bool}
use Rattle.std.proofs.Common.{◌∙◌, sym, refl, ℕ, suc, ◌+◌, ◌*◌, ◌/◌, ◌%◌, ◌≤◌, ◌<◌, List, ◌∷◌, ◌++◌, length, get_or, arith, true, replicate}
use Rattle.std.proofs.lemmas.{Bool.Decides.nat_tests, Slice.between_is, Bool.false_from_ne_true, Slice.Eq.bytes_eq-Decides}
use Rattle.std.proofs.lemmas.List.{get_or-append-add, drop-take, drop_at, take_at}
use Rattle.volume_labels.specs.declared.directories.{DirectoryEntry.DirectoryEntry, DirectoryFault.TheVariants.UsedBytes}
use Rattle.volume_labels.specs.declared.directories.DirectoryStep.{DirectoryStep}
use Rattle.volume_labels.specs.declared.directories.DirectoryStep.TheVariants.{Entry, Skip, End, Fault}
use Rattle.volume_labels.specs.Directories.{number_at, entry_of, is_last, entry_step, step_at, block_start, entries_from, from_step}
use Rattle.record_tracks.specs.Entries.{EntryContents, lengths_byte, entry_bytes, entry_read, last_entry, IsEntry}
use Rattle.record_tracks.proofs.Going.{length-entry}

pub one_step : (bytes : List ℕ) (most at : ℕ) → entries_from (suc most) bytes at ≡ from_step (step_at bytes at) (entries_from most bytes)
unfolding entries_from
one_step bytes most at = refl

-- The bytes have a block of 256 from this offset on, so many of which are used.
pub record HasBlock (bytes : List ℕ) (k used : ℕ) : Type 0 where
  pub there : 256 * k + 256 ≤ length bytes
  pub number : number_at bytes (256 * k) ≡ used
  pub least : 2 ≤ used
  pub most : used ≤ 256

-- what stands at an offset of the block that begins there
step_from : List ℕ → (start at : ℕ) → DirectoryStep
step_from bytes start at = cond (nat_lt (length bytes) (start + 256)) End
    (cond (nat_lt (number_at bytes start) 2 || nat_lt 256 (number_at bytes start)) (Fault UsedBytes)
    (cond (at == start) (Skip (start + 2))
    (cond (nat_le (start + number_at bytes start) at) (Skip (start + 256))
    (entry_step bytes at (start + number_at bytes start)))))

module _ (bytes : List ℕ) (k used at : ℕ) (has : HasBlock bytes k used) (from : 256 * k ≤ at) (to : at < 256 * k + 256) where
  -- what stands there, by two tests
  stands : (here over : Bool) → (at == 256 * k) ≡ here → nat_le (256 * k + used) at ≡ over → step_at bytes at
      ≡ cond here (Skip (256 * k + 2)) (cond over (Skip (256 * k + 256)) (entry_step bytes at (256 * k + used)))
  unfolding step_from
  stands here over is past =
      let there_is : nat_lt (length bytes) (256 * k + 256) ≡ false = let there = has.there in grind (arith, nat_tests) in
      let used_is : (nat_lt used 2 || nat_lt 256 used) ≡ false = let least = has.least in let most = has.most in grind (arith, nat_tests) in
      let start_is : block_start at ≡ 256 * k = omega arith in
      ap (λ (s : ℕ). step_from bytes s at) start_is ∙ rw (there_is, has.number, used_is, is, past) refl

  -- at its begin, behind what is used, and before that
  pub begins : at ≡ 256 * k → step_at bytes at ≡ Skip (256 * k + 2)
  begins is = stands true _ (grind (arith, nat_tests)) refl

  pub passes : 256 * k < at → 256 * k + used ≤ at → step_at bytes at ≡ Skip (256 * k + 256)
  passes behind past = stands false true (grind (arith, nat_tests)) (grind (arith, nat_tests))

  pub enters : 256 * k < at → at < 256 * k + used → step_at bytes at ≡ entry_step bytes at (256 * k + used)
  enters behind before = stands false false (grind (arith, nat_tests)) (grind (arith, nat_tests))

-- What is read of an entry that stands behind a front.
module _ (front name behind : List ℕ) (at hi lo number lengths : ℕ) (is_at : length front ≡ at) (eight : length name ≡ 8) where
  abbrev pub with_entry : List ℕ
  with_entry = front ++ (name ++ (hi ∷ lo ∷ number ∷ lengths ∷ behind))

  joined : with_entry ≡ (front ++ name) ++ (hi ∷ lo ∷ number ∷ lengths ∷ behind)
  joined = sym (append_assoc front name (hi ∷ lo ∷ number ∷ lengths ∷ behind))

  byte_at : (i : ℕ) → get_or with_entry (at + 8 + i) 0 ≡ get_or (hi ∷ lo ∷ number ∷ lengths ∷ behind) i 0
  byte_at i =
      let far : at + 8 + i ≡ length (front ++ name) + i = omega (arith, length-append front name) in
      cc (joined, get_or-append-add (front ++ name) (hi ∷ lo ∷ number ∷ lengths ∷ behind) i 0)

  pub name_is : slice_range with_entry at (at + 8) ≡ name
  name_is =
      let one = drop_at front (name ++ (hi ∷ lo ∷ number ∷ lengths ∷ behind)) at is_at in
      cc (between_is with_entry at (at + 8), drop-take at 8 with_entry, take_at name (hi ∷ lo ∷ number ∷ lengths ∷ behind) 8 eight)

  pub lengths_is : slice_index with_entry (at + 11) ≡ lengths
  lengths_is = let e : at + 11 ≡ at + 8 + 3 = omega arith in rw e (byte_at 3)

  abbrev pub read_entry : DirectoryEntry
  read_entry = record {
    name = name;
    address = record { track = hi * 256 + lo; number = number };
    is_alias = nat_le 128 lengths;
    notes = lengths / 32 % 4;
    user_bytes = lengths % 32 * 2;
  }

  pub entry_is : entry_of with_entry at ≡ read_entry
  entry_is =
      let e8 : at + 8 ≡ at + 8 + 0 = omega arith in
      let e10 : at + 10 ≡ at + 8 + 2 = omega arith in
      let first : slice_index with_entry (at + 8) ≡ hi = rw e8 (byte_at 0) in
      let third : slice_index with_entry (at + 10) ≡ number = rw e10 (byte_at 2) in rw (name_is, first, byte_at 1, third, lengths_is) refl

  pub ordinary : (end next : ℕ) → is_last name ≡ false → at + 12 + lengths % 32 * 2 ≡ next → at + 12 ≤ end → next ≤ end
      → entry_step with_entry at end ≡ Entry read_entry next
  ordinary end next no_last is_next whole within =
      let there : nat_lt end (at + 12) ≡ false = grind (arith, nat_tests) in
      let inside : nat_lt end next ≡ false = grind (arith, nat_tests) in
      rw (there, entry_is, name_is, no_last, lengths_is, is_next, inside) refl

  pub ending : (end : ℕ) → is_last name ≡ true → at + 12 ≤ end → entry_step with_entry at end ≡ End
  ending end last whole = let there : nat_lt end (at + 12) ≡ false = grind (arith, nat_tests) in rw (there, name_is, last) refl

-- what the byte of lengths says
pub record Says (lengths : ℕ) (is_alias : Bool) (addresses bytes : ℕ) : Type 0 where
  pub alias : nat_le 128 lengths ≡ is_alias
  pub notes : lengths / 32 % 4 ≡ addresses
  pub user : lengths % 32 * 2 ≡ bytes

says : (alias : Bool) (notes user : ℕ) → notes ≤ 3 → user ≤ 62 → user % 2 ≡ 0
    → Says (cond alias 128 0 + notes * 32 + user / 2) alias notes user
says true notes user few short even = record { alias = grind (arith, nat_tests); notes = omega arith; user = omega arith }
says false notes user few short even = record {
  alias = (let below : 0 + notes * 32 + user / 2 < 128 = omega arith in grind (arith, nat_tests));
  notes = omega arith;
  user = omega arith;
}

module _ (e : EntryContents) (is : IsEntry e) (front rest : List ℕ) (at : ℕ) (is_at : length front ≡ at) where
  abbrev bytes : List ℕ
  bytes = front ++ (entry_bytes e ++ rest)

  abbrev spread : List ℕ
  spread = with_entry front e.name (e.user_data ++ rest) at (e.address.track / 256) (e.address.track % 256) e.address.number
      (lengths_byte e) is_at is.name

  spread_is : bytes ≡ spread
  spread_is = simp append_assoc

  said : Says (lengths_byte e) e.is_alias e.notes (length e.user_data)
  said = says e.is_alias e.notes (length e.user_data) is.notes is.user_data is.halfwords

  same_entry : read_entry front e.name (e.user_data ++ rest) at (e.address.track / 256) (e.address.track % 256) e.address.number
      (lengths_byte e) is_at is.name ≡ entry_read e
  same_entry =
      let track : e.address.track / 256 * 256 + e.address.track % 256 ≡ e.address.track = omega arith in
      rw (track, said.alias, said.notes, said.user) refl

  pub entry_stands : (end : ℕ) → at + length (entry_bytes e) ≤ end
      → entry_step bytes at end ≡ Entry (entry_read e) (at + length (entry_bytes e))
  entry_stands end within =
      let next = at + length (entry_bytes e) in
      let no_last : is_last e.name ≡ false = false_from_ne_true (is_last e.name) (λ h.
      is.no_last ((bytes_eq-Decides e.name (replicate 8 255)).0 h)) in
      let is_next : at + 12 + lengths_byte e % 32 * 2 ≡ next = omega (arith, said.user, length-entry e is) in cc (
        spread_is,
        ordinary front e.name (e.user_data ++ rest) at (e.address.track / 256) (e.address.track % 256) e.address.number (lengths_byte e)
            is_at is.name end next no_last is_next (omega (arith, length-entry e is)) within,
        same_entry,
      )

pub last_stands : (front rest : List ℕ) (at end : ℕ) → length front ≡ at → at + 12 ≤ end
    → entry_step (front ++ (last_entry ++ rest)) at end ≡ End
last_stands front rest at end is_at within = ending front (replicate 8 255) rest at 0 0 0 0 is_at refl end refl within

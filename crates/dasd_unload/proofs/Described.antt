-- The text of a folder, as it is made.
use Rattle.std.proofs.Common.{ℕ, zero, suc, ◌+◌, ◌-◌, ◌*◌, ◌<◌, ◌≤◌, ◌≡◌, ◌∙◌, List, [], ◌∷◌, ◌++◌, length, take, ap, refl, sym, arith}
use Rattle.std.proofs.Common.{append_assoc, append-nil, ◌||◌, true, false, nat_lt, drop, slice_range, ◌⊎◌, inl, inr, Result, Ok, Err, OnOk}
use Rattle.volume_labels.specs.declared.directories.DirectoryEntry.{DirectoryEntry}
use Rattle.volume_labels.specs.declared.directories.DirectoryFault.{DirectoryFault}
use Rattle.volume_labels.specs.declared.directories.DirectoryStep.{DirectoryStep}
use Rattle.volume_labels.specs.declared.directories.DirectoryStep.TheVariants.{End, Fault}
use Rattle.volume_labels.specs.Directories.{step_at}
use Rattle.set_forms.specs.declared.forms.FormLine.{FormLine}
use Rattle.set_forms.specs.Forms.{text_of, form_line}
use Rattle.ckd_track.specs.declared.geometries.Geometry.{Geometry}
use Rattle.volume_labels.specs.declared.fields.Extent.{Extent}
use Rattle.dasd_unload.specs.Described.{block_size, blocks_within, note_form, note_forms, note_count, member_named, entry_form, entry_in}
use Rattle.dasd_unload.specs.Described.{keyed_bytes, step_forms, forms_from}
use Rattle.set_forms.specs.declared.forms.Note.{Note}
use Rattle.std.proofs.Math.Bool.{or-true}
use Rattle.std.proofs.lemmas.Bool.{le-ltb, lt-ltb}
use Rattle.std.proofs.lemmas.List.{take_rest}

-- one block more, or none
pub one_block_more : (rest : List ℕ) (most : ℕ) → (nat_lt (length rest) 4 || nat_lt (length rest) (block_size rest)) ≡ false
    → blocks_within (suc most) rest ≡ 1 + blocks_within most (drop (block_size rest) rest)
unfolding blocks_within
one_block_more rest most is = rw is refl

pub no_block_more : (rest : List ℕ) (most : ℕ) → (nat_lt (length rest) 4 || nat_lt (length rest) (block_size rest)) ≡ true
    → blocks_within (suc most) rest ≡ 0
unfolding blocks_within
no_block_more rest most is = rw is refl

pub no_blocks : (rest : List ℕ) → blocks_within 0 rest ≡ 0
unfolding blocks_within
no_blocks rest = refl

-- one note more
module _ (extents : List Extent) (member user : List ℕ) (g : Geometry) (slots : List (List ℕ)) where
  pub one_note_more : (k : ℕ) → note_forms extents member user g slots k ++ note_form extents member
      (slice_range user (k * 4) (k * 4 + 4)) g slots ∷ [] ≡ note_forms extents member user g slots (k + 1)
  unfolding note_forms
  one_note_more k = let e : suc k ≡ k + 1 = omega arith in ap (note_forms extents member user g slots) e

  -- none yet
  pub no_notes : [] ≡ note_forms extents member user g slots 0
  unfolding note_forms
  no_notes = refl

-- a block that is cut short is none
too_short : (rest : List ℕ) → length rest < 4 → (nat_lt (length rest) 4 || nat_lt (length rest) (block_size rest)) ≡ true
too_short rest short = rw (lt-ltb (length rest) 4 short) refl

cut_short : (rest : List ℕ) → length rest < block_size rest → (nat_lt (length rest) 4 || nat_lt (length rest) (block_size rest)) ≡ true
cut_short rest short = cc (lt-ltb (length rest) (block_size rest) short, or-true (nat_lt (length rest) 4))

no_more : (count most : ℕ) (rest : List ℕ) (all : ℕ) → (nat_lt (length rest) 4 || nat_lt (length rest) (block_size rest)) ≡ true
    → count + blocks_within most rest ≡ all → count ≡ all
no_more count zero rest all short is = omega (arith, is, no_blocks rest)
no_more count (suc most) rest all short is = omega (arith, is, no_block_more rest most short)

pub ends_short : (count most : ℕ) (rest : List ℕ) (all : ℕ) → length rest < 4 → count + blocks_within most rest ≡ all → count ≡ all
ends_short count most rest all short is = no_more count most rest all (too_short rest short) is

pub ends_cut : (count most : ℕ) (rest : List ℕ) (all size : ℕ) → size ≡ block_size rest → length rest < size
    → count + blocks_within most rest ≡ all → count ≡ all
ends_cut count most rest all size e short is = no_more count most rest all (cut_short rest (omega (arith, e, short))) is

pub ends_whole : (count most : ℕ) (rest : List ℕ) (all : ℕ) → most ≡ 0 → count + blocks_within most rest ≡ all → count ≡ all
ends_whole count most rest all e is = let none : blocks_within most rest ≡ 0 = cc (no_blocks rest) in omega arith

pub goes_on : (count most fewer : ℕ) (rest : List ℕ) (all size : ℕ) → most ≡ suc fewer → 4 ≤ length rest → size ≡ block_size rest
    → size ≤ length rest → count + blocks_within most rest ≡ all
    → count + 1 + blocks_within fewer (take (length rest - size) (drop size rest)) ≡ all
goes_on count most fewer rest all size e long s inside is =
    let whole : (nat_lt (length rest) 4 || nat_lt (length rest) (block_size rest)) ≡ false =
    rw (le-ltb (length rest) 4 long) (le-ltb (length rest) (block_size rest) (omega arith)) in
    let step : blocks_within most rest ≡ 1 + blocks_within fewer (drop (block_size rest) rest) = cc (one_block_more rest fewer whole) in
    let left : take (length rest - size) (drop size rest) ≡ drop (block_size rest) rest = cc (take_rest rest size) in
    let same : blocks_within fewer (take (length rest - size) (drop size rest)) ≡ blocks_within fewer (drop (block_size rest) rest) =
    ap (λ l. blocks_within fewer l) left in
    omega arith

-- one note more, as it was read
pub more_notes : (extents : List Extent) (member user : List ℕ) (g : Geometry) (slots : List (List ℕ)) (k : ℕ) (found now : List Note)
    (note : Note) → now ≡ found ++ note ∷ [] → found ≡ note_forms extents member user g slots k
    → note ≡ note_form extents member (slice_range user (k * 4) (k * 4 + 4)) g slots → now ≡ note_forms extents member user g slots (k + 1)
more_notes extents member user g slots k found now note is so_far this = cc (one_note_more extents member user g slots k)

-- an entry without notes, and one with some
module _ (extents : List Extent) (entries : List DirectoryEntry) (e : DirectoryEntry) (user : List ℕ) (g : Geometry) (slots : List
    (List ℕ)) where
  pub without_notes : (count : ℕ) → count ≡ note_count e user → count ≡ 0
      → entry_form e (member_named entries e) [] user ≡ entry_in extents entries e user g slots
  without_notes count is none = cc (no_notes extents (keyed_bytes extents e.address g slots) user g slots)

  pub with_notes : (count : ℕ) (blocks : List ℕ) (notes : List Note) → count ≡ note_count e user
      → blocks ≡ keyed_bytes extents e.address g slots → notes ≡ note_forms extents blocks user g slots count
      → entry_form e (member_named entries e) notes (drop (count * 4) user) ≡ entry_in extents entries e user g slots
  with_notes count blocks notes is read are = cc

-- A walk over the entries of a directory.
module _ (form : DirectoryEntry → ℕ → FormLine) (bytes : List ℕ) where
  more_steps : (most at : ℕ) → forms_from form (suc most) bytes at ≡ step_forms form (step_at bytes at) (forms_from form most bytes)
  unfolding forms_from
  more_steps most at = refl

  no_steps : (at : ℕ) → forms_from form 0 bytes at ≡ []
  unfolding forms_from
  no_steps at = refl

  module _ (k at : ℕ) where
    pub last_step : length bytes ≤ k → forms_from form (length bytes - k) bytes at ≡ []
    last_step passed = let e : length bytes - k ≡ 0 = omega (arith, passed) in ap (λ m. forms_from form m bytes at) e ∙ no_steps at

    pub this_step : (x : DirectoryStep) → step_at bytes at ≡ x → k < length bytes → forms_from form (length bytes - k) bytes at
        ≡ step_forms form x (forms_from form (length bytes - (k + 1)) bytes)
    this_step x are inside =
        let e : length bytes - k ≡ suc (length bytes - (k + 1)) = omega arith in cc (more_steps (length bytes - (k + 1)) at)

  -- the directory ends
  pub at_end : (x : DirectoryStep) → (x ≡ End) ⊎ ((f : DirectoryFault) × (x ≡ Fault f)) → (behind : ℕ → List FormLine)
      → step_forms form x behind ≡ []
  at_end x (inl e) behind = rw e refl
  at_end x (inr (f, e)) behind = rw e refl

-- the form of a line went to the end of a text, and others are left
pub one_form_more : (before now whole : List ℕ) (f : FormLine) (rest : List FormLine) → now ≡ before ++ form_line f
    → before ++ text_of (f ∷ rest) ≡ whole → now ++ text_of rest ≡ whole
one_form_more before now whole f rest is left = rw is (append_assoc before (form_line f) (text_of rest) ∙ left)

-- no other is left
pub none_left : (text whole : List ℕ) (forms : List FormLine) → forms ≡ [] → text ++ text_of forms ≡ whole → text ≡ whole
none_left text whole forms none left = sym (append-nil text) ∙ ap (λ l. text ++ text_of l) (sym none) ∙ left

-- a form, and others behind it
pub form_and : {A E : Type 0} (r : Result A E) (before between now : List ℕ) (f : FormLine) (rest : List FormLine)
    → between ≡ before ++ form_line f → OnOk r (now ≡ between ++ text_of rest) → OnOk r (now ≡ before ++ text_of (f ∷ rest))
form_and (Ok _) before between now f rest first behind = cc (append_assoc before (form_line f) (text_of rest))
form_and (Err _) before between now f rest first behind = tt

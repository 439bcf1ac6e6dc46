-- The notes of an entry, one after another.
use Rattle.std.proofs.Common.{ℕ, zero, suc, ◌+◌, ◌-◌, ◌<◌, ◌≤◌, ◌≡◌, ◌∙◌, List, [], ◌∷◌, ◌++◌, Option, Some, None, sym, refl, arith}
use Rattle.library_contents.specs.declared.contents.ReadNote.{ReadNote}
use Rattle.library_contents.specs.Members.{Library}
use Rattle.library_contents.specs.Notes.{note_at, and_notes, notes_from}
use Rattle.library_contents.proofs.Placed.{before_all, one_before, last_before}

module _ (l : Library) (member user : List ℕ) where
  more_notes : (count k : ℕ) → notes_from l member user (suc count) k
      ≡ and_notes (note_at l member user k) (notes_from l member user count (k + 1))
  unfolding notes_from
  more_notes count k = refl

  no_notes : (k : ℕ) → notes_from l member user zero k ≡ Some []
  unfolding notes_from
  no_notes k = refl

  module _ (all count k : ℕ) (notes : List ReadNote)
      (so_far : notes_from l member user all 0 ≡ before_all notes (notes_from l member user (count - k) k)) where
    this_note : (o : Option ReadNote) → o ≡ note_at l member user k → k < count
        → notes_from l member user all 0 ≡ before_all notes (and_notes o (notes_from l member user (count - (k + 1)) (k + 1)))
    this_note o is inside = let e : count - k ≡ suc (count - (k + 1)) = omega arith in cc (more_notes (count - (k + 1)) k)

    pub one_more_note : (note : ReadNote) → Some note ≡ note_at l member user k → k < count
        → notes_from l member user all 0 ≡ before_all (notes ++ note ∷ []) (notes_from l member user (count - (k + 1)) (k + 1))
    one_more_note note is inside =
        this_note (Some note) is inside ∙ one_before notes note (notes_from l member user (count - (k + 1)) (k + 1))

    pub leads_nowhere : None ≡ note_at l member user k → k < count → None ≡ notes_from l member user all 0
    leads_nowhere is inside = sym (this_note None is inside)

    pub all_notes : count ≤ k → Some notes ≡ notes_from l member user all 0
    all_notes passed = let e : count - k ≡ 0 = omega arith in sym (cc (no_notes k, last_before notes))

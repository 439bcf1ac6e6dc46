-- A deletion changes control blocks of its volume.
use Rattle.std.proofs.Common.{◌≡◌, ap, sym, refl, subst, ℕ, zero, suc, Bool, true, false, ◌&&◌, nat_lt, List, [], ◌∷◌, ◌++◌, length}
use Rattle.std.proofs.Common.{Result, Ok, Err, is_ok, Option, Some, None, All, position, true≢false}
use Rattle.std.proofs.lemmas.List.Elements.{All-nil, All-cons, All-append, All-get_or}
use Rattle.std.proofs.lemmas.List.Quantifiers.{position-Some}
use Rattle.ckd_track.specs.Geometry.{tracks_of}
use Rattle.volume_labels.specs.declared.fields.FreeTracks.{FreeTracks}
use Rattle.volume_labels.specs.declared.fields.RecordAddress.{RecordAddress}
use Rattle.volume_labels.specs.declared.labels.VolumeLabel.{VolumeLabel}
use Rattle.volume_labels.specs.declared.blocks.ContentsBlock.{ContentsBlock}
use Rattle.volume_labels.specs.Labels.{data_set_block_of}
use Rattle.volume_contents.specs.declared.blocks.Block.{Block}
use Rattle.volume_contents.specs.Blocks.{has_address}
use Rattle.volume_contents.specs.Chains.{is_nowhere, follows, step_to, next_of, from_step, links_from}
use Rattle.volume_contents.specs.Contents.{Said, no_block, block_in, contents_of}
use Rattle.volume_contents.specs.Sets.{is_free_space, has_name, behind_block, free_links}
use Rattle.volume_changes.specs.declared.blocks.BlockChange.{BlockChange}
use Rattle.volume_changes.specs.declared.refusal.ChangeRefusal.{ChangeRefusal}
use Rattle.volume_changes.specs.Deletions.{all_changed, is_confirmed, deleted_by}
use Rattle.volume_changes.specs.FreeBlocks.{rewritten}
use Rattle.volume_changes.specs.Plans.{Deletion, keeps_free, marks_behind, runs_behind, free_blocks, anew, holding, last_behind}
use Rattle.volume_changes.specs.Plans.{free_behind, changes_of, table_change, deletion_with, deletion_by, deletion_at, nothing_wrong}
use Rattle.volume_changes.specs.Plans.{deletion_if, deletion_of}
use Rattle.loaded_sets.specs.Volumes.{Labelled, SaysOf}
use Rattle.volume_laws.specs.Changes.{SetsStay, IsOneOf, AreOfVolume, DeletionKeeps}
use Rattle.volume_laws.proofs.Blocks.{all_each, IsIts, block_changes_keep}

-- a block that was found
found : (p : Block → Bool) (blocks : List Block) (i : ℕ) → position p blocks ≡ Some i → IsOneOf blocks (block_in blocks i)
found p blocks i is = record { place = i; inside = (position-Some p blocks i no_block is).0; is = refl }

module _ (is_free : Bool) (blocks : List Block) where
  -- the blocks of a chain
  linked : (most : ℕ) (a : RecordAddress) → ((a : RecordAddress) → All (IsOneOf blocks) (links_from most is_free blocks a).links)
      → All (IsOneOf blocks) (from_step (step_to is_free blocks a) (links_from most is_free blocks)).links
  linked most a more = by (is_nowhere a) refl (position (has_address a) blocks) refl
    where
      by : (n : Bool) → is_nowhere a ≡ n → (o : Option ℕ) → position (has_address a) blocks ≡ o
          → All (IsOneOf blocks) (from_step (step_to is_free blocks a) (links_from most is_free blocks)).links
      by true e o f = rw e (All-nil (IsOneOf blocks))
      by false e None f = rw (e, f) (All-nil (IsOneOf blocks))
      by false e (Some i) f = there (follows is_free (block_in blocks i).kind) refl
        where
          there : (b : Bool) → follows is_free (block_in blocks i).kind ≡ b
              → All (IsOneOf blocks) (from_step (step_to is_free blocks a) (links_from most is_free blocks)).links
          there true h = rw (e, f, h)
              (All-cons (IsOneOf blocks) (block_in blocks i) _ (found (has_address a) blocks i f) (more (next_of (block_in blocks i))))
          there false h = rw (e, f, h) (All-nil (IsOneOf blocks))

  links_are : (most : ℕ) (a : RecordAddress) → All (IsOneOf blocks) (links_from most is_free blocks a).links
  unfolding links_from
  links_are zero a = All-nil (IsOneOf blocks)
  links_are (suc most) a = linked most a (links_are most)

free_are : (blocks : List Block) (o : Option ℕ) → All (IsOneOf blocks) (free_links blocks o).links
free_are blocks None = All-nil (IsOneOf blocks)
free_are blocks (Some i) = links_are true blocks (length blocks) (block_in blocks i).address

anew_are : (kept : Bool) (blocks : List Block) (b : Block) → IsOneOf blocks b → All (IsOneOf blocks) (anew kept blocks b)
anew_are kept blocks b one =
    All-append (IsOneOf blocks) (free_blocks kept blocks ++ b ∷ []) (behind_block blocks b).links
    (All-append (IsOneOf blocks) (free_blocks kept blocks) (b ∷ []) (free kept)
    (All-cons (IsOneOf blocks) b [] one (All-nil (IsOneOf blocks))))
    (links_are false blocks 21 (data_set_block_of b.key b.bytes).next)
  where
    free : (k : Bool) → All (IsOneOf blocks) (free_blocks k blocks)
    free true = free_are blocks (position (λ b. is_free_space b.kind) blocks)
    free false = All-nil (IsOneOf blocks)

-- the block that is written anew is one of them
rewritten_is : (blocks : List Block) (some : List Block) (runs : List FreeTracks) (holding i : ℕ) → IsOneOf blocks (block_in some i)
    → IsOneOf blocks (rewritten some runs holding i).block
rewritten_is blocks some runs holding i one = by (nat_lt i holding) refl
  where
    by : (b : Bool) → nat_lt i holding ≡ b → IsOneOf blocks (rewritten some runs holding i).block
    by true e = rw e one
    by false e = rw e one

module _ (v : Labelled) where
  changes_are : (some : List Block) (runs : List FreeTracks) (holding : ℕ) → All (IsOneOf v.blocks) some
      → AreOfVolume v (changes_of some runs holding)
  changes_are some runs holding are = all_each (IsIts v) (λ i. rewritten some runs holding i ∷ []) (length some) (λ i low.
      All-cons (IsIts v) (rewritten some runs holding i) []
      (rewritten_is v.blocks some runs holding i (All-get_or (IsOneOf v.blocks) some i no_block low are)) (All-nil (IsIts v)))

  abbrev changes_or : Result Deletion ChangeRefusal → List BlockChange
  changes_or (Ok d) = d.changes
  changes_or (Err f) = []

  -- what a deletion changes, or nothing
  with_are : (t : ContentsBlock) (table : Block) (b : Block) (some : List Block) (marks : List ℕ) (runs : List FreeTracks) (holding : ℕ)
      → IsOneOf v.blocks table → All (IsOneOf v.blocks) some
      → AreOfVolume v (changes_or (deletion_with t table v.blocks b some marks runs holding))
  with_are t table b some marks runs holding one are = by (nat_lt (length some) holding) refl
    where
      by : (x : Bool) → nat_lt (length some) holding ≡ x
          → AreOfVolume v (changes_or (deletion_with t table v.blocks b some marks runs holding))
      by true e = rw e (All-nil (IsIts v))
      by false e = rw e (All-append (IsIts v) (changes_of some runs holding) _ (changes_are some runs holding are)
          (All-cons (IsIts v) (table_change table (last_behind t v.blocks b) (free_behind t (length some) holding)) [] one
          (All-nil (IsIts v))))

  by_are : (t : ContentsBlock) (table : Block) (b : Block) (kept : Bool) → IsOneOf v.blocks table → IsOneOf v.blocks b
      → AreOfVolume v (changes_or (deletion_by v.geometry t table v.blocks b kept))
  by_are t table b kept one two = by (kept && nat_lt 65536 (tracks_of v.geometry)) refl
    where
      runs : List FreeTracks
      runs = runs_behind v.geometry kept (marks_behind v.geometry kept v.blocks b)

      by : (x : Bool) → (kept && nat_lt 65536 (tracks_of v.geometry)) ≡ x
          → AreOfVolume v (changes_or (deletion_by v.geometry t table v.blocks b kept))
      by true e = rw e (All-nil (IsIts v))
      by false e = rw e
          (with_are t table b (anew kept v.blocks b) (marks_behind v.geometry kept v.blocks b) runs (holding kept (length runs)) one
          (anew_are kept v.blocks b two))

  at_are : (l : VolumeLabel) (t : ContentsBlock) (name : List ℕ) (o p : Option ℕ) → position (has_name name) v.blocks ≡ o
      → position (has_address l.contents) v.blocks ≡ p → AreOfVolume v (changes_or (deletion_at v.geometry l t v.blocks o))
  at_are l t name None p is at = All-nil (IsIts v)
  at_are l t name (Some i) None is at = rw at (All-nil (IsIts v))
  at_are l t name (Some i) (Some k) is at =
      rw at (by_are t (block_in v.blocks k) (block_in v.blocks i) (keeps_free (block_in v.blocks k) v.blocks)
      (found (has_address l.contents) v.blocks k at) (found (has_name name) v.blocks i is))

  if_are : (s : Said) (name : List ℕ) → s.blocks ≡ v.blocks
      → AreOfVolume v (changes_or (deletion_if v.geometry s name (Some v.label) (Some v.table)))
  if_are s name blocks = by (nothing_wrong v.geometry s) refl
    where
      by : (x : Bool) → nothing_wrong v.geometry s ≡ x
          → AreOfVolume v (changes_or (deletion_if v.geometry s name (Some v.label) (Some v.table)))
      by true e =
          rw e (subst (λ bs. AreOfVolume v (changes_or (deletion_at v.geometry v.label v.table bs (position (has_name name) bs))))
          (sym blocks)
          (at_are v.label v.table name (position (has_name name) v.blocks) (position (has_address v.label.contents) v.blocks) refl refl))
      by false e = rw e (All-nil (IsIts v))

  of_are : (name : List ℕ) (s : Said) → SaysOf v.geometry s v → AreOfVolume v (changes_or (deletion_of v.geometry s name))
  of_are name s says =
      subst (λ d. AreOfVolume v (changes_or d)) (λ j. deletion_if v.geometry s name (sym says.label j) (sym says.table j))
      (if_are s name says.blocks)

abbrev slots_or : Result (List (List ℕ)) ChangeRefusal → List (List ℕ)
slots_or (Ok slots) = slots
slots_or (Err f) = []

pub deletion_keeps : DeletionKeeps
deletion_keeps v name before now says none done sound clear =
    by (deletion_of v.geometry (contents_of v.geometry before) name) refl done
  where
    blocks : List Block
    blocks = (contents_of v.geometry before).blocks

    by : (r : Result Deletion ChangeRefusal) → deletion_of v.geometry (contents_of v.geometry before) name ≡ r
        → deleted_by v.geometry blocks before r ≡ Ok now → SetsStay v before now
    by (Err f) made is = absurd (true≢false (sym (ap (λ (r : Result (List (List ℕ)) ChangeRefusal). is_ok r) is)))
    by (Ok d) made is = made_so (is_confirmed v.geometry blocks d (contents_of v.geometry (all_changed v.geometry d.changes before))) refl
      where
        made_so : (x : Bool) → is_confirmed v.geometry blocks d (contents_of v.geometry (all_changed v.geometry d.changes before)) ≡ x
            → SetsStay v before now
        made_so true e =
            let same : all_changed v.geometry d.changes before
            ≡ now = ap (λ (r : Result (List (List ℕ)) ChangeRefusal). slots_or r) (rw e at is) in
            let are : AreOfVolume v d.changes =
            subst (λ r. AreOfVolume v (changes_or v r)) made (of_are v name (contents_of v.geometry before) says) in
            subst (SetsStay v before) same (block_changes_keep v d.changes before says none are sound clear)
        made_so false e = absurd (true≢false (sym (ap (λ (r : Result (List (List ℕ)) ChangeRefusal). is_ok r) (rw e at is))))

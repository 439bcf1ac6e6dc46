-- What is extracted of each data set stays, where a change writes what no data set has.
use Rattle.std.proofs.Common.{◌≡◌, ◌∙◌, ap, sym, refl, subst, ℕ, zero, suc, ◌-◌, ◌≤◌, ◌<◌, ◌==◌, ◌%◌, Bool, true, false, not, ◌&&◌, nat_lt}
use Rattle.std.proofs.Common.{cond, if◌then◌else◌, List, [], ◌∷◌, ◌++◌, length, length-append, get_or}
use Rattle.std.proofs.Common.{◌⊎◌, inl, inr, Result, Ok, Err, true≢false, arith}
use Rattle.std.specs.Prelude.{slice_index}
use Rattle.std.proofs.lemmas.Bool.{and_parts, or_right, both_ways, false_from_ne_true, not-true, eqb-true, ltb-true, or_parts, cases_lt}
use Rattle.std.proofs.Common.{⊎_elim}
use Rattle.std.proofs.lemmas.List.{get_or_append_left, get_or-append_right}
use Rattle.std.proofs.lemmas.List.Sums.{sum_by-cons}
use Rattle.ckd_track.specs.declared.fault.SlotFault.{SlotFault}
use Rattle.ckd_track.specs.declared.geometries.Geometry.{Geometry}
use Rattle.ckd_track.specs.Geometry.{tracks_of}
use Rattle.ckd_track.specs.Model.{heads_of}
use Rattle.ckd_track.specs.Track.{Track, track_of}
use Rattle.dasd_volumes.specs.Volumes.{of_each}
use Rattle.new_labels.specs.Runs.{has_track, is_taken, is_free}
use Rattle.volume_contents.specs.Contents.{slot_at}
use Rattle.dasd_extract.specs.Alternates.{flags_of, is_other}
use Rattle.dasd_extract.specs.Walk.{track_on}
use Rattle.volume_changes.specs.Space.{open_marks}
use Rattle.loaded_sets.specs.Space.{plain_mark, mark_in, marks_in, space}
use Rattle.loaded_sets.specs.Volumes.{Labelled, taken_extents}
use Rattle.volume_laws.specs.Space.{IsSound, set_extents}
use Rattle.volume_laws.specs.Frame.{is_alternate_of, AreOthers}
use Rattle.volume_laws.specs.Changes.{is_kept_back, IsClear, WritesItsOwn, OwnWritesKeep}
use Rattle.volume_laws.proofs.Shared.{any_counts, nothing_shared}
use Rattle.volume_laws.proofs.Frame.{source_stays}

-- one for each
each_long : (of : ℕ → ℕ) (k : ℕ) → length (of_each (λ i. of i ∷ []) k) ≡ k
unfolding of_each
each_long of zero = refl
each_long of (suc k) = let all = length-append (of_each (λ i. of i ∷ []) k) (of k ∷ []) in omega (arith, all, each_long of k)

each_at : (of : ℕ → ℕ) (k n : ℕ) → n < k → get_or (of_each (λ i. of i ∷ []) k) n 0 ≡ of n
unfolding of_each
each_at of zero n low = absurd (omega (arith, low))
each_at of (suc k) n low = ⊎_elim (before (each_at of k n))
    (λ from. subst (λ m. get_or (of_each (λ i. of i ∷ []) k ++ of k ∷ []) m 0 ≡ of m) (last from) at_end) (cases_lt n k)
  where
    before : (n < k → get_or (of_each (λ i. of i ∷ []) k) n 0 ≡ of n) → n < k → get_or (of_each (λ i. of i ∷ []) k ++ of k ∷ []) n 0 ≡ of n
    before rest below =
        let long = each_long of k in
        get_or_append_left (of_each (λ i. of i ∷ []) k) (of k ∷ []) 0 n (omega (arith, below, long)) ∙ rest below

    last : k ≤ n → k ≡ n
    last from = omega (arith, from, low)

    at_end : get_or (of_each (λ i. of i ∷ []) k ++ of k ∷ []) k 0 ≡ of k
    at_end =
        let none : k - k ≡ 0 = omega arith in
        get_or-append_right (of_each (λ i. of i ∷ []) k) (of k ∷ []) k k 0 (each_long of k) (omega arith)
        ∙ ap (λ m. get_or (of k ∷ []) m 0) none

-- a track that is marked as plain is no alternate
plain_other : (r : Result Track SlotFault) → not (plain_mark r == 0) ≡ true → is_other r ≡ true
plain_other (Ok t) marked = by (flags_of t % 4 == 0) refl
  where
    by : (b : Bool) → (flags_of t % 4 == 0) ≡ b → is_other (Ok t) ≡ true
    by true e = let none : flags_of t % 4 ≡ 0 = eqb-true (flags_of t % 4) 0 e in rw none refl
    by false e = absurd (true≢false (sym (rw e at marked)))
plain_other (Err fault) marked = absurd (true≢false (sym marked))

marked_other : (open_ : ℕ) (r : Result Track SlotFault) → not ((if open_ == 0 then 0 else plain_mark r) == 0) ≡ true → is_other r ≡ true
marked_other open_ r marked = by (open_ == 0) refl
  where
    by : (b : Bool) → (open_ == 0) ≡ b → is_other r ≡ true
    by true e = absurd (true≢false (sym (rw e at marked)))
    by false e = plain_other r (rw e at marked)

-- what makes a track free
pub record Free (v : Labelled) (slots : List (List ℕ)) (n : ℕ) : Type 0 where
  pub some : 0 < n
  pub inside : n < tracks_of v.geometry
  pub other : is_other (track_on slots n) ≡ true
  pub none : is_taken v.geometry (taken_extents v) n ≡ false

pub free_parts : (v : Labelled) (slots : List (List ℕ)) (n : ℕ) → is_free v.geometry (space v slots) n ≡ true → Free v slots n
free_parts v slots n free =
    let g = v.geometry in
    let s = space v slots in
    let all = and_parts (nat_lt 0 n && nat_lt n (tracks_of g)) (not (slice_index s.marks n == 0) && not (is_taken g s.extents n)) free in
    let low = and_parts (nat_lt 0 n) (nat_lt n (tracks_of g)) all.0 in
    let high = and_parts (not (slice_index s.marks n == 0)) (not (is_taken g s.extents n)) all.1 in
    let inside = ltb-true n (tracks_of g) low.1 in
    let open_ = open_marks g v.label.contents v.blocks in
    let mark : get_or (marks_in open_ slots (tracks_of g)) n 0
    ≡ mark_in open_ slots n = each_at (λ n. mark_in open_ slots n) (tracks_of g) n inside in record {
      some = ltb-true 0 n low.0;
      inside = inside;
      other = marked_other (slice_index open_ n) (track_of (slot_at slots n)) (ap (λ m. not (m == 0)) (sym mark) ∙ high.0);
      none = not-true (is_taken g s.extents n) high.1;
    }

-- and it is neither the label's nor the table's
pub not_kept_back : (v : Labelled) (slots : List (List ℕ)) (n : ℕ) → is_free v.geometry (space v slots) n ≡ true → is_kept_back v n ≡ false
not_kept_back v slots n is =
    let free = free_parts v slots n is in
    let some = free.some in
    let table = (or_parts (has_track (heads_of v.geometry.model) n v.table.extent) _ free.none).0 in
    let label : (n == 0)
    ≡ false = false_from_ne_true (n == 0) (λ zero_. let none = eqb-true n 0 zero_ in absurd (omega (arith, some, none))) in
    rw (label, table) refl

module _ (v : Labelled) (before now : List (List ℕ)) (sound : IsSound v) (clear : IsClear v before)
    (writes : WritesItsOwn v before now) where
  abbrev g : Geometry
  g = v.geometry

  abbrev heads : ℕ
  heads = heads_of v.geometry.model

  -- a track of a data set is not the table's
  not_of_table : (n : ℕ) → is_taken g (set_extents v) n ≡ true → has_track heads n v.table.extent ≡ false
  not_of_table n has = false_from_ne_true (has_track heads n v.table.extent) (λ table.
      let some = any_counts (has_track heads n) (set_extents v) has in
      let one : ◌≡◌ {A = ℕ} (cond (has_track heads n v.table.extent) 1 0) 1 = ap (λ b. cond b 1 0) table in
      let all = sum_by-cons (λ e. cond (has_track heads n e) 1 0) v.table.extent (set_extents v) in
      let once = (nothing_shared v sound).once n in omega (arith, some, one, all, once))

  -- nor the label's
  not_label : (n : ℕ) → is_taken g (set_extents v) n ≡ true → (n == 0) ≡ false
  not_label n has = false_from_ne_true (n == 0) (λ is.
      both_ways (is_taken g (set_extents v) 0) clear.label (rw (eqb-true n 0 is) at has))

  not_kept : (n : ℕ) → is_taken g (set_extents v) n ≡ true → is_kept_back v n ≡ false
  not_kept n has = rw (not_label n has, not_of_table n has) refl

  -- nor free
  not_free : (n : ℕ) → is_taken g (set_extents v) n ≡ true → is_free g (space v before) n ≡ false
  not_free n has = false_from_ne_true (is_free g (space v before) n) (λ free.
      both_ways (is_taken g (taken_extents v) n) (free_parts v before n free).none (or_right (has_track heads n v.table.extent) _ has))

  alternate_stays : (n m : ℕ) → is_taken g (set_extents v) n ≡ true → is_alternate_of g (track_on before n) m ≡ true
      → (slot_at now m ≡ slot_at before m) ⊎ AreOthers before now m
  alternate_stays n m has named = by (is_free g (space v before) m) refl
    where
      by : (b : Bool) → is_free g (space v before) m ≡ b → (slot_at now m ≡ slot_at before m) ⊎ AreOthers before now m
      by false e = inl (writes.others m (clear.alternates n m has named) e)
      by true e = inr (record { was = (free_parts v before m e).other; is = writes.plain m e })

pub own_writes_keep : OwnWritesKeep
own_writes_keep v before now sound clear writes s within = source_stays v.geometry s before now (record {
  own = λ n has. writes.others n (not_kept v before now sound clear writes n (within n has))
      (not_free v before now sound clear writes n (within n has));
  alternates = λ n m has named. alternate_stays v before now sound clear writes n m (within n has) named;
})

use Rattle.std.proofs.Common.{ℕ, ◌+◌, ◌<◌, ◌≤◌, ◌≡◌, ◌∙◌, ◌⊎◌, inl, inr, List, ◌++◌, ap, sym, subst, Option, append_assoc, append-nil}
use Rattle.std.proofs.Common.{arith, refl, map, slice_index_or, None, Bor, []}
use Rattle.std.proofs.lemmas.Bool.{cases_lt}
use Rattle.std.proofs.Math.ListN.{get_or-map}
use Rattle.std.proofs.lemmas.List.{get_or_default, get_or_past}
use Rattle.ckd_image.specs.Files.{file_at}
use Rattle.dasd_files.specs.Files.{FileState}
use Rattle.dasd_volumes.specs.Volumes.{of_each}
use Rattle.dasd_volumes.proofs.Appended.{of_none, of_one_more}
use Rattle.dasd_jobs.specs.Back.{IsKept, AreKept, changed_file}
use Rattle.dasd_jobs.specs.Written.{files_of}
use Rattle.dasd_jobs.proofs.mounting.begin_stores.Goals.{then-i-stores+in_ok-begin_one, else-i-stores}
use Rattle.dasd_jobs.proofs.mounting.begin_stores.Goals as goal

-- none so far
none_yet : {A : Type 0} (before : List A) (of : ℕ → List A) → before ≡ before ++ of_each of 0
none_yet before of = sym (append-nil before) ∙ ap (λ l. before ++ l) (sym (of_none of))

-- one more
and_one : {A : Type 0} (before now after : List A) (of : ℕ → List A) (n : ℕ) → now ≡ before ++ of_each of n → after ≡ now ++ of n
    → after ≡ before ++ of_each of (n + 1)
and_one before now after of n first next = cc (append_assoc before (of_each of n) (of n), of_one_more of n)

-- one more store that holds what was read of it, unless it was changed
one_more_kept : (stores : List (Option FileState)) (n : ℕ) → AreKept stores n → IsKept (file_at stores n) → AreKept stores (n + 1)
one_more_kept stores n before here k below = by (cases_lt k n)
  where
    by : (k < n) ⊎ (n ≤ k) → IsKept (file_at stores k)
    by (inl less) = before k less
    by (inr not_less) = subst (λ (m : ℕ). IsKept (file_at stores m)) (omega arith) here

pub loop-i-init : goal.loop-i-init
loop-i-init g c = record { begun = none_yet _ _; kept = λ k below. absurd (omega arith); written = refl; same = refl }

pub loop-i-preserved : goal.loop-i-preserved
loop-i-preserved g c =
    let no_path : Bor (List ℕ) = record { ref_ptr = (0, 0); now = [] } in
    let stores = c.args.stores.now in
    let i = c.loop-i.i in
    let begun = files_of g.F.Draft.ImageStore.content c.loop-i.new.items in
    let path = λ (n : ℕ). slice_index_or (map (λ (p : Bor (List ℕ)). p.now) c.args.paths.now) n [] in
    let of = λ (n : ℕ). changed_file (path n) (file_at stores n) in
    let next = and_one _ _ _ of i c.loop-i.invariant.begun in
    let and_kept = one_more_kept stores i c.loop-i.invariant.kept in elim c.if-i-stores.branch [
      | then-i-stores+in_ok-begin_one w ↦
          let at = w.index-stores-i.is ∙ get_or_default stores i _ None w.if-i-stores.true in record {
            begun = next (rw (w.new-is) (w.in_ok-begin_one.ensures.begins.0
                ∙ ap (λ s. begun ++ changed_file (slice_index_or c.args.paths.now i no_path).now s) at
                ∙ ap (λ p. begun ++ changed_file p (file_at stores i))
                (sym (get_or-map (λ (p : Bor (List ℕ)). p.now) c.args.paths.now i no_path))));
            kept = and_kept (subst IsKept at w.in_ok-begin_one.ensures.begins.1);
            written = rw w.files-is (w.begin_one.ensures.kept ∙ c.loop-i.invariant.written);
            same = rw w.files-is (w.begin_one.ensures.same ∙ c.loop-i.invariant.same);
          }
      | else-i-stores w ↦
          let past : file_at stores i ≡ None = get_or_past stores i None (omega arith) in record {
            begun = next (rw (w.new-is) (sym (append-nil _) ∙ ap (λ s. begun ++ changed_file (path i) s) (sym past)));
            kept = and_kept (rw past tt);
            written = rw w.files-is c.loop-i.invariant.written;
            same = rw w.files-is c.loop-i.invariant.same;
          }
    ]

-- Of a volume of which nothing is wrong no track has two holders.
use Rattle.std.proofs.Common.{◌≡◌, ◌∙◌, ap, sym, refl, subst, ℕ, ◌+◌, ◌≤◌, ◌<◌, ⊎_elim, Bool, true, false, ◌||◌, cond, List, [], ◌∷◌, ◌++◌}
use Rattle.std.proofs.Common.{length, get_or}
use Rattle.std.proofs.Common.{Option, Some, None, is_some, true≢false, arith, if◌then◌else◌, count_by, fold, flat_map, replicate, position}
use Rattle.std.proofs.lemmas.Bool.{ltb-false, cases_lt}
use Rattle.std.proofs.lemmas.List.{places, get_or_past}
use Rattle.std.proofs.lemmas.List.Sums.{sum_by-cons, sum_by-append}
use Rattle.ckd_track.specs.declared.geometries.Geometry.{Geometry}
use Rattle.ckd_track.specs.Geometry.{tracks_of}
use Rattle.ckd_track.specs.Model.{heads_of}
use Rattle.volume_labels.specs.declared.fields.Extent.{Extent}
use Rattle.volume_labels.specs.declared.fields.FreeTracks.{FreeTracks}
use Rattle.volume_labels.specs.declared.fields.RecordAddress.{RecordAddress}
use Rattle.volume_labels.specs.Labels.{data_set_block_of}
use Rattle.new_labels.specs.Runs.{has_track}
use Rattle.volume_contents.specs.declared.blocks.Block.{Block}
use Rattle.volume_contents.specs.declared.findings.Problem.{Problem}
use Rattle.volume_contents.specs.declared.findings.Problem.TheVariants.{FreeOutside}
use Rattle.volume_contents.specs.Claims.{first_taken, claimed, claim_of, claimed_by}
use Rattle.volume_contents.specs.Sets.{is_data_set, is_free_space, extents_behind, behind_block, number_of_free, free_chain, free_links}
use Rattle.volume_contents.specs.Sets.{pieces_in, pieces_behind, address_found}
use Rattle.volume_contents.specs.Checks.{found_at, chain_findings, number_findings, extent_findings, claimed_behind, set_findings}
use Rattle.volume_contents.specs.Checks.{extents_of, block_findings, claimed_by_block, sets_findings}
use Rattle.volume_contents.specs.Checks.{claimed_by_sets, free_run, in_use, is_outside, free_claim_of, claimed_by_free, piece_findings}
use Rattle.volume_contents.specs.Checks.{free_findings_at, free_findings, claimed_first}
use Rattle.volume_contents.proofs.Checked.{more_extents, more_pieces, more_sets}
use Rattle.volume_changes.specs.Runs.{has_free}
use Rattle.std.proofs.lemmas.Bool.{false_from_ne_true}
use Rattle.std.specs.List.{list_any}
use Rattle.volume_laws.specs.Space.{holders, NothingShared}
use Rattle.volume_laws.proofs.Marks.{Claims, claims_run}
use Rattle.volume_laws.proofs.Held.{claims_extent}

-- marks that count, of each track, how many have it: none or one
record Counted (g : Geometry) (marks : List ℕ) (count : ℕ → ℕ) : Type 0 where
  pub size : length marks ≡ tracks_of g
  pub mark : (n : ℕ) → get_or marks n 0 ≡ count n
  pub once : (n : ℕ) → count n ≤ 1

counted_like : {g : Geometry} {marks : List ℕ} {c : ℕ → ℕ} (d : ℕ → ℕ) → ((n : ℕ) → c n ≡ d n) → Counted g marks c → Counted g marks d
counted_like d same h = record {
  size = h.size;
  mark = λ n. h.mark n ∙ same n;
  once = λ n. subst (λ k. k ≤ 1) (same n) (h.once n);
}

-- one more claim
counted_more : {g : Geometry} {marks now : List ℕ} {c : ℕ → ℕ} (has : ℕ → Bool) → Counted g marks c → Claims marks now has
    → Counted g now (λ n. cond (has n) 1 0 + c n)
counted_more {g} {marks} {now} {c} has h claims = record {
  size = claims.size ∙ h.size;
  mark = λ n. mark n (has n) refl;
  once = λ n. once n (has n) refl;
}
  where
    mark : (n : ℕ) (b : Bool) → has n ≡ b → get_or now n 0 ≡ cond (has n) 1 0 + c n
    mark n true e = rw e (omega (arith, claims.mine n e, claims.free n e, h.mark n))
    mark n false e = rw e (omega (arith, claims.others n e, h.mark n))

    once : (n : ℕ) (b : Bool) → has n ≡ b → cond (has n) 1 0 + c n ≤ 1
    once n true e = rw e (omega (arith, claims.free n e, h.mark n))
    once n false e = rw e (omega (arith, h.once n))

-- lists of findings that are empty
pub empty_parts : {A : Type 0} (xs ys : List A) → xs ++ ys ≡ [] → (xs ≡ []) × (ys ≡ [])
empty_parts [] ys e = (refl, e)
empty_parts (x ∷ xs) ys e = let long = ap length e in absurd (omega (arith, long))

found_none : (place : RecordAddress) (o : Option Problem) → found_at place o ≡ [] → o ≡ None
found_none place None e = refl
found_none place (Some p) e = let long = ap length e in absurd (omega (arith, long))

count_more : {A : Type 0} (p : A → Bool) (x : A) (xs : List A) (c : ℕ) → count_by p xs + (cond (p x) 1 0 + c) ≡ count_by p (x ∷ xs) + c
count_more p x xs c = let s = sum_by-cons (λ x. cond (p x) 1 0) x xs in omega (arith, s)

count_both : {A : Type 0} (p : A → Bool) (xs ys : List A) (c : ℕ) → count_by p ys + (count_by p xs + c) ≡ count_by p (xs ++ ys) + c
count_both p xs ys c = let s = sum_by-append (λ x. cond (p x) 1 0) xs ys in omega (arith, s)

module _ (g : Geometry) where
  abbrev held : ℕ → Extent → Bool
  held n e = has_track (heads_of g.model) n e

  counted_extents : (place : RecordAddress) (marks : List ℕ) (c : ℕ → ℕ) (es : List Extent) → Counted g marks c
      → extent_findings g place marks es ≡ [] → Counted g (claimed_behind g marks es) (λ n. count_by (held n) es + c n)
  counted_extents place marks c [] h none = counted_like (λ n. 0 + c n) (λ n. omega arith) h
  counted_extents place marks c (e ∷ more) h none =
      let parts = empty_parts (found_at place (claim_of g marks e)) (extent_findings g place (claimed_by g marks e) more)
      (sym (more_extents g place marks e more) ∙ none) in
      let claims = claims_extent g marks h.size e (found_none place (claim_of g marks e) parts.0) in
      counted_like (λ n. count_by (held n) (e ∷ more) + c n) (λ n. count_more (held n) e more (c n))
      (counted_extents place (claimed_by g marks e) (λ n. cond (held n e) 1 0 + c n) more (counted_more (λ n. held n e) h claims) parts.1)

  module _ (blocks : List Block) where
    counted_block : (b : Block) (marks : List ℕ) (c : ℕ → ℕ) → Counted g marks c → block_findings g blocks marks b ≡ []
        → Counted g (claimed_by_block g blocks marks b) (λ n. count_by (held n) (extents_of blocks b) + c n)
    counted_block b marks c h none = by (is_data_set b.kind) refl
      where
        by : (d : Bool) → is_data_set b.kind ≡ d
            → Counted g (claimed_by_block g blocks marks b) (λ n. count_by (held n) (extents_of blocks b) + c n)
        by true e =
            let all : set_findings g blocks marks b ≡ [] = sym (ap (λ d. if d then set_findings g blocks marks b else []) e) ∙ none in
            let one = empty_parts (chain_findings b.address (behind_block blocks b).fault) _ all in
            let two = empty_parts (number_findings b.address (extents_behind blocks b) (data_set_block_of b.key b.bytes).extents) _ one.1 in
            let is : extents_of blocks b ≡ extents_behind blocks b = ap (λ d. if d then extents_behind blocks b else []) e in
            subst (λ es. Counted g (claimed_behind g marks es) (λ n. count_by (held n) es + c n)) (sym is)
            (counted_extents b.address marks c (extents_behind blocks b) h two.1)
        by false e =
            let is : extents_of blocks b ≡ [] = ap (λ d. if d then extents_behind blocks b else []) e in
            subst (λ es. Counted g (claimed_behind g marks es) (λ n. count_by (held n) es + c n)) (sym is)
            (counted_like (λ n. 0 + c n) (λ n. omega arith) h)

    counted_sets : (some : List Block) (marks : List ℕ) (c : ℕ → ℕ) → Counted g marks c → sets_findings g blocks marks some ≡ []
        → Counted g (claimed_by_sets g blocks marks some) (λ n. count_by (held n) (flat_map (extents_of blocks) some) + c n)
    counted_sets [] marks c h none = counted_like (λ n. 0 + c n) (λ n. omega arith) h
    counted_sets (b ∷ more) marks c h none =
        let parts = empty_parts (block_findings g blocks marks b) (sets_findings g blocks (claimed_by_block g blocks marks b) more)
        (sym (more_sets g blocks marks b more) ∙ none) in
        counted_like (λ n. count_by (held n) (flat_map (extents_of blocks) (b ∷ more)) + c n)
        (λ n. count_both (held n) (extents_of blocks b) (flat_map (extents_of blocks) more) (c n))
        (counted_sets more (claimed_by_block g blocks marks b) (λ n. count_by (held n) (extents_of blocks b) + c n)
        (counted_block b marks c h parts.0) parts.1)

  -- pieces of free tracks
  unless_outside : {A : Type 0} (a : Bool) (x : A) (y : Option A) → (if a then Some x else y) ≡ None → (a ≡ false) × (y ≡ None)
  unless_outside {A} true x y e = absurd (true≢false (ap (λ (o : Option A). is_some o) e))
  unless_outside false x y e = (refl, e)

  not_in_use : (f : FreeTracks) (o : Option ℕ) → in_use f o ≡ None → o ≡ None
  not_in_use f None e = refl
  not_in_use f (Some i) e = absurd (true≢false (ap (λ (o : Option Problem). is_some o) e))

  claims_piece : (marks : List ℕ) (f : FreeTracks) → length marks ≡ tracks_of g → free_claim_of g marks f ≡ None
      → Claims marks (claimed_by_free g marks f) (λ n. has_free g n f)
  claims_piece marks f size right =
      let h = unless_outside (is_outside g f) (FreeOutside f) (in_use f (first_taken marks (free_run g f))) right in
      let room = ltb-false (tracks_of g) (f.first + number_of_free g f) h.0 in
      let is : claimed_by_free g marks f ≡ claimed marks (free_run g f) = ap (λ b. if b then marks else claimed marks (free_run g f)) h.0 in
      subst (λ (now : List ℕ). Claims marks now (λ n. has_free g n f)) (sym is)
      (claims_run marks f.first (number_of_free g f) (omega (arith, room, size)) (not_in_use f (first_taken marks (free_run g f)) h.1))

  counted_pieces : (place : RecordAddress) (marks : List ℕ) (c : ℕ → ℕ) (fs : List FreeTracks) → Counted g marks c
      → piece_findings g place marks fs ≡ [] → Counted g (fold (claimed_by_free g) marks fs) (λ n. count_by (has_free g n) fs + c n)
  counted_pieces place marks c [] h none = counted_like (λ n. 0 + c n) (λ n. omega arith) h
  counted_pieces place marks c (f ∷ more) h none =
      let parts = empty_parts (found_at place (free_claim_of g marks f)) (piece_findings g place (claimed_by_free g marks f) more)
      (sym (more_pieces g place marks f more) ∙ none) in
      let claims = claims_piece marks f h.size (found_none place (free_claim_of g marks f) parts.0) in
      counted_like (λ n. count_by (has_free g n) (f ∷ more) + c n) (λ n. count_more (has_free g n) f more (c n))
      (counted_pieces place (claimed_by_free g marks f) (λ n. cond (has_free g n f) 1 0 + c n) more
      (counted_more (λ n. has_free g n f) h claims)
      parts.1)

  counted_free : (blocks : List Block) (marks : List ℕ) (c : ℕ → ℕ) → Counted g marks c → free_findings g blocks marks ≡ []
      → Counted g (fold (claimed_by_free g) marks (pieces_behind blocks)) (λ n. count_by (has_free g n) (pieces_behind blocks) + c n)
  counted_free blocks marks c h none = by (position (λ (b : Block). is_free_space b.kind) blocks) refl
    where
      by : (o : Option ℕ) → position (λ (b : Block). is_free_space b.kind) blocks ≡ o
          → Counted g (fold (claimed_by_free g) marks (pieces_behind blocks)) (λ n. count_by (has_free g n) (pieces_behind blocks) + c n)
      by None e =
          let is : pieces_behind blocks ≡ [] = ap (λ o. flat_map pieces_in (free_links blocks o).links) e in
          subst (λ fs. Counted g (fold (claimed_by_free g) marks fs) (λ n. count_by (has_free g n) fs + c n)) (sym is)
          (counted_like (λ n. 0 + c n) (λ n. omega arith) h)
      by (Some i) e =
          let all = sym (ap (λ o. free_findings_at g blocks marks (address_found blocks o)) e) ∙ none in
          let parts = empty_parts (chain_findings _ (free_chain blocks).fault) _ all in
          counted_pieces _ marks c (pieces_behind blocks) h parts.1

  -- no mark
  counted_none : Counted g (replicate (tracks_of g) 0) (λ n. 0)
  counted_none = record { size = grind (arith, places); mark = λ n. grind (arith, places); once = λ n. omega arith }

  inside : (marks : List ℕ) (c : ℕ → ℕ) → Counted g marks c → (n : ℕ) → 0 < c n → n < tracks_of g
  inside marks c h n some = ⊎_elim (λ low. low) (λ (high : tracks_of g ≤ n). let past = get_or_past marks n 0
      (subst (λ k. k ≤ n) (sym h.size) high) in absurd (omega (arith, past, h.mark n, some)))
      (cases_lt n (tracks_of g))

pub nothing_shared : NothingShared
nothing_shared v sound =
    let g = v.geometry in
    let blocks = v.blocks in
    let zeros = replicate (tracks_of g) 0 in
    let parts = empty_parts (sets_findings g blocks (claimed_first g v.table) blocks)
    (free_findings g blocks (claimed_by_sets g blocks (claimed_first g v.table) blocks)) sound.nothing in
    let table = counted_more (λ n. held g n v.table.extent) (counted_none g)
    (claims_extent g zeros (counted_none g).size v.table.extent sound.table) in
    let sets = counted_sets g blocks blocks (claimed_first g v.table) (λ n. cond (held g n v.table.extent) 1 0 + 0) table parts.0 in
    let free = counted_free g blocks (claimed_by_sets g blocks (claimed_first g v.table) blocks) _ sets parts.1 in
    let all = counted_like (holders v)
    (λ n. omega (arith, count_more (held g n) v.table.extent (flat_map (extents_of blocks) blocks) 0)) free in record {
      once = all.once;
      inside = inside g _ (holders v) all;
    }

-- one that passes is counted
counts_one : {A : Type 0} (p : A → Bool) (x : A) (xs : List A) → (list_any p xs ≡ true → 0 < count_by p xs) → (p x || list_any p xs) ≡ true
    → 0 < count_by p (x ∷ xs)
counts_one p x xs rest any = by (p x) refl
  where
    by : (b : Bool) → p x ≡ b → 0 < count_by p (x ∷ xs)
    by true e =
        let one : ◌≡◌ {A = ℕ} (cond (p x) 1 0) 1 = ap (λ b. cond b 1 0) e in
        let all = sum_by-cons (λ x. cond (p x) 1 0) x xs in omega (arith, one, all)
    by false e =
        let some = rest (sym (ap (λ b. b || list_any p xs) e) ∙ any) in
        let all = sum_by-cons (λ x. cond (p x) 1 0) x xs in omega (arith, some, all)

pub any_counts : {A : Type 0} (p : A → Bool) (xs : List A) → list_any p xs ≡ true → 0 < count_by p xs
any_counts p [] any = absurd (true≢false (sym any))
any_counts p (x ∷ xs) any = counts_one p x xs (any_counts p xs) any

pub none_counts : {A : Type 0} (p : A → Bool) (xs : List A) → count_by p xs ≡ 0 → list_any p xs ≡ false
none_counts p xs none = false_from_ne_true (list_any p xs) (λ any. let some = any_counts p xs any in absurd (omega (arith, some, none)))

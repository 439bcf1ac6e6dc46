-- The tracks of an extent, as it claims them.
use Rattle.std.proofs.Common.{◌≡◌, ◌∙◌, ap, sym, refl, subst, ℕ, zero, suc, ◌+◌, ◌-◌, ◌*◌, ◌/◌, ◌%◌, ◌≤◌, ◌<◌, Bool, true, false, not, ◌&&◌}
use Rattle.std.proofs.Common.{◌||◌, ◌==◌, nat_le, nat_lt, List, length}
use Rattle.std.proofs.Common.{Option, Some, None, is_some, true≢false, arith, if◌then◌else◌}
use Rattle.std.proofs.lemmas.Bool.{and_parts, leb-true, ltb-true}
use Rattle.std.proofs.lemmas.Bool.Decides.{nat_tests}
use Rattle.std.proofs.lemmas.Nat.{div-add-mod', mod_below}
use Rattle.ckd_track.specs.declared.model.DriveModel.{DriveModel}
use Rattle.ckd_track.specs.declared.model.DriveModel.TheVariants.{D2311, D2314}
use Rattle.ckd_track.specs.declared.geometries.Geometry.{Geometry}
use Rattle.ckd_track.specs.Geometry.{tracks_of}
use Rattle.ckd_track.specs.Model.{heads_of}
use Rattle.volume_labels.specs.declared.fields.Extent.{Extent}
use Rattle.volume_labels.specs.Addresses.{number_of_track, is_split, is_run, is_in_order, heads_in}
use Rattle.new_labels.specs.Runs.{has_track, shares_track}
use Rattle.volume_contents.specs.declared.findings.Problem.{Problem}
use Rattle.volume_contents.specs.declared.findings.Problem.TheVariants.{BadExtent, ExtentOutside}
use Rattle.volume_contents.specs.Runs.{exists_on}
use Rattle.volume_contents.specs.Claims.{Claimed, first_taken, claimed, unless_taken, run_on, run_of, run_claimed, split_claimed}
use Rattle.volume_contents.specs.Claims.{cylinders_claimed, tracks_claimed, overlap, claim_of, claimed_by}
use Rattle.volume_laws.proofs.Marks.{Claims, claims_like, claims_none, claims_both, in_run, claims_run}

pub some_heads : (model : DriveModel) → 0 < heads_of model
some_heads D2311 = omega arith
some_heads D2314 = omega arith

-- a track of a cylinder that is on the volume is so too
pub on_volume : (m : DriveModel) (c h n : ℕ) → c < n → h < heads_of m → c * heads_of m + h < n * heads_of m
on_volume D2311 c h n a b = omega (arith, a, b)
on_volume D2314 c h n a b = omega (arith, a, b)

-- so many heads of one cylinder, by the numbers of their tracks
one_row : (m : DriveModel) (c q rest low high : ℕ) → rest < heads_of m → low ≤ high → high < heads_of m
    → (nat_le (c * heads_of m + low) (q * heads_of m + rest) && nat_lt (q * heads_of m + rest) (c * heads_of m + low + (high + 1 - low)))
    ≡ ((c == q) && (nat_le low rest && nat_le rest high))
one_row D2311 c q rest low high a b d = grind (arith, nat_tests)
one_row D2314 c q rest low high a b d = grind (arith, nat_tests)

-- a split extent has track n on one of so many of its cylinders, from the one on that is so many behind its first
abbrev on_cylinders : (heads : ℕ) → Extent → (k most n : ℕ) → Bool
on_cylinders heads e k most n =
    (nat_le (e.first.cylinder + k) (n / heads) && nat_lt (n / heads) (e.first.cylinder + k + most))
    && (nat_le e.first.head (n % heads) && nat_le (n % heads) e.last.head)

next_cylinder : (c k most q : ℕ) (heads : Bool)
    → ((nat_le (c + k) q && nat_lt q (c + k + suc most)) && heads)
    ≡ (((c + k == q) && heads) || ((nat_le (c + (k + 1)) q && nat_lt q (c + (k + 1) + most)) && heads))
next_cylinder c k most q true = grind (arith, nat_tests)
next_cylinder c k most q false = grind (arith, nat_tests)

no_cylinder : (c k q : ℕ) (heads : Bool) → ((nat_le (c + k) q && nat_lt q (c + k + 0)) && heads) ≡ false
no_cylinder c k q heads = grind (arith, nat_tests)

not_taken : (o : Option ℕ) (marks : List ℕ) (more : List ℕ → Claimed) → (unless_taken o marks more).taken ≡ None → o ≡ None
not_taken None marks more e = refl
not_taken (Some i) marks more e = absurd (true≢false (ap (λ (o : Option ℕ). is_some o) e))

module _ (g : Geometry) (e : Extent) (order : e.first.head ≤ e.last.head) (high : e.last.head < heads_of g.model) where
  more_cylinders : (most k : ℕ) (marks : List ℕ) → cylinders_claimed (suc most) g e k marks
      ≡ unless_taken (first_taken marks (run_on g e k)) (claimed marks (run_on g e k)) (cylinders_claimed most g e (k + 1))
  unfolding cylinders_claimed
  more_cylinders most k marks = refl

  no_more : (k : ℕ) (marks : List ℕ) → cylinders_claimed 0 g e k marks ≡ record { marks = marks; taken = None }
  unfolding cylinders_claimed
  no_more k marks = refl

  same_row : (k n : ℕ)
      → in_run (number_of_track (heads_of g.model) (record { cylinder = e.first.cylinder + k; head = e.first.head })) (heads_in e) n
      ≡ ((e.first.cylinder + k == n / heads_of g.model) &&
      (nat_le e.first.head (n % heads_of g.model) && nat_le (n % heads_of g.model) e.last.head))
  same_row k n =
      let h = heads_of g.model in
      subst (λ m. (nat_le ((e.first.cylinder + k) * h + e.first.head) m && nat_lt m
      ((e.first.cylinder + k) * h + e.first.head + (e.last.head + 1 - e.first.head)))
      ≡ ((e.first.cylinder + k == n / h) && (nat_le e.first.head (n % h) && nat_le (n % h) e.last.head)))
      (div-add-mod' n h)
      (one_row g.model (e.first.cylinder + k) (n / h) (n % h) e.first.head e.last.head (mod_below n h (some_heads g.model)) order high)

  claims_cylinders : (most k : ℕ) (marks : List ℕ) → length marks ≡ tracks_of g → e.first.cylinder + k + most ≤ g.cylinders
      → (cylinders_claimed most g e k marks).taken ≡ None
      → Claims marks (cylinders_claimed most g e k marks).marks (on_cylinders (heads_of g.model) e k most)
  claims_cylinders zero k marks size room none =
      rw (no_more k marks) (claims_none marks (on_cylinders (heads_of g.model) e k 0)
      (λ n. no_cylinder e.first.cylinder k (n / heads_of g.model)
      (nat_le e.first.head (n % heads_of g.model) && nat_le (n % heads_of g.model) e.last.head)))
  claims_cylinders (suc most) k marks size room none =
      let first_track = number_of_track (heads_of g.model) (record { cylinder = e.first.cylinder + k; head = e.first.head }) in
      let now = claimed marks (run_on g e k) in
      let more = cylinders_claimed most g e (k + 1) in
      let is = more_cylinders most k marks in
      let ends : (unless_taken (first_taken marks (run_on g e k)) now more).taken ≡ None = sym (ap (λ (c : Claimed). c.taken) is) ∙ none in
      let free : first_taken marks (run_on g e k) ≡ None = not_taken (first_taken marks (run_on g e k)) now more ends in
      let goes : cylinders_claimed (suc most) g e k marks ≡ more now = is ∙ ap (λ o. unless_taken o now more) free in
      let below : e.first.cylinder + k < g.cylinders = omega (arith, room) in
      let last = on_volume g.model (e.first.cylinder + k) e.last.head g.cylinders below high in
      let first = claims_run marks first_track (heads_in e) (omega (arith, last, size, order)) free in
      let rest = claims_cylinders most (k + 1) now (first.size ∙ size) (omega (arith, room))
      (sym (ap (λ (c : Claimed). c.taken) goes) ∙ none) in
      subst (λ (c : Claimed). Claims marks c.marks (on_cylinders (heads_of g.model) e k (suc most))) (sym goes)
      (claims_like (on_cylinders (heads_of g.model) e k (suc most))
      (λ n. next_cylinder e.first.cylinder k most (n / heads_of g.model)
      (nat_le e.first.head (n % heads_of g.model) && nat_le (n % heads_of g.model) e.last.head)
      ∙ ap (λ b. b || on_cylinders (heads_of g.model) e (k + 1) most n) (sym (same_row k n)))
      (claims_both (in_run first_track (heads_in e)) (on_cylinders (heads_of g.model) e (k + 1) most) first rest))

-- what an extent is of which nothing is wrong
unless_bad : {A : Type 0} (a : Bool) (x : A) (y : Option A) → (if not a then Some x else y) ≡ None → (a ≡ true) × (y ≡ None)
unless_bad true x y e = (refl, e)
unless_bad {A} false x y e = absurd (true≢false (ap (λ (o : Option A). is_some o) e))

no_overlap : (e : Extent) (o : Option ℕ) → overlap e o ≡ None → o ≡ None
no_overlap e None h = refl
no_overlap e (Some i) h = absurd (true≢false (ap (λ (o : Option Problem). is_some o) h))

-- the tests of an extent, and those of what it claims
all_cylinders : (first last q : ℕ) (a b : Bool) → first ≤ last
    → (nat_le first q && (nat_le q last && (a && b))) ≡ ((nat_le (first + 0) q && nat_lt q (first + 0 + (last + 1 - first))) && (a && b))
all_cylinders first last q true true h = grind (arith, nat_tests)
all_cylinders first last q true false h = grind (arith, nat_tests)
all_cylinders first last q false b h = grind (arith, nat_tests)

all_tracks : (first last n : ℕ) → first ≤ last
    → (nat_le first n && nat_le n last) ≡ (nat_le first n && nat_lt n (first + (last + 1 - first)))
all_tracks first last n h = grind (arith, nat_tests)

module _ (g : Geometry) (marks : List ℕ) (size : length marks ≡ tracks_of g) (e : Extent) (right : claim_of g marks e ≡ None) where
  run : is_run (heads_of g.model) e ≡ true
  run = (unless_bad (is_run (heads_of g.model) e) (BadExtent e) _ right).0

  there : (exists_on g e.first && exists_on g e.last) ≡ true
  there = (unless_bad (exists_on g e.first && exists_on g e.last) (ExtentOutside e) _
      (unless_bad (is_run (heads_of g.model) e) (BadExtent e) _ right).1).0

  free : (tracks_claimed g e marks).taken ≡ None
  free = no_overlap e (tracks_claimed g e marks).taken
      (unless_bad (exists_on g e.first && exists_on g e.last) (ExtentOutside e) _
      (unless_bad (is_run (heads_of g.model) e) (BadExtent e) _ right).1).1

  is_claimed : claimed_by g marks e ≡ (tracks_claimed g e marks).marks
  is_claimed = rw (run, there) refl

  pub record Bounds : Type 0 where
    pub first_head : e.first.head < heads_of g.model
    pub last_head : e.last.head < heads_of g.model
    pub last_cylinder : e.last.cylinder < g.cylinders

  bounds : Bounds
  bounds =
      let h = and_parts _ _ run in
      let heads = and_parts (nat_lt e.first.head (heads_of g.model)) (nat_lt e.last.head (heads_of g.model)) h.0 in
      let last = and_parts (exists_on g e.first) (exists_on g e.last) there in
      let cylinder = and_parts (nat_lt e.last.cylinder g.cylinders) (nat_lt e.last.head (heads_of g.model)) last.1 in record {
        first_head = ltb-true e.first.head (heads_of g.model) heads.0;
        last_head = ltb-true e.last.head (heads_of g.model) heads.1;
        last_cylinder = ltb-true e.last.cylinder g.cylinders cylinder.0;
      }

  in_order : is_in_order (heads_of g.model) e ≡ true
  in_order = (and_parts (nat_lt e.first.head (heads_of g.model) && nat_lt e.last.head (heads_of g.model))
      (is_in_order (heads_of g.model) e) run).1

  by : (s : Bool) → is_split e ≡ s → Claims marks (tracks_claimed g e marks).marks (λ n. has_track (heads_of g.model) n e)
  by true s =
      let h = heads_of g.model in
      let order = and_parts (nat_le e.first.cylinder e.last.cylinder) (nat_le e.first.head e.last.head)
      (sym (ap (λ b. if b then nat_le e.first.cylinder e.last.cylinder && nat_le e.first.head e.last.head
      else nat_le (number_of_track h e.first) (number_of_track h e.last)) s) ∙ in_order) in
      let cylinders = leb-true e.first.cylinder e.last.cylinder order.0 in
      let heads = leb-true e.first.head e.last.head order.1 in
      let is : tracks_claimed g e marks ≡ split_claimed g e marks =
      ap (λ b. if b then split_claimed g e marks else run_claimed marks (run_of g e)) s in
      let all = claims_cylinders g e heads bounds.last_head (e.last.cylinder + 1 - e.first.cylinder) 0 marks size
      (omega (arith, cylinders, bounds.last_cylinder)) (sym (ap (λ (c : Claimed). c.taken) is) ∙ free) in
      subst (λ (c : Claimed). Claims marks c.marks (λ n. has_track h n e)) (sym is)
      (claims_like (λ n. has_track h n e)
      (λ n. ap (λ b. if b then shares_track h n e else nat_le (number_of_track h e.first) n && nat_le n (number_of_track h e.last)) s
      ∙ all_cylinders e.first.cylinder e.last.cylinder (n / h) (nat_le e.first.head (n % h)) (nat_le (n % h) e.last.head) cylinders) all)
  by false s =
      let h = heads_of g.model in
      let ordered : nat_le (number_of_track h e.first) (number_of_track h e.last) ≡ true =
      sym (ap (λ b. if b then nat_le e.first.cylinder e.last.cylinder && nat_le e.first.head e.last.head
      else nat_le (number_of_track h e.first) (number_of_track h e.last)) s) ∙ in_order in
      let order = leb-true (number_of_track h e.first) (number_of_track h e.last) ordered in
      let is : tracks_claimed g e marks ≡ run_claimed marks (run_of g e) =
      ap (λ b. if b then split_claimed g e marks else run_claimed marks (run_of g e)) s in
      let inside = on_volume g.model e.last.cylinder e.last.head g.cylinders bounds.last_cylinder bounds.last_head in
      let all = claims_run marks (number_of_track h e.first) (number_of_track h e.last + 1 - number_of_track h e.first)
      (omega (arith, order, inside, size)) (sym (ap (λ (c : Claimed). c.taken) is) ∙ free) in
      subst (λ (c : Claimed). Claims marks c.marks (λ n. has_track h n e)) (sym is)
      (claims_like (λ n. has_track h n e)
      (λ n. ap (λ b. if b then shares_track h n e else nat_le (number_of_track h e.first) n && nat_le n (number_of_track h e.last)) s
      ∙ all_tracks (number_of_track h e.first) (number_of_track h e.last) n order) all)

  -- its tracks were free, and are marked
  pub claims_extent : Claims marks (claimed_by g marks e) (λ n. has_track (heads_of g.model) n e)
  claims_extent = subst (λ (now : List ℕ). Claims marks now (λ n. has_track (heads_of g.model) n e)) (sym is_claimed) (by (is_split e) refl)

-- What is left to be handed over while changes are written, and to be synced.
use Rattle.std.proofs.Common.{◌≡◌, ⊎_elim, ℕ, zero, suc, ◌+◌, ◌-◌, ◌≤◌, ◌<◌, List, [], ◌∷◌, length, get_or, take, drop, Bool, true, false}
use Rattle.std.proofs.Common.{true≢false, cond, not, ◌&&◌, ◌||◌, ◌==◌, nat_le, nat_lt, position, refl, sym, ◌∙◌, ap, subst, arith}
use Rattle.std.specs.List.{position_or_len}
use Rattle.std.proofs.lemmas.Bool.{cases_Bool, cases_lt, or_parts, or_from, and_parts, eqb-true}
use Rattle.std.specs.Prelude.{slice_get, Some, None}
use Rattle.std.proofs.lemmas.List.{take_all}
use Rattle.atomic_save.specs.declared.changes.Change.{Change}
use Rattle.atomic_save.specs.declared.changes.FileId.{FileId}
use Rattle.atomic_save.specs.Changes.{Note, State, note_of, notes, covers, byte_of, byte_after, touches}
use Rattle.atomic_save.specs.Calls.{Event, Wrote, Synced, Due, MayLeave, shown, lies_in}
use Rattle.atomic_save.specs.Saves.{is_outside, Follows, Writing, Written, AllHanded, AllLie, Reached, Safe, CalmBefore}
use Rattle.atomic_save.proofs.Moments.{next_moment}
use Rattle.atomic_save.proofs.Steps.{writing_safe, written_step}

-- Each byte that is to be written is handed over, but for what the rest writes over it.
abbrev pub Pending : (rest ns : List Note) → List Event → Type 0
Pending rest ns es =
    (file k b : ℕ) → touches ns file k ≡ true → (a : ℕ) × (touches rest file k ≡ false → Due es file k a)
    × (byte_after rest file k a ≡ byte_after ns file k b)

-- The rest touches nothing else.
abbrev pub Among : (rest ns : List Note) → Type 0
Among rest ns = (file k : ℕ) → touches ns file k ≡ false → touches rest file k ≡ false

pub pending_start : (ns : List Note) (es : List Event) → Pending ns ns es
pending_start ns es file k b h = (b, λ isnt. absurd (true≢false (sym h ∙ isnt)), refl)

pub pending_step : (n : Note) (rest ns : List Note) (es new : List Event) → new ≡ Wrote n true ∷ es → Pending (n ∷ rest) ns es
    → Pending rest ns new
pending_step n rest ns es new is pending = subst (Pending rest ns) (sym is) (λ file k b h.
    let p = pending file k b h in
    (byte_of n file k p.0, λ isnt. (refl, (p.0, λ off. p.1 (or_from (covers n file k) (touches rest file k) off isnt), refl)), p.2))

pub pending_end : (ns : List Note) (es : List Event) → Pending [] ns es → AllHanded ns es
pending_end ns es pending file k b h = let p = pending file k b h in subst (Due es file k) p.2 (p.1 refl)

pub among_step : (n : Note) (rest ns : List Note) → Among (n ∷ rest) ns → Among rest ns
among_step n rest ns among file k isnt = (or_parts (covers n file k) (touches rest file k) (among file k isnt)).1

module _ (disk : State) (ns : List Note) (before : List Event) (calm_before : CalmBefore disk ns before) where
  -- one change more is written, or in part
  pub put_reached : (n : Note) (rest : List Note) (es new : List Event) (done : Bool) → new ≡ Wrote n done ∷ es → Among (n ∷ rest) ns
      → shown new ≡ Some ns → Reached disk ns before (Writing ns) es → Reached disk ns before (Writing ns) new
  put_reached n rest es new done is among some r =
      let follows : Follows (Writing ns) (MayLeave disk before) (MayLeave disk new) =
      subst (λ l. Follows (Writing ns) (MayLeave disk before) (MayLeave disk l)) (sym is) torn in
      record {
        safe = next_moment (Safe disk ns before) before es new (Wrote n done) is r.safe
            (subst (Safe disk ns before) is (writing_safe disk ns before new calm_before some follows));
        left = follows;
      }
    where
      torn : Follows (Writing ns) (MayLeave disk before) (MayLeave disk (Wrote n done ∷ es))
      torn c left =
          let f = r.left left.0 left.1 in (
            f.0,
            f.1,
            record {
              journal = left.2.journal ∙ f.2.journal;
              elsewhere = λ file k isnt. left.2.elsewhere file k
                  (or_parts (covers n file k) (touches rest file k) (among file k isnt)).0 ∙ f.2.elsewhere file k isnt;
            },
          )

  -- one file more is synced, or not
  pub sync_reached : (es new : List Event) (file : ℕ) (done : Bool) → new ≡ Synced file done ∷ es → shown es ≡ Some ns
      → Reached disk ns before (Writing ns) es → Reached disk ns before (Writing ns) new
  sync_reached es new file done is some r =
      let follows : Follows (Writing ns) (MayLeave disk before) (MayLeave disk (Synced file done ∷ es)) = λ c left. r.left c left.0 in
      subst (Reached disk ns before (Writing ns)) (sym is)
      (record {
        safe = next_moment (Safe disk ns before) before es (Synced file done ∷ es) (Synced file done) refl r.safe
            (writing_safe disk ns before (Synced file done ∷ es) calm_before some follows);
        left = follows;
      })

-- the first so many files have on the disk what was handed over
abbrev pub AreSynced : ℕ → List Event → List Event → Type 0
AreSynced count old es = (disk c : State) → MayLeave disk es c → (file k b : ℕ) → file < count → Due old file k b → c.held file k ≡ b

pub more_synced : (count : ℕ) (old es new : List Event) → new ≡ Synced count true ∷ es
    → ((file k b : ℕ) → Due old file k b → Due es file k b) → AreSynced count old es → AreSynced (count + 1) old new
more_synced count old es new is still synced = subst (AreSynced (count + 1) old) (sym is) (λ disk c left file k b below due.
    ⊎_elim (λ lt. synced disk c left.0 file k b lt due)
    (λ le. let it : file ≡ count = omega arith in ap (λ f. c.held f k) it
    ∙ left.1 refl k b (still count k b (subst (λ f. Due old f k b) it due)))
    (cases_lt file count))

pub fewer_synced : (few many : ℕ) (old es : List Event) → few ≤ many → AreSynced many old es → AreSynced few old es
fewer_synced few many old es le synced disk c left file k b below due = synced disk c left file k b (omega (arith, le, below)) due

pub still_due : (file : ℕ) (old es new : List Event) → new ≡ Synced file true ∷ es → ((f k b : ℕ) → Due old f k b → Due es f k b)
    → (f k b : ℕ) → Due old f k b → Due new f k b
still_due file old es new is still f k b due = subst (λ l. Due l f k b) (sym is) (refl, still f k b due)

-- a change within its file is of one of the files
lies_within : (files : List FileId) (n : Note) (i : ℕ) → lies_in n (slice_get files i) ≡ true → i < length files
lies_within [] n i h = absurd (true≢false (sym h))
lies_within (f ∷ fs) n zero h = omega arith
lies_within (f ∷ fs) n (suc i) h = omega (arith, lies_within fs n i h)

touched_within : (files : List FileId) (ns : List Note) (file k : ℕ) → AllLie files ns → touches ns file k ≡ true → file < length files
touched_within files [] file k lie h = absurd (true≢false (sym h))
touched_within files (n ∷ ns) file k lie h =
    ⊎_elim (λ is. subst (λ f. f < length files) (eqb-true n.file file
    (and_parts (n.file == file) (nat_le n.at k && nat_lt k (n.at + length n.bytes)) is).0) (lies_within files n n.file lie.0))
    (λ isnt. touched_within files ns file k lie.1 (sym (ap (λ t. t || touches ns file k) isnt) ∙ h)) (cases_Bool (covers n file k))

pub written : (disk : State) (files : List FileId) (ns : List Note) (before old new : List Event) → AllLie files ns → AllHanded ns old
    → AreSynced (length files) old new
    → Follows (Writing ns) (MayLeave disk before) (MayLeave disk new) → Follows (Written ns) (MayLeave disk before) (MayLeave disk new)
written disk files ns before old new lie handed synced at c left =
    let f = at c left in (
      f.0,
      f.1,
      written_step ns f.0 c f.2 (λ file k b is. synced disk c left file k (byte_after ns file k b)
          (touched_within files ns file k lie is) (handed file k b is)),
    )

-- a slice is its first change and the rest of it
pub first_and_rest : (xs : List Change) (x : Change) → 1 ≤ length xs → x ≡ get_or xs 0 x → xs ≡ x ∷ take (length xs - 1) (drop 1 xs)
first_and_rest [] x le is = absurd (omega arith)
first_and_rest (y ∷ ys) x le is = λ i. sym is i ∷ sym (take_all (length (y ∷ ys) - 1) ys (omega arith)) i

pub nothing_left : (xs : List Change) → length xs < 1 → xs ≡ []
nothing_left [] lt = refl
nothing_left (x ∷ xs) lt = absurd (omega arith)

-- the first does not pass, and none of the rest
none_passes : (b : Bool) (first rest : ℕ) → cond (nat_lt (cond (not b) (1 + first) 0) (suc rest)) (Some (cond (not b) (1 + first) 0)) None
    ≡ None
    → (b ≡ false) × (cond (nat_lt first rest) (Some first) None ≡ None)
none_passes true first rest none = absurd (grind arith)
none_passes false first rest none = (refl, grind arith)

inside : (b : Bool) → not b ≡ false → b ≡ true
inside true h = refl
inside false h = absurd (true≢false h)

pub all_lie : (files : List FileId) (cs : List Change) → position (is_outside files) cs ≡ None → AllLie files (notes cs)
all_lie files [] none = tt
all_lie files (c ∷ cs) none =
    let p = none_passes (is_outside files c) (position_or_len (is_outside files) cs) (length cs) none in
    (inside (lies_in (note_of c) (slice_get files c.file)) p.0, all_lie files cs p.1)

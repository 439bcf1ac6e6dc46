-- What may be found at each stage of a save.
use Rattle.std.proofs.Common.{◌≡◌, ◌⊎◌, inl, inr, ⊎_elim, ℕ, List, ◌∷◌, Bool, true, Some, None, Result, Ok, Err, is_ok, OnOk, refl, sym}
use Rattle.std.proofs.Common.{◌∙◌, ap, subst}
use Rattle.std.proofs.lemmas.Bool.{cases_Bool}
use Rattle.std.specs.Prelude.{⊤}
use Rattle.atomic_save.specs.declared.faults.HostFault.{HostFault}
use Rattle.atomic_save.specs.Changes.{Note, State, byte_after, touches, read_by, opened}
use Rattle.atomic_save.specs.Calls.{Event, Drafted, Committed, Retired, NamesSynced, Renamed, shown, MayLeave}
use Rattle.atomic_save.specs.Saves.{Follows, OldOrNew, SameRead, Reads, New, Idle, Fits, Safe, EachMoment, NoJournal, Calm, CalmBefore}
use Rattle.atomic_save.specs.Saves.{Writing, Written, Reached, KeepsSafe, Leads, SafeThroughout, SameThroughout}
use Rattle.atomic_save.proofs.Bytes.{untouched, after_twice, same_after}
use Rattle.atomic_save.proofs.Moments.{same_moment, next_moment, at_each}

with_none : (c : State) → c.journal ≡ None → Idle c
with_none c is file k = ap (λ j. read_by j file k (c.held file k)) is

with_some : (ns : List Note) (c : State) → c.journal ≡ Some ns → (file k : ℕ) → opened c file k ≡ byte_after ns file k (c.held file k)
with_some ns c is file k = ap (λ j. read_by j file k (c.held file k)) is

pub calm : (disk : State) (ns : List Note) (es : List Event) → Fits disk es → (shown es ≡ None) ⊎ (shown es ≡ Some ns)
    → CalmBefore disk ns es
calm disk ns es fits free d left =
    ⊎_elim (λ idle. inl idle) (λ is. ⊎_elim (λ none. inl (with_none d (is ∙ none))) (λ some. inr (is ∙ some)) free) (fits d left)

after_opened : (ns : List Note) (d : State) → Calm ns d → (file k : ℕ)
    → byte_after ns file k (opened d file k) ≡ byte_after ns file k (d.held file k)
after_opened ns d (inl idle) file k = ap (byte_after ns file k) (idle file k)
after_opened ns d (inr is) file k = ap (byte_after ns file k) (with_some ns d is file k) ∙ after_twice ns file k (d.held file k)

reads_same : (c d : State) → c.held ≡ d.held → c.journal ≡ d.journal → Reads (opened d) c
reads_same c d held journal file k = λ i. read_by (journal i) file k (held i file k)

-- what is read by a journal already is not changed by it again
same_read : (ns : List Note) (d c : State) → d.journal ≡ Some ns → OldOrNew ns d c → SameRead d c
same_read ns d c is (inl old) = old
same_read ns d c is (inr new) =
    λ file k. new file k ∙ ap (byte_after ns file k) (with_some ns d is file k) ∙ after_twice ns file k (d.held file k)
    ∙ sym (with_some ns d is file k)

-- ---- each stage is safe

narrow : (S : State → State → Type 0) (before old new : State → Type 0) → ((c : State) → new c → old c) → Follows S before old
    → Follows S before new
narrow S before old new n follows c left = follows c (n c left)

safe_by : (disk : State) (ns : List Note) (before now : List Event) (S : State → State → Type 0)
    → Follows S (MayLeave disk before) (MayLeave disk now)
    → ((d c : State) → MayLeave disk before d → S d c → OldOrNew ns d c × (Idle c ⊎ (c.journal ≡ shown now))) → Safe disk ns before now
safe_by disk ns before now S follows good = record {
  old_or_new = λ c left. let f = follows c left in (f.0, f.1, (good f.0 c f.1 f.2).0);
  fits = λ c left. let f = follows c left in (good f.0 c f.1 f.2).1;
}

safe_narrow : (disk : State) (ns : List Note) (before es now : List Event) → ((c : State) → MayLeave disk now c → MayLeave disk es c)
    → shown now ≡ shown es → Safe disk ns before es → Safe disk ns before now
safe_narrow disk ns before es now n is safe = record {
  old_or_new = narrow (OldOrNew ns) (MayLeave disk before) (MayLeave disk es) (MayLeave disk now) n safe.old_or_new;
  fits = λ c left. subst (λ s. Idle c ⊎ (c.journal ≡ s)) (sym is) (safe.fits c (n c left));
}

pub safe_at_first : (disk : State) (ns : List Note) (es : List Event) → Fits disk es → Safe disk ns es es
safe_at_first disk ns es fits = record { old_or_new = λ c left. (c, left, inl (λ file k. refl)); fits = fits }

writing_is_new : (ns : List Note) (d c : State) → Calm ns d → Writing ns d c → OldOrNew ns d c
writing_is_new ns d c calm_d w =
    inr (λ file k. with_some ns c w.journal file k ∙ same_after ns d.held c.held w.elsewhere file k ∙ sym (after_opened ns d calm_d file k))

pub writing_safe : (disk : State) (ns : List Note) (before now : List Event) → CalmBefore disk ns before → shown now ≡ Some ns
    → Follows (Writing ns) (MayLeave disk before) (MayLeave disk now) → Safe disk ns before now
writing_safe disk ns before now calm_before is follows =
    safe_by disk ns before now (Writing ns) follows (λ d c left w. (writing_is_new ns d c (calm_before d left) w, inr (w.journal ∙ sym is)))

new_safe : (disk : State) (ns : List Note) (before now : List Event) → Follows (New ns) (MayLeave disk before) (MayLeave disk now)
    → Safe disk ns before now
new_safe disk ns before now follows =
    safe_by disk ns before now (New ns) follows (λ d c left n. (inr (λ file k. n.idle file k ∙ n.files file k), inl n.idle))

-- ---- the commit

commit_step : (ns : List Note) (d c : State) → Calm ns d → Renamed (Some ns) d c → OldOrNew ns d c
commit_step ns d c calm_d r =
    ⊎_elim (λ as_before. inl (reads_same c d r.held as_before))
    (λ is. inr (λ file k. with_some ns c is file k ∙ ap (λ h. byte_after ns file k (h file k)) r.held
    ∙ sym (after_opened ns d calm_d file k)))
    r.name

commit_fits : (ns : List Note) (d c : State) → Calm ns d → Renamed (Some ns) d c → Idle c ⊎ (c.journal ≡ Some ns)
commit_fits ns d c calm_d r =
    ⊎_elim (λ as_before. ⊎_elim (λ idle. inl (λ file k. reads_same c d r.held as_before file k ∙ idle file k
    ∙ sym (ap (λ h. h file k) r.held))) (λ is. inr (as_before ∙ is)) calm_d)
    (λ is. inr is) r.name

committed_safe : (disk : State) (ns : List Note) (es : List Event) → CalmBefore disk ns es → Safe disk ns es (Committed ∷ Drafted ns ∷ es)
committed_safe disk ns es calm_before =
    safe_by disk ns es (Committed ∷ Drafted ns ∷ es) (Renamed (Some ns)) (λ c left. left)
    (λ d c left r. (commit_step ns d c (calm_before d left) r, commit_fits ns d c (calm_before d left) r))

pub drafted_moments : (disk : State) (ns : List Note) (es new : List Event) → new ≡ Drafted ns ∷ es → Fits disk es
    → EachMoment (Safe disk ns es) es new
drafted_moments disk ns es new is fits =
    next_moment (Safe disk ns es) es es new (Drafted ns) is (same_moment (Safe disk ns es) es (safe_at_first disk ns es fits))
    (safe_narrow disk ns es es (Drafted ns ∷ es) (λ c left. left) refl (safe_at_first disk ns es fits))

pub named_moments : (disk : State) (ns : List Note) (es drafted committed new : List Event) (done : Bool) → drafted ≡ Drafted ns ∷ es
    → committed ≡ Committed ∷ drafted → new ≡ NamesSynced done ∷ committed
    → Fits disk es → CalmBefore disk ns es → EachMoment (Safe disk ns es) es new
named_moments disk ns es drafted committed new done d-is c-is n-is fits calm_before =
    let whole : committed ≡ Committed ∷ Drafted ns ∷ es = c-is ∙ ap (λ l. Committed ∷ l) d-is in
    let safe = committed_safe disk ns es calm_before in
    let at_commit = next_moment (Safe disk ns es) es drafted committed Committed c-is (drafted_moments disk ns es drafted d-is fits)
    (subst (λ l. Safe disk ns es (Committed ∷ l)) (sym d-is) safe) in
    next_moment (Safe disk ns es) es committed new (NamesSynced done) n-is at_commit
    (safe_narrow disk ns es committed (NamesSynced done ∷ committed) (λ c left. left.0) refl (subst (Safe disk ns es) (sym whole) safe))

pub named_writing : (disk : State) (ns : List Note) (es drafted committed new : List Event) → drafted ≡ Drafted ns ∷ es
    → committed ≡ Committed ∷ drafted → new ≡ NamesSynced true ∷ committed
    → Follows (Writing ns) (MayLeave disk es) (MayLeave disk new)
named_writing disk ns es drafted committed new d-is c-is n-is =
    subst (λ l. Follows (Writing ns) (MayLeave disk es) (MayLeave disk l))
    (sym (n-is ∙ ap (λ l. NamesSynced true ∷ l) (c-is ∙ ap (λ l. Committed ∷ l) d-is)))
    (λ c left. (
      left.0.0,
      left.0.1,
      record {
        journal = left.1 refl (Some ns) refl;
        elsewhere = λ file k isnt. ap (λ h. h file k) left.0.2.held;
      },
    ))

-- ---- the end

pub written_step : (ns : List Note) (d c : State) → Writing ns d c
    → ((file k b : ℕ) → touches ns file k ≡ true → c.held file k ≡ byte_after ns file k b) → Written ns d c
written_step ns d c w has = record {
  journal = w.journal;
  files = λ file k. ⊎_elim (λ is. has file k (d.held file k) is)
      (λ isnt. w.elsewhere file k isnt ∙ sym (untouched ns file k (d.held file k) isnt)) (cases_Bool (touches ns file k));
}

-- whether or not the journal is gone
retired : (ns : List Note) (d m c : State) → Calm ns d → Written ns d m → Renamed None m c → New ns d c
retired ns d m c calm_d w r = record {
  files = λ file k. now file k ∙ sym (after_opened ns d calm_d file k);
  idle = ⊎_elim (λ as_before. λ file k. with_some ns c (as_before ∙ w.journal) file k ∙ ap (byte_after ns file k) (now file k)
      ∙ after_twice ns file k (d.held file k) ∙ sym (now file k)) (λ none. with_none c none) r.name;
}
  where
    now : (file k : ℕ) → c.held file k ≡ byte_after ns file k (d.held file k)
    now file k = ap (λ h. h file k) r.held ∙ w.files file k

module _ (disk : State) (ns : List Note) (before es : List Event) (calm_before : CalmBefore disk ns before)
    (at : Follows (Written ns) (MayLeave disk before) (MayLeave disk es)) where
  pub written_new : Follows (New ns) (MayLeave disk before) (MayLeave disk es)
  written_new c left =
      let f = at c left in (f.0, f.1, retired ns f.0 c c (calm_before f.0 f.1) f.2 (record { held = refl; name = inl refl }))

  retired_new : Follows (New ns) (MayLeave disk before) (MayLeave disk (Retired ∷ es))
  retired_new c left = let f = at left.0 left.1 in (f.0, f.1, retired ns f.0 left.0 c (calm_before f.0 f.1) f.2 left.2)

  pub settled_moments : (gone new : List Event) (done : Bool) → gone ≡ Retired ∷ es → new ≡ NamesSynced done ∷ gone
      → EachMoment (Safe disk ns before) before es → EachMoment (Safe disk ns before) before new
  settled_moments gone new done g-is n-is all =
      let safe = new_safe disk ns before (Retired ∷ es) retired_new in
      next_moment (Safe disk ns before) before gone new (NamesSynced done) n-is
      (next_moment (Safe disk ns before) before es gone Retired g-is all safe)
      (safe_narrow disk ns before gone (NamesSynced done ∷ gone) (λ c left. left.0) refl (subst (Safe disk ns before) (sym g-is) safe))

  pub settled_new : (gone new : List Event) (done : Bool) → gone ≡ Retired ∷ es → new ≡ NamesSynced done ∷ gone
      → Follows (New ns) (MayLeave disk before) (MayLeave disk new)
  settled_new gone new done g-is n-is =
      subst (λ l. Follows (New ns) (MayLeave disk before) (MayLeave disk l)) (sym (n-is ∙ ap (λ l. NamesSynced done ∷ l) g-is))
      (λ c left. retired_new c left.0)

pub settled_gone : (es gone new : List Event) (r : Result ⊤ HostFault) → gone ≡ Retired ∷ es → new ≡ NamesSynced (is_ok r) ∷ gone
    → OnOk r (NoJournal new)
settled_gone es gone new (Ok t) g-is n-is =
    subst NoJournal (sym (n-is ∙ ap (λ l. NamesSynced true ∷ l) g-is)) (record { now = refl; later = λ disk c left. left.1 refl None refl })
settled_gone es gone new (Err e) g-is n-is = tt

-- ---- stretches of calls

module _ (disk : State) (ns : List Note) (before : List Event) (calm_before : CalmBefore disk ns before) where
  pub goes_on : (old new : List Event) (S T : State → State → Type 0) → Reached disk ns before S old → KeepsSafe ns S old new
      → Leads ns S T old new → Reached disk ns before T new
  goes_on old new S T r keeps leads = record { safe = keeps disk before calm_before r; left = leads disk before calm_before r }

  -- from a journal that is there to files that have its changes
  pub written_then : (published put synced : List Event) → Reached disk ns before (Writing ns) published → shown published ≡ Some ns
      → KeepsSafe ns (Writing ns) published put → Leads ns (Writing ns) (Writing ns) published put → shown put ≡ shown published
      → (shown put ≡ Some ns → KeepsSafe ns (Writing ns) put synced)
      → (shown put ≡ Some ns → Leads ns (Writing ns) (Written ns) put synced) → Reached disk ns before (Written ns) synced
  written_then published put synced r some keeps leads same syncs durable =
      goes_on put synced (Writing ns) (Written ns) (goes_on published put (Writing ns) (Writing ns) r keeps leads)
      (syncs (same ∙ some)) (durable (same ∙ some))

pub same_at_first : (disk : State) (es : List Event) → EachMoment (λ m. Follows SameRead (MayLeave disk es) (MayLeave disk m)) es es
same_at_first disk es = same_moment (λ m. Follows SameRead (MayLeave disk es) (MayLeave disk m)) es (λ c left. (c, left, λ file k. refl))

pub same_throughout : (ns : List Note) (old new : List Event) → shown old ≡ Some ns → SafeThroughout ns old new → SameThroughout old new
same_throughout ns old new some safe disk there =
    at_each (Safe disk ns old) (λ m. Follows SameRead (MayLeave disk old) (MayLeave disk m)) old new
    (λ m s c left. let f = s.old_or_new c left in (f.0, f.1, same_read ns f.0 c (there f.0 f.1 ∙ some) f.2))
    (safe disk (λ c left. inr (there c left)))

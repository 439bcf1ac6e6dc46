-- What stands at an offset of a slot, and one record further in a walk over it.
use Rattle.std.proofs.Common.{◌≡◌, subst, Bool, if◌then◌else◌, nat_lt, ◌∙◌, ap, sym, refl, ℕ, suc, ◌+◌, ◌-◌, ◌≤◌, ◌<◌, true, false, List}
use Rattle.std.proofs.Common.{[], ◌∷◌, ◌++◌, length, drop, take, length-drop, length-take, drop-drop, append_assoc, Option, Some, None}
use Rattle.std.proofs.Common.{Result, Ok, Err, arith}
use Rattle.std.proofs.lemmas.Bool.{ltb-true, ltb-false, lt-ltb, le-ltb}
use Rattle.std.proofs.lemmas.List.{append-nil}
use Rattle.ckd_track.specs.declared.fault.SlotFault.{SlotFault}
use Rattle.ckd_track.specs.declared.fault.SlotFault.TheVariants.{NoEnd, RecordPastEnd}
use Rattle.ckd_track.specs.Track.{Record, records_from, records_of, followed_by, behind_home_address, record_at, record_size, body_length}
use Rattle.ckd_track.specs.Track.{begins_with_end_mark, size_at, track_of, number_of_records, offsets_from, offsets_on, offsets_of}

-- What stands at an offset.

-- a record of this many bytes begins there
pub record IsSize (bytes : List ℕ) (size : ℕ) : Type 0 where
  pub is : size ≡ 8 + body_length bytes
  pub fits : size ≤ length bytes
  pub no_end_mark : begins_with_end_mark bytes ≡ false

-- what the answer says of the bytes there
abbrev pub Tells : ℕ → List ℕ → Result (Option ℕ) SlotFault → Type 0
Tells at bytes (Ok (Some size)) = IsSize bytes size
Tells at bytes (Ok None) = (8 ≤ length bytes) × (begins_with_end_mark bytes ≡ true)
Tells at bytes (Err (NoEnd offset)) = (offset ≡ at) × (length bytes < 8)
Tells at bytes (Err (RecordPastEnd offset)) =
    (offset ≡ at) × (8 ≤ length bytes) × (begins_with_end_mark bytes ≡ false) × (length bytes < 8 + body_length bytes)

pub size_tells : (at : ℕ) (bytes : List ℕ) (there : Result (Option ℕ) SlotFault) → size_at at bytes ≡ there → Tells at bytes there
size_tells at bytes there e =
    subst (Tells at bytes) e (by (nat_lt (length bytes) 8) (begins_with_end_mark bytes) (nat_lt (length bytes) (8 + body_length bytes)) refl
    refl refl)
  where
    by : (short mark past : Bool) → nat_lt (length bytes) 8 ≡ short → begins_with_end_mark bytes ≡ mark
        → nat_lt (length bytes) (8 + body_length bytes) ≡ past
        → Tells at bytes (if short then Err (NoEnd at) else (if mark then Ok None else (if past then Err (RecordPastEnd at) else Ok
        (Some (8 + body_length bytes)))))
    by true mark past s m p = (refl, ltb-true _ _ s)
    by false true past s m p = (ltb-false _ _ s, m)
    by false false true s m p = (refl, ltb-false _ _ s, m, ltb-true _ _ p)
    by false false false s m p = record { is = refl; fits = ltb-false _ _ p; no_end_mark = m }

pub told_size : (at : ℕ) (bytes : List ℕ) (there : Result (Option ℕ) SlotFault) → Tells at bytes there → size_at at bytes ≡ there
told_size at bytes (Ok (Some size)) t =
    rw (
      le-ltb (length bytes) 8 (omega (arith, t.is, t.fits)),
      t.no_end_mark,
      le-ltb (length bytes) (8 + body_length bytes)
          (omega (arith, t.is, t.fits)),
      t.is,
    ) refl
told_size at bytes (Ok None) t = rw (le-ltb (length bytes) 8 t.0, t.1) refl
told_size at bytes (Err (NoEnd offset)) t = rw (t.0, lt-ltb (length bytes) 8 t.1) refl
told_size at bytes (Err (RecordPastEnd offset)) t =
    rw (t.0, le-ltb (length bytes) 8 t.1, t.2, lt-ltb (length bytes) (8 + body_length bytes) t.3) refl

pub size_of_record_at : (size : ℕ) (bytes : List ℕ) → IsSize bytes size → record_size (record_at bytes) ≡ size
size_of_record_at size bytes is = omega (arith, is.is, is.fits, length-take {A = ℕ}, length-drop {A = ℕ})

-- One look in a walk.

-- the records read, once it is known what stands at the offset
abbrev pub read_on : Record → Result (List Record) SlotFault → Result (Option ℕ) SlotFault → Result (List Record) SlotFault
read_on r others (Ok (Some size)) = followed_by r others
read_on r others (Ok None) = Ok []
read_on r others (Err fault) = Err fault

pub read_step : (most at : ℕ) (bytes : List ℕ)
    → records_from (suc most) at bytes ≡ read_on (record_at bytes) (records_from most (at + (8 + body_length bytes))
    (drop (8 + body_length bytes) bytes)) (size_at at bytes)
unfolding records_from
read_step most at bytes = grind arith

-- the records read from an offset on, behind n others
abbrev pub walk : List ℕ → ℕ → ℕ → Result (List Record) SlotFault
walk s n at = records_from (length s - n) at (drop at s)

step : (s : List ℕ) (n at : ℕ) (there : Result (Option ℕ) SlotFault) → n < length s → size_at at (drop at s) ≡ there
    → walk s n at ≡ read_on (record_at (drop at s)) (walk s (n + 1) (at + (8 + body_length (drop at s)))) there
step s n at there lt e =
    let more : length s - n ≡ suc (length s - (n + 1)) = omega arith in
    rw (more, ← (drop-drop (8 + body_length (drop at s)) at s), ← e) (read_step (length s - (n + 1)) at (drop at s))

step_on : (s : List ℕ) (n at size : ℕ) → n < length s → size_at at (drop at s) ≡ Ok (Some size)
    → walk s n at ≡ followed_by (record_at (drop at s)) (walk s (n + 1) (at + size))
step_on s n at size lt e = rw (size_tells at (drop at s) _ e).is (step s n at _ lt e)

-- Where a walk begins.

-- a slot that is shorter than a home address
pub short_slot : (s : List ℕ) → length s < 5 → track_of s ≡ Err (NoEnd 0)
unfolding track_of
short_slot s short = rw (lt-ltb (length s) 5 short) refl

pub whole_slot : (s : List ℕ) → 5 ≤ length s → records_of s ≡ walk s 0 5
whole_slot s long = let all : length s - 0 ≡ length s = omega arith in rw (all, le-ltb (length s) 5 long) refl

-- Counting the records.

-- what is made of the records that were read, or the same fault
abbrev pub mapped : {A : Type 0} → (List Record → A) → Result (List Record) SlotFault → Result A SlotFault
mapped f (Ok rs) = Ok (f rs)
mapped f (Err fault) = Err fault

-- how many records were read after n others
abbrev pub counts : ℕ → Result (List Record) SlotFault → Result ℕ SlotFault
counts n = mapped (λ rs. n + length rs)

-- one record further, what is made of the others is made of all
followed : {A : Type 0} (f g : List Record → A) (r : Record) (others : Result (List Record) SlotFault)
    → ((rs : List Record) → f (r ∷ rs) ≡ g rs) → mapped f (followed_by r others) ≡ mapped g others
followed f g r (Ok rs) same = ap Ok (same rs)
followed f g r (Err fault) same = refl

number_on : (ha : List ℕ) (rs : Result (List Record) SlotFault) → counts 0 rs ≡ number_of_records (behind_home_address ha rs)
number_on ha (Ok rs) = ap Ok (omega arith)
number_on ha (Err fault) = refl

pub count_from : (s : List ℕ) → 5 ≤ length s → counts 0 (walk s 0 5) ≡ number_of_records (track_of s)
unfolding track_of
count_from s long = rw (← (whole_slot s long)) (number_on (take 5 s) (records_of s))

pub count_on : (s : List ℕ) (n at size : ℕ) → n < length s → size_at at (drop at s) ≡ Ok (Some size)
    → counts n (walk s n at) ≡ counts (n + 1) (walk s (n + 1) (at + size))
count_on s n at size lt e = ap (counts n) (step_on s n at size lt e) ∙ followed _ _ _ _ (λ rs. omega arith)

pub count_stops : (s : List ℕ) (n at : ℕ) → n < length s → size_at at (drop at s) ≡ Ok None → counts n (walk s n at) ≡ Ok n
count_stops s n at lt e = ap (counts n) (step s n at _ lt e) ∙ ap Ok (omega arith)

pub count_fails : (s : List ℕ) (n at : ℕ) (fault : SlotFault) → n < length s → size_at at (drop at s) ≡ Err fault
    → counts n (walk s n at) ≡ Err fault
count_fails s n at fault lt e = ap (counts n) (step s n at _ lt e)

pub short_number : (s : List ℕ) → length s < 5 → number_of_records (track_of s) ≡ Err (NoEnd 0)
short_number s short = ap number_of_records (short_slot s short)

pub size_within : (s : List ℕ) (at size : ℕ) → at ≤ length s → size_at at (drop at s) ≡ Ok (Some size)
    → (size_at at (drop at s) ≡ Ok (Some size)) × (8 ≤ size) × (at + size ≤ length s)
size_within s at size le e = let t = size_tells at (drop at s) _ e in (e, omega (arith, t.is), omega (arith, t.fits, length-drop at s))

-- what a walk that counts the records asks
pub ruleset counting = (short_number, size_within, count_from, count_on, count_stops, count_fails)

-- Noting the offsets.

-- the offsets noted so far and those of the records behind
abbrev pub noted : List ℕ → ℕ → Result (List Record) SlotFault → Result (List ℕ) SlotFault
noted so_far at = mapped (λ rs. so_far ++ offsets_from at rs)

offsets_are : (ha : List ℕ) (rs : Result (List Record) SlotFault) → noted [] 5 rs ≡ offsets_on (behind_home_address ha rs)
offsets_are ha (Ok rs) = refl
offsets_are ha (Err fault) = refl

pub note_from : (s : List ℕ) → 5 ≤ length s → noted [] 5 (walk s 0 5) ≡ offsets_of s
unfolding track_of
note_from s long = rw (← (whole_slot s long)) (offsets_are (take 5 s) (records_of s))

pub note_on : (s so_far : List ℕ) (n at size : ℕ) → n < length s → size_at at (drop at s) ≡ Ok (Some size)
    → noted so_far at (walk s n at) ≡ noted (so_far ++ at ∷ []) (at + size) (walk s (n + 1) (at + size))
note_on s so_far n at size lt e =
    let is = size_of_record_at size (drop at s) (size_tells at (drop at s) _ e) in
    ap (noted so_far at) (step_on s n at size lt e) ∙ rw (← is) (followed _ _ _ _ (λ rs. sym (append_assoc so_far (at ∷ []) _)))

pub note_stops : (s so_far : List ℕ) (n at : ℕ) → n < length s → size_at at (drop at s) ≡ Ok None → noted so_far at (walk s n at)
    ≡ Ok so_far
note_stops s so_far n at lt e = ap (noted so_far at) (step s n at _ lt e) ∙ ap Ok (append-nil so_far)

-- and one that notes their offsets
pub ruleset noting = (note_from, note_on, note_stops)

-- What is true of a file stays true behind a write.
use Rattle.std.proofs.Common.{◌≡◌, ◌⊎◌, inl, inr, ℕ, ◌+◌, ◌*◌, ◌<◌, ◌≤◌, ◌==◌, List, ◌++◌, length, get_or, Bool, true, false, Option}
use Rattle.std.proofs.Common.{Some, None, IfSome, option_map, if◌then◌else◌, ◌∙◌, sym, ap, ap₂, subst, refl, arith}
use Rattle.std.proofs.Common.{one-mul, zero-mul}
use Rattle.std.proofs.lemmas.Bool.{cases_lt}
use Rattle.std.proofs.lemmas.List.{get_or-replicate, length-replicate}
use Rattle.ckd_image.specs.Store.{overwritten}
use Rattle.dasd_files.specs.Parts.{PartsState, IsUnwritten, marked, numbered, parts_of, parts_to, part_of}
use Rattle.dasd_files.specs.Files.{FileState, IsFile, IsUnwrittenIn, byte_now, byte_then, file_of, last_number, next_number}
use Rattle.dasd_files.specs.Files.{parts_behind, past_behind}
use Rattle.dasd_files.proofs.Past.{all_written, earlier, kept_place, latest, longer_by_one, same_length, unwritten_before}

-- a file as it was made
pub made : (bytes : List ℕ) → IsFile (file_of bytes)
made bytes = record {
  as_made = λ _. refl;
  size = refl;
  some = tt;
  count = sym (one-mul (length bytes));
  first = λ i h. ap (λ k. get_or bytes k 0) (start i);
  last = λ i h. ap (λ k. get_or bytes k 0) (start i);
  unwritten = λ n i le h u. absurd u;
}
  where
    start : (i : ℕ) → 0 * length bytes + i ≡ i
    start i = omega (arith, zero-mul (length bytes))

-- parts that are watched from now on
pub now_watched : (f new : FileState) (lead size : ℕ) → 0 < size → IsFile f
    → new ≡ record f { parts = Some (parts_of lead size (length f.content) f.changes) } → IsFile new
now_watched f new lead size some is same = subst IsFile (sym same) (record {
  as_made = is.as_made;
  size = is.size;
  some = some;
  count = is.count;
  first = is.first;
  last = is.last;
  unwritten = λ n i le h u. at_last n i h (is_last n i le u);
})
  where
    p : PartsState
    p = parts_of lead size (length f.content) f.changes

    count : ℕ
    count = parts_to lead size (length f.content)

    is_last : (n i : ℕ) → n ≤ f.changes → IsUnwritten p n i → n ≡ f.changes
    is_last n i le u =
        let there : part_of p i < count = omega (arith, u.there, length-replicate count f.changes) in
        omega (arith, le, u.before, get_or-replicate count (part_of p i) f.changes 0 there)

    at_last : (n i : ℕ) → i < length f.content → n ≡ f.changes → byte_now f i ≡ byte_then f n i
    at_last n i h e = sym (ap (λ k. byte_then f k i) e ∙ is.last i h)

marked_in : (o : Option PartsState) (at len number n i : ℕ) → IfSome o (λ p. 0 < p.size) → n < number
    → IsUnwrittenIn (option_map (λ p. marked p at len number) o) n i → IsUnwrittenIn o n i × ((i < at) ⊎ (at + len ≤ i))
marked_in None at len number n i some above u = absurd u
marked_in (Some p) at len number n i some above u = unwritten_before p at len number n i some above u

-- all parts marked, as the numbers begin again
abbrev all_marked : PartsState → PartsState
all_marked p = record p { numbers = numbered p.numbers 0 (length p.numbers) 1 }

all_marked_in : (o : Option PartsState) (n i : ℕ) → n < 1
    → IsUnwrittenIn (option_map all_marked o) n i → ⊥
all_marked_in None n i above u = u
all_marked_in (Some p) n i above u = all_written p 1 n i above u

sizes_marked : (o : Option PartsState) (at len number : ℕ) → IfSome o (λ p. 0 < p.size)
    → IfSome (option_map (λ p. marked p at len number) o) (λ p. 0 < p.size)
sizes_marked None at len number some = tt
sizes_marked (Some p) at len number some = some

sizes_all : (o : Option PartsState) → IfSome o (λ p. 0 < p.size)
    → IfSome (option_map all_marked o) (λ p. 0 < p.size)
sizes_all None some = tt
sizes_all (Some p) some = some

-- a write that moved the number on
pub written : (old new : FileState) (at : ℕ) (bytes : List ℕ) → IsFile old → at + length bytes ≤ length old.content
    → new.content ≡ overwritten old.content at bytes → new.origin ≡ old.origin → new.changes ≡ next_number old.changes
    → new.past ≡ past_behind old.origin old.past old.changes new.content
    → new.parts ≡ option_map (parts_behind old.changes at (length bytes)) old.parts → IsFile new
written old new at bytes is within content origin changes past parts = by_number (old.changes == last_number) changes past parts
  where
    size : ℕ
    size = length old.content

    same : length new.content ≡ size
    same = ap length content ∙ same_length old.content bytes at within

    inside : (i : ℕ) → i < length new.content → i < size
    inside i h = omega (arith, h, same)

    first_row : length old.origin ≡ 1 * size
    first_row = is.size ∙ sym (one-mul size)

    kept : (i : ℕ) → (i < at) ⊎ (at + length bytes ≤ i) → byte_now new i ≡ byte_now old i
    kept i outside = ap (λ xs. get_or xs i 0) content ∙ kept_place old.content bytes at i within outside

    then_is : (held : List ℕ) → new.past ≡ held ++ new.content → (n i : ℕ)
        → byte_then new n i ≡ get_or (held ++ new.content) (n * size + i) 0
    then_is held past n i = ap₂ (λ (xs : List ℕ) (k : ℕ). get_or xs (n * k + i) 0) past same

    counted : (held : List ℕ) → new.past ≡ held ++ new.content → (n : ℕ) → length held ≡ n * size → new.changes ≡ n
        → length new.past ≡ (new.changes + 1) * length new.content
    counted held past n row is_n = ap length past ∙ longer_by_one held new.content size n row same
        ∙ ap₂ (λ (a b : ℕ). (a + 1) * b) (sym is_n) (sym same)

    at_this : (held : List ℕ) → new.past ≡ held ++ new.content → (n i : ℕ) → length held ≡ n * size → byte_now new i ≡ byte_then new n i
    at_this held past n i row = sym (then_is held past n i ∙ latest held new.content size n i row)

    at_last : (held : List ℕ) → new.past ≡ held ++ new.content → (n i : ℕ) → length held ≡ n * size → new.changes ≡ n
        → byte_then new new.changes i ≡ byte_now new i
    at_last held past n i row is_n = ap (λ k. byte_then new k i) is_n ∙ sym (at_this held past n i row)

    on : new.changes ≡ old.changes + 1 → new.past ≡ old.past ++ new.content
        → new.parts ≡ option_map (λ p. marked p at (length bytes) (old.changes + 1)) old.parts → IsFile new
    on changes past parts = record {
      as_made = λ zero. absurd (omega (arith, zero, changes));
      size = ap length origin ∙ is.size ∙ sym same;
      some = subst (λ o. IfSome o (λ p. 0 < p.size)) (sym parts) (sizes_marked old.parts at (length bytes) (old.changes + 1) is.some);
      count = counted old.past past (old.changes + 1) is.count changes;
      first = λ i h. then_is old.past past 0 i
          ∙ earlier old.past new.content size 0 (old.changes + 1) i is.count (omega arith) (inside i h)
          ∙ is.first i (inside i h) ∙ ap (λ (xs : List ℕ). get_or xs i 0) (sym origin);
      last = λ i h. at_last old.past past (old.changes + 1) i is.count changes;
      unwritten = λ n i le h u. by_time n i (omega (arith, le, changes)) h (subst (λ o. IsUnwrittenIn o n i) parts u) (cases_lt n
          (old.changes + 1));
    }
      where
        before : (n i : ℕ) → i < length new.content → n < old.changes + 1
            → IsUnwrittenIn old.parts n i × ((i < at) ⊎ (at + length bytes ≤ i)) → byte_now new i ≡ byte_then new n i
        before n i h below u = kept i u.1 ∙ is.unwritten n i (omega (arith, below)) (inside i h) u.0
            ∙ sym (then_is old.past past n i ∙ earlier old.past new.content size n (old.changes + 1) i is.count below (inside i h))

        by_time : (n i : ℕ) → n ≤ old.changes + 1 → i < length new.content
            → IsUnwrittenIn (option_map (λ p. marked p at (length bytes) (old.changes + 1)) old.parts) n i
            → (n < old.changes + 1) ⊎ (old.changes + 1 ≤ n) → byte_now new i ≡ byte_then new n i
        by_time n i le h u (inl below) = before n i h below (marked_in old.parts at (length bytes) (old.changes + 1) n i is.some below u)
        by_time n i le h u (inr above) =
            let e : n ≡ old.changes + 1 = omega (arith, le, above) in
            at_this old.past past (old.changes + 1) i is.count ∙ ap (λ k. byte_then new k i) (sym e)

    again : new.changes ≡ 1 → new.past ≡ old.origin ++ new.content
        → new.parts ≡ option_map all_marked old.parts → IsFile new
    again changes past parts = record {
      as_made = λ zero. absurd (omega (arith, zero, changes));
      size = ap length origin ∙ is.size ∙ sym same;
      some = subst (λ o. IfSome o (λ p. 0 < p.size)) (sym parts) (sizes_all old.parts is.some);
      count = counted old.origin past 1 first_row changes;
      first = λ i h. then_is old.origin past 0 i ∙ earlier old.origin new.content size 0 1 i first_row (omega arith) (inside i h)
          ∙ ap (λ k. get_or old.origin k 0) (start i) ∙ ap (λ (xs : List ℕ). get_or xs i 0) (sym origin);
      last = λ i h. at_last old.origin past 1 i first_row changes;
      unwritten = λ n i le h u. by_time n i (omega (arith, le, changes)) (subst (λ o. IsUnwrittenIn o n i) parts u) (cases_lt n 1);
    }
      where
        start : (i : ℕ) → 0 * size + i ≡ i
        start i = omega (arith, zero-mul size)

        by_time : (n i : ℕ) → n ≤ 1
            → IsUnwrittenIn (option_map all_marked old.parts) n i
            → (n < 1) ⊎ (1 ≤ n) → byte_now new i ≡ byte_then new n i
        by_time n i le u (inl below) = absurd (all_marked_in old.parts n i below u)
        by_time n i le u (inr above) =
            let e : n ≡ 1 = omega (arith, le, above) in
            at_this old.origin past 1 i first_row ∙ ap (λ k. byte_then new k i) (sym e)

    by_number : (b : Bool) → new.changes ≡ (if b then 1 else old.changes + 1)
        → new.past ≡ (if b then old.origin ++ new.content else old.past ++ new.content)
        → new.parts ≡ option_map (λ p. if b then record p { numbers = numbered p.numbers 0 (length p.numbers) 1 }
        else marked p at (length bytes) (old.changes + 1)) old.parts → IsFile new
    by_number true changes past parts = again changes past parts
    by_number false changes past parts = on changes past parts

-- What a file held at each number, and when its parts were written.
use Rattle.std.proofs.Common.{◌≡◌, ◌⊎◌, inl, inr, ℕ, ◌+◌, ◌-◌, ◌*◌, ◌/◌, ◌%◌, ◌<◌, ◌≤◌, suc, min, ◌∙◌, ap, arith}
use Rattle.std.proofs.Common.{List, ◌++◌, length, take, drop, replicate, get_or}
use Rattle.std.proofs.Common.{length-append, length-drop, length-take-le, get_or-take, get_or-drop, mul-le-mul_right, suc-mul, add-mul}
use Rattle.std.proofs.Common.{one-mul, le_trans, div-mul-le_self, div-add-mod'}
use Rattle.std.proofs.lemmas.List.{get_or_append_left, get_or-append_right, get_or-replicate, length-replicate}
use Rattle.std.proofs.lemmas.Nat.{div-mul-add, le-div}
use Rattle.std.proofs.lemmas.Bool.{cases_lt}
use Rattle.ckd_image.specs.Store.{overwritten}
use Rattle.dasd_files.specs.Parts.{PartsState, IsUnwritten, marked, numbered, part_of, parts_to}

-- how long the front and the middle of an overwritten list are
front_length : (old bytes : List ℕ) (at : ℕ) → at ≤ length old → length (take at old ++ bytes) ≡ at + length bytes
front_length old bytes at h = length-append (take at old) bytes ∙ ap (λ n. n + length bytes) (length-take-le at old h)

-- a place that a write does not touch
pub kept_place : (old bytes : List ℕ) (at i : ℕ) → at + length bytes ≤ length old → (i < at) ⊎ (at + length bytes ≤ i)
    → get_or (overwritten old at bytes) i 0 ≡ get_or old i 0
kept_place old bytes at i within (inl before) =
    let whole = front_length old bytes at (omega (arith, within)) in
    let front = length-take-le at old (omega (arith, within)) in
    get_or_append_left (take at old ++ bytes) (drop (at + length bytes) old) 0 i (omega (arith, whole, before))
    ∙ get_or_append_left (take at old) bytes 0 i (omega (arith, front, before)) ∙ get_or-take at old i 0 before
kept_place old bytes at i within (inr behind) =
    get_or-append_right (take at old ++ bytes) (drop (at + length bytes) old) (at + length bytes) i 0
    (front_length old bytes at (omega (arith, within))) behind
    ∙ get_or-drop (at + length bytes) old (i - (at + length bytes)) 0 ∙ ap (λ k. get_or old k 0) (omega (arith, behind))

-- the length stays
pub same_length : (old bytes : List ℕ) (at : ℕ) → at + length bytes ≤ length old → length (overwritten old at bytes) ≡ length old
same_length old bytes at within =
    let whole = front_length old bytes at (omega (arith, within)) in
    let rest = length-drop (at + length bytes) old in
    length-append (take at old ++ bytes) (drop (at + length bytes) old) ∙ omega (arith, whole, rest, within)

-- a place that is numbered
pub numbered_place : (numbers : List ℕ) (from to number i : ℕ) → from ≤ i → i < to → to ≤ length numbers
    → get_or (numbered numbers from to number) i 0 ≡ number
numbered_place numbers from to number i low high within =
    let bytes = replicate (to - from) number in
    let size : length bytes ≡ to - from = length-replicate (to - from) number in
    let whole = front_length numbers bytes from (omega (arith, low, high, within)) in
    get_or_append_left (take from numbers ++ bytes) (drop (from + length bytes) numbers) 0 i (omega (arith, whole, size, low, high))
    ∙ get_or-append_right (take from numbers) bytes from i 0 (length-take-le from numbers (omega (arith, low, high, within))) low
    ∙ get_or-replicate (to - from) (i - from) number 0 (omega (arith, low, high))

-- a place that is not
pub other_place : (numbers : List ℕ) (from to number i : ℕ) → from ≤ to → to ≤ length numbers → (i < from) ⊎ (to ≤ i)
    → get_or (numbered numbers from to number) i 0 ≡ get_or numbers i 0
other_place numbers from to number i order within (inl before) =
    let size = length-replicate (to - from) number in
    kept_place numbers (replicate (to - from) number) from i (omega (arith, size, order, within)) (inl before)
other_place numbers from to number i order within (inr behind) =
    let size = length-replicate (to - from) number in
    kept_place numbers (replicate (to - from) number) from i (omega (arith, size, order, within)) (inr (omega (arith, size, order, behind)))

pub same_count : (numbers : List ℕ) (from to number : ℕ) → from ≤ to → to ≤ length numbers
    → length (numbered numbers from to number) ≡ length numbers
same_count numbers from to number order within =
    let size = length-replicate (to - from) number in
    same_length numbers (replicate (to - from) number) from (omega (arith, size, order, within))

-- a byte behind another one lies in no part before that one's
pub part_low : (p : PartsState) (at i : ℕ) → 0 < p.size → at ≤ i → part_of p at ≤ part_of p i
part_low p at i some h =
    le-div (part_of p at) (i + p.lead) p.size some (le_trans (div-mul-le_self (at + p.lead) p.size) (omega (arith, h)))

-- and a byte before an end, in one before the end's
pub part_high : (p : PartsState) (end i : ℕ) → 0 < p.size → i < end → part_of p i < parts_to p.lead p.size end
part_high p end i some h =
    let q = part_of p i in
    let below = div-mul-le_self (i + p.lead) p.size in
    let next = suc-mul q p.size in
    le-div (suc q) (end + p.lead + (p.size - 1)) p.size some (omega (arith, below, next, some, h))

-- bytes that lie in one part mark that part alone
pub one_part : (p : PartsState) (at len number : ℕ) → 0 < p.size → 0 < (at + p.lead) % p.size + len → (at + p.lead) % p.size + len ≤ p.size
    → part_of p at < length p.numbers
    → record p { numbers = numbered p.numbers (part_of p at) (part_of p at + 1) number } ≡ marked p at len number
one_part p at len number some any within there =
    let q = part_of p at in
    let rest = (at + p.lead) % p.size + len - 1 in
    let start = div-add-mod' (at + p.lead) p.size in
    let next = suc-mul q p.size in
    let to : parts_to p.lead p.size (at + len) ≡ suc q =
    ap (λ n. n / p.size) (omega (arith, start, next, some, any)) ∙ div-mul-add (suc q) p.size rest (omega (arith, any, within)) in
    let end : q + 1 ≡ min (parts_to p.lead p.size (at + len)) (length p.numbers) = omega (arith, to, there) in
    ap (λ from. record p { numbers = numbered p.numbers from (q + 1) number }) {x = q} {y = min q (q + 1)} (omega arith)
    ∙ ap (λ to. record p { numbers = numbered p.numbers (min q to) to number }) end

-- a part's number behind a mark: this one where it was marked, else what it was
abbrev marked_to : PartsState → (at len : ℕ) → ℕ
marked_to p at len = min (parts_to p.lead p.size (at + len)) (length p.numbers)

abbrev marked_from : PartsState → (at len : ℕ) → ℕ
marked_from p at len = min (part_of p at) (marked_to p at len)

pub unwritten_before : (p : PartsState) (at len number n i : ℕ) → 0 < p.size → n < number → IsUnwritten (marked p at len number) n i
    → IsUnwritten p n i × ((i < at) ⊎ (at + len ≤ i))
unwritten_before p at len number n i some above u = by_low (cases_lt q from)
  where
    to : ℕ
    to = marked_to p at len

    from : ℕ
    from = marked_from p at len

    q : ℕ
    q = part_of p i

    order : from ≤ to
    order = omega arith

    within : to ≤ length p.numbers
    within = omega arith

    there : q < length p.numbers
    there = omega (arith, u.there, same_count p.numbers from to number order within)

    outside : (q < from) ⊎ (to ≤ q) → IsUnwritten p n i
    outside o = record { there = there; before = omega (arith, u.before, other_place p.numbers from to number q order within o) }

    inside : from ≤ q → q < to → ⊥
    inside low high = omega (arith, u.before, above, numbered_place p.numbers from to number q low high within)

    touched : at ≤ i → i < at + len → ⊥
    touched low high =
        let a = part_low p at i some low in
        let b = part_high p (at + len) i some high in
        inside (omega (arith, a)) (omega (arith, b, there))

    by_end : at ≤ i → (i < at + len) ⊎ (at + len ≤ i) → (i < at) ⊎ (at + len ≤ i)
    by_end low (inl high) = absurd (touched low high)
    by_end low (inr behind) = inr behind

    by_start : (i < at) ⊎ (at ≤ i) → (i < at) ⊎ (at + len ≤ i)
    by_start (inl before) = inl before
    by_start (inr low) = by_end low (cases_lt i (at + len))

    by_high : from ≤ q → (q < to) ⊎ (to ≤ q) → IsUnwritten p n i × ((i < at) ⊎ (at + len ≤ i))
    by_high low (inl high) = absurd (inside low high)
    by_high low (inr behind) = (outside (inr behind), by_start (cases_lt i at))

    by_low : (q < from) ⊎ (from ≤ q) → IsUnwritten p n i × ((i < at) ⊎ (at + len ≤ i))
    by_low (inl before) = (outside (inl before), by_start (cases_lt i at))
    by_low (inr low) = by_high low (cases_lt q to)

-- where all parts have a number, no byte is unwritten since an earlier one
pub all_written : (p : PartsState) (number n i : ℕ) → n < number
    → IsUnwritten (record p { numbers = numbered p.numbers 0 (length p.numbers) number }) n i → ⊥
all_written p number n i above u =
    let count = same_count p.numbers 0 (length p.numbers) number (omega arith) (omega arith) in
    let q = part_of p i in
    let high : q < length p.numbers = omega (arith, u.there, count) in
    omega (arith, u.before, above, numbered_place p.numbers 0 (length p.numbers) number q (omega arith) high (omega arith))

-- a byte of what was held at a number, and more behind it
pub earlier : (past more : List ℕ) (size n count i : ℕ) → length past ≡ count * size → n < count → i < size
    → get_or (past ++ more) (n * size + i) 0 ≡ get_or past (n * size + i) 0
earlier past more size n count i is below h =
    let row = mul-le-mul_right {m = suc n} {n = count} size below in
    let next = suc-mul n size in
    get_or_append_left past more 0 (n * size + i) (omega (arith, is, row, next, h))

pub latest : (past more : List ℕ) (size n i : ℕ) → length past ≡ n * size → get_or (past ++ more) (n * size + i) 0 ≡ get_or more i 0
latest past more size n i is =
    get_or-append_right past more (n * size) (n * size + i) 0 is (omega arith) ∙ ap (λ k. get_or more k 0) (omega arith)

pub longer_by_one : (past more : List ℕ) (size n : ℕ) → length past ≡ n * size → length more ≡ size → length (past ++ more) ≡ (n + 1) * size
longer_by_one past more size n is same = length-append past more ∙ omega (arith, is, same, add-mul n 1 size, one-mul size)

-- Numbers that are written and read back.
use Rattle.std.proofs.Common.{ℕ, ◌+◌, ◌-◌, ◌*◌, ◌^◌, ◌<◌, ◌≤◌, ◌≡◌, ◌==◌, ◌∙◌, List, [], ◌∷◌, ◌++◌, Bool, true, false, ◌&&◌, not, nat_lt}
use Rattle.std.proofs.Common.{nat_le, nat_eq}
use Rattle.std.proofs.Common.{ne_eqb, zero, suc, get_or, length, append-nil, length-append, codes, ap₂, if◌then◌else◌, Option, Some, None}
use Rattle.std.proofs.Common.{ap, refl, sym, arith, rules, lit<}
use Rattle.std.specs.List.{All, list_all, concat}
use Rattle.std.specs.Fmt.{decimal, digits}
use Rattle.std.specs.Str.{all_ascii_digits}
use Rattle.std.specs.Char.{is_ascii_digit}
use Rattle.std.proofs.lemmas.Bool.{le-ltb, and_parts, eqb-true, agree_below, agree_below_at}
use Rattle.std.proofs.lemmas.List.Elements.{All-head, All-tail}
use Rattle.std.proofs.Math.Bool.{and-false}
use Rattle.std.proofs.lemmas.List.Folds.{list_all-append}
use Rattle.std.proofs.lemmas.Bool.Decides.{nat_tests}
use Rattle.std.proofs.lemmas.Str.Parse.{IsNumeralModel, numerals_by_fold}
use Rattle.std.proofs.lemmas.Fmt.{digits_decimal, digits_value-decimal, length-decimal-le, decimal_nonempty}
use Rattle.counted_io.specs.Text.{hexadecimal, bytes_text}
use Rattle.set_forms.specs.Numbers.{digits_behind, number_of, byte_of, bytes_of, zeros, year_of, day_of, day_text}
use Rattle.set_forms.specs.Parsing.{is_note}
use Rattle.set_forms.specs.Laws.{IsDay}
use Rattle.volume_labels.specs.declared.fields.Date.{Date}
use Rattle.set_forms.proofs.Split.{is_inner, IsWord}

own : IsNumeralModel (λ ds. all_ascii_digits ds ≡ true) (digits_behind 0)
own = numerals_by_fold _ (search rules) digits_behind (search rules)

-- at most ten digits
of_digits : (most n : ℕ) (word : List ℕ) → all_ascii_digits word ≡ true → 0 < length word → length word ≤ 10
    → digits_behind 0 word ≡ n → n ≤ most → number_of most word ≡ Some n
unfolding number_of
of_digits most n word all some few value within =
    let is_some : nat_eq (length word) 0 ≡ false = ne_eqb (length word) 0 (λ e. omega arith) in
    let is_few : nat_lt 10 (length word) ≡ false = le-ltb 10 (length word) few in
    let inside : nat_lt most n ≡ false = le-ltb most n within in rw (is_some, is_few, all, value, inside) refl

-- a number
pub number_back : (most n : ℕ) → n ≤ most → n < 4294967296 → number_of most (decimal n) ≡ Some n
number_back most n within small =
    let wide : n < 2 ^ 64 = omega arith in
    of_digits most n (decimal n) (digits_decimal own n wide) (decimal_nonempty n wide) (length-decimal-le 10 n (lit< tt) (omega arith) wide)
    (digits_value-decimal own n wide) within

digit_inner : (c : ℕ) → is_ascii_digit c ≡ true → is_inner c ≡ true
digit_inner c is = grind (arith, nat_tests)

digits_inner : (word : List ℕ) → all_ascii_digits word ≡ true → list_all is_inner word ≡ true
digits_inner [] all = refl
digits_inner (c ∷ word) all =
    let both = and_parts (is_ascii_digit c) (all_ascii_digits word) all in rw (digit_inner c both.0, digits_inner word both.1) refl

pub number_digits : (n : ℕ) → n < 4294967296 → all_ascii_digits (decimal n) ≡ true
number_digits n small = digits_decimal own n (omega arith)

pub number_word : (n : ℕ) → n < 4294967296 → IsWord (decimal n)
number_word n small =
    let wide : n < 2 ^ 64 = omega arith in
    record { some = decimal_nonempty n wide; inner = digits_inner (decimal n) (digits_decimal own n wide) }

-- A byte in two digits.

unfoldable pub same : Option ℕ → ℕ → Bool
same (Some a) b = a == b
same None b = false

pub is_same : (a : Option ℕ) (b : ℕ) → same a b ≡ true → a ≡ Some b
unfolding same
is_same (Some a) b is = ap Some (eqb-true a b is)
is_same None b is = absurd (cc)

pub no_slash : ℕ → Bool
no_slash c = not (c == 47)

is_pair : List ℕ → ℕ → Bool
is_pair (high ∷ low ∷ []) b = same (byte_of high low) b && ((is_inner high && is_inner low) && (no_slash high && no_slash low))
is_pair digits b = false

pub record IsPair (digits : List ℕ) (b : ℕ) : Type 0 where
  pub high : ℕ
  pub low : ℕ
  pub are : digits ≡ high ∷ low ∷ []
  pub is : byte_of high low ≡ Some b
  pub inner_high : is_inner high ≡ true
  pub inner_low : is_inner low ≡ true
  pub no_slash_high : no_slash high ≡ true
  pub no_slash_low : no_slash low ≡ true

of_pair : (digits : List ℕ) (b : ℕ) → is_pair digits b ≡ true → IsPair digits b
unfolding is_pair
of_pair [] b is = absurd (cc)
of_pair (high ∷ []) b is = absurd (cc)
of_pair (high ∷ low ∷ []) b is =
    let both = and_parts (same (byte_of high low) b) ((is_inner high && is_inner low) && (no_slash high && no_slash low)) is in
    let four = and_parts (is_inner high && is_inner low) (no_slash high && no_slash low) both.1 in
    let inner = and_parts (is_inner high) (is_inner low) four.0 in
    let plain = and_parts (no_slash high) (no_slash low) four.1 in record {
      high = high;
      low = low;
      are = refl;
      is = is_same (byte_of high low) b both.0;
      inner_high = inner.0;
      inner_low = inner.1;
      no_slash_high = plain.0;
      no_slash_low = plain.1;
    }
of_pair (high ∷ low ∷ c ∷ digits) b is = absurd (cc)

each_is_pair : agree_below (λ b. is_pair (hexadecimal 2 b) b) (λ b. true) 256 ≡ true
unfolding is_pair same no_slash digits
each_is_pair = refl

pub pair_of_byte : (b : ℕ) → b < 256 → IsPair (hexadecimal 2 b) b
pair_of_byte b small = of_pair (hexadecimal 2 b) b (agree_below_at (λ b. is_pair (hexadecimal 2 b) b) (λ b. true) 256 b each_is_pair small)

-- Bytes in pairs of digits.

module _ (b : ℕ) (bytes : List ℕ) (p : IsPair (hexadecimal 2 b) b) where
  bytes_more : bytes_text (b ∷ bytes) ≡ p.high ∷ p.low ∷ bytes_text bytes
  bytes_more = rw p.are refl

pub bytes_back : (bytes : List ℕ) → All (λ b. b < 256) bytes → bytes_of (bytes_text bytes) ≡ Some bytes
bytes_back [] small = refl
bytes_back (b ∷ bytes) small =
    let p = pair_of_byte b (All-head (λ b. b < 256) b bytes small) in
    rw (bytes_more b bytes p, p.is, bytes_back bytes (All-tail (λ b. b < 256) b bytes small)) refl

pub bytes_inner : (bytes : List ℕ) → All (λ b. b < 256) bytes → list_all is_inner (bytes_text bytes) ≡ true
bytes_inner [] small = refl
bytes_inner (b ∷ bytes) small =
    let p = pair_of_byte b (All-head (λ b. b < 256) b bytes small) in
    rw (bytes_more b bytes p, p.inner_high, p.inner_low, bytes_inner bytes (All-tail (λ b. b < 256) b bytes small)) refl

bytes_no_slash : (bytes : List ℕ) → All (λ b. b < 256) bytes → list_all no_slash (bytes_text bytes) ≡ true
bytes_no_slash [] small = refl
bytes_no_slash (b ∷ bytes) small =
    let p = pair_of_byte b (All-head (λ b. b < 256) b bytes small) in
    rw (bytes_more b bytes p, p.no_slash_high, p.no_slash_low, bytes_no_slash bytes (All-tail (λ b. b < 256) b bytes small)) refl

slash_is_not : (c : ℕ) (b : Bool) → (c == 47) ≡ b → no_slash c ≡ true → (c == 47) ≡ false
unfolding no_slash
slash_is_not c true is none = absurd (let h = rw is at none in cc)
slash_is_not c false is none = is

no_slash_at : (word : List ℕ) (k : ℕ) → list_all no_slash word ≡ true → (get_or word k 0 == 47) ≡ false
no_slash_at [] k none = refl
no_slash_at (c ∷ word) zero none = slash_is_not c (c == 47) refl (and_parts (no_slash c) (list_all no_slash word) none).0
no_slash_at (c ∷ word) (suc k) none = no_slash_at word k (and_parts (no_slash c) (list_all no_slash word) none).1

-- so they are no note
pub bytes_are_no_note : (bytes : List ℕ) → All (λ b. b < 256) bytes → is_note (bytes_text bytes) ≡ false
bytes_are_no_note bytes small =
    let word = bytes_text bytes in cc (no_slash_at word (length word - 3) (bytes_no_slash bytes small), and-false (nat_le 3 (length word)))

pub length_of_bytes : (bytes : List ℕ) → All (λ b. b < 256) bytes → length (bytes_text bytes) ≡ 2 * length bytes
length_of_bytes [] small = refl
length_of_bytes (b ∷ bytes) small =
    let p = pair_of_byte b (All-head (λ b. b < 256) b bytes small) in
    rw (bytes_more b bytes p) (omega (arith, length_of_bytes bytes (All-tail (λ b. b < 256) b bytes small)))

-- Days.

-- a number with zeros before it
with_zeros : (n : ℕ) (word : List ℕ) (b c : Bool) → all_ascii_digits word ≡ true → 0 < length word → length word ≤ 5
    → digits_behind 0 word ≡ n → n ≤ 65535 → number_of 65535 ((if b then 48 ∷ 48 ∷ [] else (if c then 48 ∷ [] else [])) ++ word) ≡ Some n
with_zeros n word true c all some few value within = of_digits 65535 n (48 ∷ 48 ∷ word) all (omega arith) (omega arith) value within
with_zeros n word false true all some few value within = of_digits 65535 n (48 ∷ word) all (omega arith) (omega arith) value within
with_zeros n word false false all some few value within = of_digits 65535 n word all some (omega arith) value within

day_number : (n : ℕ) → n < 65536 → number_of 65535 (zeros n ++ decimal n) ≡ Some n
day_number n small =
    let wide : n < 2 ^ 64 = omega arith in
    with_zeros n (decimal n) (nat_le n 9) (nat_le n 99) (digits_decimal own n wide) (decimal_nonempty n wide)
    (length-decimal-le 5 n (lit< tt) (omega arith) wide) (digits_value-decimal own n wide) (omega arith)

years : agree_below (λ y. length (decimal (1900 + y)) == 4) (λ y. true) 256 ≡ true
unfolding digits
years = refl

year_back : (y : ℕ) → y < 256 → year_of (decimal (1900 + y)) ≡ Some y
year_back y small =
    let late : nat_lt (1900 + y) 1900 ≡ false = le-ltb (1900 + y) 1900 (omega arith) in
    let since : 1900 + y - 1900 ≡ y = omega arith in rw (number_back 2155 (1900 + y) (omega arith) (omega arith), late, since) refl

-- a year of four digits, and what stands behind a hyphen
of_parts : (d : Date) (year rest : List ℕ) → length year ≡ 4 → year_of year ≡ Some d.year → number_of 65535 rest ≡ Some d.day
    → day_of (year ++ 45 ∷ rest) ≡ Some d
unfolding day_of
of_parts d [] rest four year day = absurd (omega arith)
of_parts d (a ∷ []) rest four year day = absurd (omega arith)
of_parts d (a ∷ b ∷ []) rest four year day = absurd (omega arith)
of_parts d (a ∷ b ∷ c ∷ []) rest four year day = absurd (omega arith)
of_parts d (a ∷ b ∷ c ∷ e ∷ []) rest four year day =
    let other : (nat_eq a 45 && false) ≡ false = and-false (nat_eq a 45) in
    let long : nat_lt (length (a ∷ b ∷ c ∷ e ∷ 45 ∷ rest)) 5 ≡ false = le-ltb (length (a ∷ b ∷ c ∷ e ∷ 45 ∷ rest)) 5 (omega arith) in
    rw (other, long, year, day) refl
of_parts d (a ∷ b ∷ c ∷ e ∷ f ∷ year) rest four is day = absurd (omega arith)

no_day : (d : Date) → ((d.year == 0) && (d.day == 0)) ≡ true → day_of (codes "-") ≡ Some d
unfolding day_of
no_day d is =
    let both = and_parts (d.year == 0) (d.day == 0) is in
    let year : 0 ≡ d.year = sym (eqb-true d.year 0 both.0) in
    let day : 0 ≡ d.day = sym (eqb-true d.day 0 both.1) in ap₂ (λ (y n : ℕ). Some (record { year = y; day = n })) year day

pub day_back : (d : Date) → IsDay d → day_of (day_text d) ≡ Some d
unfolding day_text
day_back d is = go ((d.year == 0) && (d.day == 0)) refl
  where
    go : (b : Bool) → ((d.year == 0) && (d.day == 0)) ≡ b
        → day_of (if b then codes "-" else concat (decimal (1900 + d.year) ∷ codes "-" ∷ zeros d.day ∷ decimal d.day ∷ [])) ≡ Some d
    go true none = no_day d none
    go false some =
        let four : length (decimal (1900 + d.year)) ≡ 4 =
        eqb-true (length (decimal (1900 + d.year))) 4 (agree_below_at (λ y. length (decimal (1900 + y)) == 4)
        (λ y. true) 256 d.year years is.year) in
        rw (append-nil (decimal d.day)) (of_parts d (decimal (1900 + d.year)) (zeros d.day ++ decimal d.day) four (year_back d.year is.year)
        (day_number d.day is.day))

-- words that are made of words
pub inner_both : (first second : List ℕ) → list_all is_inner first ≡ true → list_all is_inner second ≡ true
    → list_all is_inner (first ++ second) ≡ true
inner_both first second a b = rw (list_all-append is_inner first second, a, b) refl

pub word_and : (first second : List ℕ) → IsWord first → list_all is_inner second ≡ true → IsWord (first ++ second)
word_and first second w b = record { some = simp length-append (omega arith); inner = inner_both first second w.inner b }

zeros_inner : (n : ℕ) → list_all is_inner (zeros n) ≡ true
zeros_inner n = go (nat_le n 9) (nat_le n 99)
  where
    go : (b c : Bool) → list_all is_inner (if b then 48 ∷ 48 ∷ [] else (if c then 48 ∷ [] else [])) ≡ true
    go true c = refl
    go false true = refl
    go false false = refl

pub day_word : (d : Date) → IsDay d → IsWord (day_text d)
unfolding day_text
day_word d is = go ((d.year == 0) && (d.day == 0))
  where
    go : (b : Bool) → IsWord (if b then codes "-" else concat (decimal (1900 + d.year) ∷ codes "-" ∷ zeros d.day ∷ decimal d.day ∷ []))
    go true = record { some = lit< tt; inner = refl }
    go false = rw (append-nil (decimal d.day)) (word_and (decimal (1900 + d.year)) (45 ∷ (zeros d.day ++ decimal d.day))
        (number_word (1900 + d.year) (omega (arith, is.year)))
        (inner_both (zeros d.day) (decimal d.day) (zeros_inner d.day) (number_word d.day (omega (arith, is.day))).inner))

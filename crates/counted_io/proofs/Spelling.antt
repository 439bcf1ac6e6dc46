-- A number's digits, one after another.
use Rattle.std.proofs.Common.{◌≡◌, ◌-◌, ◌/◌, ◌%◌, ◌^◌, ◌<◌, ◌≤◌, ℕ, zero, suc, List, [], ◌∷◌, ◌++◌, true, length, replicate, refl, sym, ap}
use Rattle.std.proofs.Common.{◌∙◌, append_assoc, length-append, subst, lit<, arith, cond, ⊎_elim, eq-eqb, ne_eqb}
use Rattle.std.specs.Fmt.{digits, digits_onto, digit_glyph}
use Rattle.std.proofs.Math.Nat.{pow-suc, pow-le-pow_right}
use Rattle.std.proofs.DigitsParse.{digits_onto-nil}
use Rattle.std.proofs.str.Laws.{order}
use Rattle.counted_io.specs.Text.{hexadecimal}

abbrev spell : ℕ → ℕ → List ℕ → List ℕ
spell k n acc = digits_onto k 16 true n acc

abbrev pub last_glyph : ℕ → ℕ
last_glyph n = digit_glyph true (n % 16)

spell_last : (k n : ℕ) (acc : List ℕ) → n < 16 → spell (suc k) n acc ≡ last_glyph n ∷ acc
spell_last k n acc h = ap (λ t. cond t (last_glyph n ∷ acc) (spell k (n / 16) (last_glyph n ∷ acc))) (eq-eqb (n / 16) 0 (omega arith))

spell_next : (k n : ℕ) (acc : List ℕ) → 16 ≤ n → spell (suc k) n acc ≡ spell k (n / 16) (last_glyph n ∷ acc)
spell_next k n acc h = ap (λ t. cond t (last_glyph n ∷ acc) (spell k (n / 16) (last_glyph n ∷ acc))) (ne_eqb (n / 16) 0 (λ e. omega arith))

spell_append : (k n : ℕ) (acc : List ℕ) → spell k n acc ≡ spell k n [] ++ acc
spell_append zero n acc = refl
spell_append (suc k) n acc = ⊎_elim
    (λ l. spell_last k n acc l ∙ ap (λ x. x ++ acc) (sym (spell_last k n [] l)))
    (λ l. spell_next k n acc l ∙ spell_append k (n / 16) (last_glyph n ∷ acc)
    ∙ sym (append_assoc (spell k (n / 16) []) (last_glyph n ∷ []) acc)
    ∙ ap (λ x. x ++ acc) (sym (spell_next k n [] l ∙ spell_append k (n / 16) (last_glyph n ∷ []))))
    (order n 16)

-- the limit of digits does not matter once it is large enough
spell_enough : (j k n : ℕ) (acc : List ℕ) → n < 16 ^ suc j → n < 16 ^ suc k → spell (suc j) n acc ≡ spell (suc k) n acc
spell_enough zero k n acc p q = spell_last zero n acc (omega arith) ∙ sym (spell_last k n acc (omega arith))
spell_enough (suc j) zero n acc p q = spell_last (suc j) n acc (omega arith) ∙ sym (spell_last zero n acc (omega arith))
spell_enough (suc j) (suc k) n acc p q = ⊎_elim
    (λ l. spell_last (suc j) n acc l ∙ sym (spell_last (suc k) n acc l))
    (λ l. spell_next (suc j) n acc l ∙ spell_enough j k (n / 16) (last_glyph n ∷ acc) (omega arith) (omega arith)
    ∙ sym (spell_next (suc k) n acc l))
    (order n 16)

one_digit : (n : ℕ) → n < 16 → digits 16 true n ≡ last_glyph n ∷ []
one_digit n h = sym (digits_onto-nil 16 true n) ∙ spell_last 63 n [] h

one_digit_more : (n : ℕ) → 16 ≤ n → n < 16 ^ 63 → digits 16 true n ≡ digits 16 true (n / 16) ++ (last_glyph n ∷ [])
one_digit_more n h small =
    sym (digits_onto-nil 16 true n) ∙ spell_next 63 n [] h ∙ spell_enough 62 63 (n / 16) (last_glyph n ∷ []) (omega arith) (omega arith)
    ∙ spell_append 64 (n / 16) (last_glyph n ∷ [])
    ∙ ap (λ l. l ++ (last_glyph n ∷ [])) (digits_onto-nil 16 true (n / 16))

abbrev zeros : ℕ → List ℕ
zeros k = replicate k 48

zeros_more : (k : ℕ) → zeros k ++ zeros 1 ≡ zeros (suc k)
zeros_more zero = refl
zeros_more (suc k) = ap (λ (l : List ℕ). 48 ∷ l) (zeros_more k)

-- the last digit of a number, behind those before it
last_of_more : (width n : ℕ) → 16 ≤ n → n < 16 ^ 8 → hexadecimal width n ≡ hexadecimal (width - 1) (n / 16) ++ last_glyph n ∷ []
last_of_more width n h small =
    let front : List ℕ = digits 16 true (n / 16) in
    let fewer : width - length (front ++ last_glyph n ∷ []) ≡ width - 1 - length front = simp length-append (omega arith) in
    ap (λ l. replicate (width - length l) 48 ++ l) (one_digit_more n h (omega arith))
    ∙ ap (λ k. replicate k 48 ++ (front ++ last_glyph n ∷ [])) fewer
    ∙ sym (append_assoc (replicate (width - 1 - length front) 48) front (last_glyph n ∷ []))

zero_alone : (n : ℕ) → n < 16 → digits 16 true (n / 16) ≡ 48 ∷ []
zero_alone n h = ap (digits 16 true) {x = n / 16} {y = 0} (omega arith) ∙ one_digit 0 (omega arith)

-- the last digit, behind the zeros before it
last_of_zeros : (width n : ℕ) → 2 ≤ width → n < 16 → hexadecimal width n ≡ hexadecimal (width - 1) (n / 16) ++ last_glyph n ∷ []
last_of_zeros width n h small =
    ap (λ l. replicate (width - length l) 48 ++ l) (one_digit n small)
    ∙ ap (λ k. replicate k 48 ++ last_glyph n ∷ []) {x = width - 1} {y = suc (width - 1 - 1)} (omega arith)
    ∙ ap (λ l. l ++ last_glyph n ∷ []) (sym (zeros_more (width - 1 - 1)) ∙ ap (λ l. replicate (width - 1 - length l) 48 ++ l)
    (sym (zero_alone n small)))

-- the last digit, behind the digits and zeros before it
pub last_behind : (width n : ℕ) → (n < 16 → 2 ≤ width) → n < 16 ^ 8 → hexadecimal width n ≡ hexadecimal (width - 1) (n / 16) ++ last_glyph n
    ∷ []
last_behind width n h small = ⊎_elim (λ l. last_of_zeros width n (h l) l) (λ l. last_of_more width n l small) (order n 16)

-- a digit alone
pub last_alone : (width n : ℕ) → width < 2 → n < 16 → hexadecimal width n ≡ last_glyph n ∷ []
last_alone width n h small =
    ap (λ l. replicate (width - length l) 48 ++ l) (one_digit n small) ∙ ap (λ k. replicate k 48 ++ last_glyph n ∷ []) {x = width - 1} {y =
    0} (omega arith)

-- without its last digit a number has one fewer
pub one_fewer : (n most : ℕ) → 0 < most → n < 16 ^ most → n / 16 < 16 ^ (most - 1)
one_fewer n zero h fits = absurd (omega arith)
one_fewer n (suc k) h fits = subst (λ j. n / 16 < 16 ^ j) {x = k} {y = suc k - 1} (omega arith) (omega (arith, pow-suc 16 k))

-- a number of two digits or more has room for two
two_places : (n most : ℕ) → 16 ≤ n → n < 16 ^ most → 2 ≤ most
two_places n zero h fits = absurd (omega arith)
two_places n (suc zero) h fits = absurd (omega arith)
two_places n (suc (suc k)) h fits = omega arith

-- where a digit is not alone there is room for two
pub two_at_least : (width n most : ℕ) → (n < 16 → 2 ≤ width) → width ≤ most → n < 16 ^ most → 2 ≤ most
two_at_least width n most h within fits = ⊎_elim (λ l. let w : 2 ≤ width = h l in omega arith) (λ l. two_places n most l fits) (order n 16)

-- eight digits are enough for any number that fewer are enough for
pub within_eight : (n most : ℕ) → most ≤ 8 → n < 16 ^ most → n < 16 ^ 8
within_eight n most short fits = omega (arith, pow-le-pow_right {n = 16} (lit< tt) short)

-- a byte is its two digits
pub two_digits : (byte : ℕ) → byte < 256 → hexadecimal 2 byte ≡ digit_glyph true (byte / 16) ∷ last_glyph byte ∷ []
two_digits byte h =
    last_behind 2 byte (λ l. omega arith) (omega arith)
    ∙ ap (λ l. l ++ last_glyph byte ∷ []) (last_alone 1 (byte / 16) (omega arith) (omega arith))
    ∙ ap (λ n. digit_glyph true n ∷ last_glyph byte ∷ []) {x = byte / 16 % 16} {y = byte / 16} (omega arith)

-- Numbers in digits: how large they are, and one digit more.
use Rattle.std.proofs.Common.{ℕ, ◌+◌, ◌*◌, ◌^◌, ◌<◌, ◌≤◌, ◌≡◌, ◌-◌, List, [], ◌∷◌, ◌++◌, Option, Some, None, option_map, length, get_or}
use Rattle.std.proofs.Common.{take, drop, append_assoc, ap, ◌∙◌, drop-cons, add-one, lit<, refl, arith}
use Rattle.std.proofs.Math.Nat.{pow-suc, pow-le-pow_right, mul-le-mul_right}
use Rattle.std.proofs.lemmas.List.{take_rest}
use Rattle.s360_deck.specs.Digits.{digit_of, number_behind, bytes_of}

-- one digit more
pub one_digit_more : (base value digit k : ℕ) → base ≤ 16 → digit < base → value < 16 ^ k → base * value + digit < 16 ^ (k + 1)
one_digit_more base value digit k small below fits =
    let power : 16 ^ (k + 1) ≡ 16 ^ k * 16 = rw add-one (pow-suc 16 k) in
    omega (arith, power, mul-le-mul_right value small)

-- eleven digits
pub eleven_digits : (value k : ℕ) → k ≤ 11 → value < 16 ^ k → value < 2 ^ 64
eleven_digits value k short fits = omega (arith, pow-le-pow_right {n = 16} (lit< tt) short)

-- the number behind which the next digit is read
pub next_digit : (value base digit : ℕ) (word : List ℕ) (k : ℕ) → k < length word → Some digit ≡ digit_of base (get_or word k 0)
    → number_behind value base (drop k word) ≡ number_behind (base * value + digit) base (drop (k + 1) word)
next_digit value base digit word k inside is = rw (drop-cons word k 0, ← is, add-one) refl

-- fewer digits are less
pub fewer_digits : (value k most : ℕ) → k ≤ most → value < 16 ^ k → value < 16 ^ most
fewer_digits value k most short fits = omega (arith, pow-le-pow_right {n = 16} (lit< tt) short)

paired : (bytes : List ℕ) (byte : ℕ) (more : Option (List ℕ)) → option_map (λ more. (bytes ++ byte ∷ []) ++ more) more
    ≡ option_map (λ more. bytes ++ more) (option_map (λ more. byte ∷ more) more)
paired bytes byte (Some more) = ap Some (append_assoc bytes (byte ∷ []) more)
paired bytes byte None = refl

-- one byte more, of two digits
pub one_byte_more : (bytes rest : List ℕ) (all : Option (List ℕ)) (high low : ℕ) → 2 ≤ length rest
    → Some high ≡ digit_of 16 (get_or rest 0 0) → Some low ≡ digit_of 16 (get_or rest 1 0)
    → option_map (λ more. bytes ++ more) (bytes_of rest) ≡ all → option_map (λ more. (bytes ++ (16 * high + low) ∷ []) ++ more)
    (bytes_of (take (length rest - 2) (drop 2 rest))) ≡ all
one_byte_more bytes [] all high low long first second is = absurd (omega arith)
one_byte_more bytes (a ∷ []) all high low long first second is = absurd (omega arith)
one_byte_more bytes (a ∷ b ∷ rest) all high low long first second is =
    rw (take_rest (a ∷ b ∷ rest) 2) (paired bytes (16 * high + low) (bytes_of rest) ∙ rw (← first, ← second) at is)

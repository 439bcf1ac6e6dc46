-- The pieces of a line of bytes.
use Rattle.std.proofs.Common.{ℕ, ◌+◌, ◌-◌, ◌/◌, ◌%◌, ◌^◌, ◌<◌, ◌≤◌, ◌≡◌, ◌∙◌, List, [], ◌∷◌, ◌++◌, true, refl, sym, ap, codes, append_assoc}
use Rattle.std.proofs.Common.{append-nil, arith}
use Rattle.std.specs.Fmt.{digit_glyph}
use Rattle.std.specs.List.{concat}
use Rattle.counted_io.proofs.Spelling.{last_glyph, last_behind, two_digits}
use Rattle.dasd_volumes.specs.Lines.{hexadecimal, line_feed}
use Rattle.dasd_volumes.proofs.Appended.{of_none, of_one_more}
use Rattle.dasd_archive.specs.Dump.{blanks_text}

-- the last two digits of a number
last_two : (n : ℕ) → hexadecimal 2 (n % 256) ≡ last_glyph (n / 16) ∷ last_glyph n ∷ []
last_two n =
    two_digits (n % 256) (omega arith)
    ∙ ap (λ k. digit_glyph true k ∷ last_glyph (n % 256) ∷ []) {x = n % 256 / 16} {y = n / 16 % 16} (omega arith)
    ∙ ap (λ k. last_glyph (n / 16) ∷ digit_glyph true k ∷ []) {x = n % 256 % 16} {y = n % 16} (omega arith)

-- a number's digits but the last two, and these
two_behind : (wide middle width n : ℕ) → wide - 1 ≡ middle → middle - 1 ≡ width → 1 ≤ width → n < 16 ^ 8
    → hexadecimal wide n ≡ hexadecimal width (n / 256) ++ hexadecimal 2 (n % 256)
two_behind wide middle width n first next some small =
    last_behind wide n (λ _. omega (arith, first, next, some)) small
    ∙ ap (λ w. hexadecimal w (n / 16) ++ last_glyph n ∷ []) first
    ∙ ap (λ l. l ++ last_glyph n ∷ []) (last_behind middle (n / 16) (λ _. omega (arith, next, some)) (omega (arith, small)))
    ∙ ap (λ w. (hexadecimal w (n / 16 / 16) ++ last_glyph (n / 16) ∷ []) ++ last_glyph n ∷ []) next
    ∙ append_assoc (hexadecimal width (n / 16 / 16)) (last_glyph (n / 16) ∷ []) (last_glyph n ∷ [])
    ∙ ap (λ m. hexadecimal width m ++ last_glyph (n / 16) ∷ last_glyph n ∷ []) {x = n / 16 / 16} {y = n / 256} (omega arith)
    ∙ ap (λ l. hexadecimal width (n / 256) ++ l) (sym (last_two n))

-- an offset of two bytes
offset_is : (n : ℕ) → n < 65536 → codes "00" ++ (hexadecimal 2 (n / 256) ++ hexadecimal 2 (n % 256)) ≡ hexadecimal 6 n
offset_is n small = sym (
    two_behind 6 5 4 n refl refl (omega arith) (omega (arith, small))
    ∙ ap (λ l. l ++ hexadecimal 2 (n % 256)) (
    two_behind 4 3 2 (n / 256) refl refl (omega arith) (omega (arith, small))
    ∙ ap (λ m. hexadecimal 2 m ++ hexadecimal 2 (n / 256 % 256)) {x = n / 256 / 256} {y = 0} (omega (arith, small))
    ∙ ap (λ m. hexadecimal 2 0 ++ hexadecimal 2 m) {x = n / 256 % 256} {y = n / 256} (omega (arith, small))
    ∙ ap (λ l. l ++ hexadecimal 2 (n / 256)) (two_digits 0 (omega arith))
    ))

-- how a line begins, piece by piece
pub front_is : (before : List ℕ) (letter n : ℕ) → n < 65536
    → (((((before ++ codes "    ") ++ letter ∷ []) ++ codes " 00") ++ hexadecimal 2 (n / 256)) ++ hexadecimal 2 (n % 256)) ++ codes "  "
    ≡ before ++ concat (codes "    " ∷ (letter ∷ []) ∷ codes " " ∷ hexadecimal 6 n ∷ codes "  " ∷ [])
front_is before letter n small = rw (sym (offset_is n small)) (simp (append_assoc))

-- a byte in its digits
pub digits_are : (before : List ℕ) (byte high low : ℕ) → byte < 256 → high ≡ digit_glyph true (byte / 16)
    → low ≡ digit_glyph true (byte % 16)
    → (before ++ high ∷ []) ++ low ∷ [] ≡ before ++ hexadecimal 2 byte
digits_are before byte high low fits first last =
    append_assoc before (high ∷ []) (low ∷ [])
    ∙ ap (λ (l : List ℕ). before ++ l) (ap (λ h. h ∷ low ∷ []) first ∙ ap (λ l. digit_glyph true (byte / 16) ∷ l ∷ []) last
    ∙ sym (two_digits byte fits))

-- blanks so far
pub no_blanks : (before : List ℕ) → before ≡ before ++ blanks_text 0
no_blanks before = sym (ap (λ l. before ++ l) (of_none (λ (k : ℕ). codes "   ")) ∙ append-nil before)

pub blanks_more : (before : List ℕ) (n : ℕ) → (before ++ blanks_text n) ++ codes "   " ≡ before ++ blanks_text (n + 1)
blanks_more before n = append_assoc before (blanks_text n) (codes "   ")
    ∙ ap (λ l. before ++ l) (sym (of_one_more (λ (k : ℕ). codes "   ") n))

-- a whole line, piece by piece
pub line_is : (letter offset spaced blanks characters : List ℕ)
    → ((((([] ++ concat (codes "    " ∷ letter ∷ codes " " ∷ offset ∷ codes "  " ∷ [])) ++ spaced) ++ blanks) ++ codes " ") ++ characters)
    ++ line_feed
    ≡ concat (codes "    " ∷ letter ∷ codes " " ∷ offset ∷ codes "  " ∷ spaced ∷ blanks ∷ codes " " ∷ characters ∷ line_feed ∷ [])
line_is letter offset spaced blanks characters = simp (append_assoc)

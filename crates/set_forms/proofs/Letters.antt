-- The words of organisations and record formats, written and read back.
use Rattle.std.proofs.Common.{ℕ, ◌+◌, ◌*◌, ◌/◌, ◌%◌, ◌<◌, ◌≡◌, ◌==◌, ◌∙◌, List, [], ◌∷◌, Bool, true, false, ◌&&◌, nat_lt, length, codes, ap}
use Rattle.std.proofs.Common.{refl, sym, lit<, arith, Some, if◌then◌else◌}
use Rattle.std.specs.List.{list_all}
use Rattle.std.specs.Fmt.{digits}
use Rattle.std.proofs.lemmas.Bool.{and_parts, eqb-true, ltb-true, agree_below, agree_below_at}
use Rattle.set_forms.specs.Words.{bits_text, byte_in, organisation_text, organisation_of, format_text, format_of}
use Rattle.set_forms.proofs.Split.{is_inner, IsWord}
use Rattle.set_forms.proofs.Digits.{same, is_same, pair_of_byte}

-- each record format is read back from its word

is_format_word : ℕ → Bool
is_format_word f = same (format_of (format_text f)) f && (nat_lt 0 (length (format_text f)) && list_all is_inner (format_text f))

each_is_read_back : agree_below is_format_word (λ f. true) 256 ≡ true
unfolding is_format_word same format_of format_text digits
each_is_read_back = refl

pub format_back : (f : ℕ) → f < 256 → format_of (format_text f) ≡ Some f
unfolding is_format_word
format_back f small =
    is_same (format_of (format_text f)) f (and_parts (same (format_of (format_text f)) f) (nat_lt 0 (length (format_text f))
    && list_all is_inner
    (format_text f)) (agree_below_at is_format_word (λ f. true) 256 f each_is_read_back small)).0

pub format_word : (f : ℕ) → f < 256 → IsWord (format_text f)
unfolding is_format_word
format_word f small = let both = and_parts (same (format_of (format_text f)) f) (nat_lt 0 (length (format_text f)) && list_all is_inner
    (format_text f)) (agree_below_at is_format_word (λ f. true) 256 f each_is_read_back small) in
    let two = and_parts (nat_lt 0 (length (format_text f))) (list_all is_inner (format_text f)) both.1 in
    record { some = ltb-true 0 (length (format_text f)) two.0; inner = two.1 }

-- an organisation in digits

bits_back : (n : ℕ) → n < 65536 → organisation_of (bits_text (n / 256 ∷ n % 256 ∷ [])) ≡ Some n
unfolding organisation_of
bits_back n small =
    let high = pair_of_byte (n / 256) (omega arith) in
    let low = pair_of_byte (n % 256) (omega arith) in
    let whole : 256 * (n / 256) + n % 256 ≡ n = omega arith in rw (high.are, low.are, high.is, low.is, whole) refl

bits_word : (n : ℕ) → n < 65536 → IsWord (bits_text (n / 256 ∷ n % 256 ∷ []))
bits_word n small =
    let high = pair_of_byte (n / 256) (omega arith) in
    let low = pair_of_byte (n % 256) (omega arith) in
    rw (high.are, low.are) record { some = omega arith; inner = rw (high.inner_high, high.inner_low, low.inner_high, low.inner_low) refl }

-- an organisation in letters

ps : organisation_of (codes "PS") ≡ Some 0x4000
unfolding organisation_of
ps = refl

po : organisation_of (codes "PO") ≡ Some 0x0200
unfolding organisation_of
po = refl

da : organisation_of (codes "DA") ≡ Some 0x2000
unfolding organisation_of
da = refl

is : organisation_of (codes "IS") ≡ Some 0x8000
unfolding organisation_of
is = refl

-- one of the words
abbrev word_by : (ps po da is : Bool) → (other : List ℕ) → List ℕ
word_by ps po da is other =
    if ps then codes "PS" else (if po then codes "PO" else (if da then codes "DA" else (if is then codes "IS" else other)))

named : (n bits : ℕ) (word : List ℕ) → organisation_of word ≡ Some bits → (n == bits) ≡ true → organisation_of word ≡ Some n
named n bits word is same = cc (is, eqb-true n bits same)

module _ (n : ℕ) (small : n < 65536) where
  back_by : (a b c d : Bool) → (n == 0x4000) ≡ a → (n == 0x0200) ≡ b → (n == 0x2000) ≡ c → (n == 0x8000) ≡ d
      → organisation_of (word_by a b c d (bits_text (n / 256 ∷ n % 256 ∷ []))) ≡ Some n
  back_by true b c d e f g h = named n 0x4000 (codes "PS") ps e
  back_by false true c d e f g h = named n 0x0200 (codes "PO") po f
  back_by false false true d e f g h = named n 0x2000 (codes "DA") da g
  back_by false false false true e f g h = named n 0x8000 (codes "IS") is h
  back_by false false false false e f g h = bits_back n small

  word_of : (a b c d : Bool) → IsWord (word_by a b c d (bits_text (n / 256 ∷ n % 256 ∷ [])))
  word_of true b c d = record { some = lit< tt; inner = refl }
  word_of false true c d = record { some = lit< tt; inner = refl }
  word_of false false true d = record { some = lit< tt; inner = refl }
  word_of false false false true = record { some = lit< tt; inner = refl }
  word_of false false false false = bits_word n small

  pub organisation_back : organisation_of (organisation_text n) ≡ Some n
  unfolding organisation_text
  organisation_back = back_by (n == 0x4000) (n == 0x0200) (n == 0x2000) (n == 0x8000) refl refl refl refl

  pub organisation_word : IsWord (organisation_text n)
  unfolding organisation_text
  organisation_word = word_of (n == 0x4000) (n == 0x0200) (n == 0x2000) (n == 0x8000)

-- a byte in digits

pub byte_back : (b : ℕ) → b < 256 → byte_in (bits_text (b ∷ [])) ≡ Some b
byte_back b small = let pair = pair_of_byte b small in rw (pair.are, pair.is) refl

pub byte_word : (b : ℕ) → b < 256 → IsWord (bits_text (b ∷ []))
byte_word b small =
    let pair = pair_of_byte b small in rw pair.are record { some = omega arith; inner = rw (pair.inner_high, pair.inner_low) refl }

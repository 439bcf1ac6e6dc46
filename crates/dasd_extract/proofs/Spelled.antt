-- Bytes of EBCDIC that are written as text, some after others.
use Rattle.std.proofs.Common.{ℕ, ◌+◌, ◌/◌, ◌%◌, ◌<◌, ◌≤◌, ◌≡◌, ◌∙◌, List, [], ◌∷◌, ◌++◌, length, take, drop, get_or, ap, sym, refl, subst}
use Rattle.std.proofs.Common.{append_assoc, append-nil, take-append-drop, Option, arith, le-ltb, lt-ltb}
use Rattle.std.proofs.Common.{true, map, nat_le, nat_lt, if◌then◌else◌}
use Rattle.std.proofs.lemmas.List.{flat_map_more, take_more}
use Rattle.std.proofs.lemmas.List.Concat.{flat_map-append}
use Rattle.std.proofs.KnownBytes.{Appends-trans, Appends-nil}
use Rattle.std.specs.Char.{encode_utf8}
use Rattle.std.specs.Io.KnownBytes.{Appends}
use Rattle.std.specs.List.{list_all}
use Rattle.std.proofs.lemmas.Bool.{and_parts, leb-true, lt-leb, ltb-true}
use Rattle.std.proofs.lemmas.List.Folds.{list_all-append}
use Rattle.volume_labels.specs.Ebcdic.{character_of}
use Rattle.dasd_extract.specs.Blocks.{is_control, is_printing, text_character, text_of}

-- some are written, and these are left
pub record AreLeft (before now : Option (List ℕ)) (bytes rest : List ℕ) : Type 0 where
  pub front : List ℕ
  pub whole : bytes ≡ front ++ rest
  pub written : Appends before now (text_of front)

pub all_left : (a : Option (List ℕ)) (bytes : List ℕ) → AreLeft a a bytes bytes
all_left a bytes = record { front = []; whole = refl; written = Appends-nil a }

pub fewer_left : (a b c : Option (List ℕ)) (bytes rest chunk behind : List ℕ) (n : ℕ) → chunk ≡ take n rest → behind ≡ drop n rest
    → AreLeft a b bytes rest → Appends b c (text_of chunk)
    → AreLeft a c bytes behind
fewer_left a b c bytes rest chunk behind n these those h written = record {
  front = h.front ++ take n rest;
  whole = h.whole ∙ ap (λ l. h.front ++ l) (sym (take-append-drop n rest)) ∙ sym (append_assoc h.front (take n rest) (drop n rest))
      ∙ ap (λ l. (h.front ++ take n rest) ++ l) (sym those);
  written = subst (Appends a c) (sym (flat_map-append (λ x. encode_utf8 (text_character x)) h.front (take n rest)))
      (Appends-trans a b c _ _ h.written (subst (λ l. Appends b c (text_of l)) these written));
}

pub none_left : (a b : Option (List ℕ)) (bytes rest : List ℕ) → rest ≡ [] → AreLeft a b bytes rest → Appends a b (text_of bytes)
none_left a b bytes rest e h = subst (λ l. Appends a b (text_of l)) (sym (h.whole ∙ ap (λ l. h.front ++ l) e ∙ append-nil h.front))
    h.written

-- a character more
pub character_more : (before bytes : List ℕ) (k : ℕ) → k < length bytes
    → (before ++ text_of (take k bytes)) ++ encode_utf8 (text_character (get_or bytes k 0)) ≡ before ++ text_of (take (k + 1) bytes)
character_more before bytes k inside =
    append_assoc before (text_of (take k bytes)) (encode_utf8 (text_character (get_or bytes k 0)))
    ∙ ap (λ l. before ++ l) (rw (take_more bytes k 0 inside) (flat_map_more (λ x. encode_utf8 (text_character x)) [] (take k bytes)
    (get_or bytes k 0)))

-- UTF-8 of one byte, and of two
pub one_byte : (c : ℕ) → c < 128 → encode_utf8 c ≡ c ∷ []
unfolding encode_utf8
one_byte c low = rw (lt-ltb c 128 low) refl

pub two_bytes : (c : ℕ) → 128 ≤ c → c < 256 → encode_utf8 c ≡ (192 + c / 64) ∷ (128 + c % 64) ∷ []
unfolding encode_utf8
two_bytes c high low = rw (le-ltb c 128 high, lt-ltb c 2048 (omega (arith, low))) refl

pub replacement : encode_utf8 0xFFFD ≡ 0xEF ∷ 0xBF ∷ 0xBD ∷ []
unfolding encode_utf8
replacement = refl

-- printing characters of ASCII are their own text
pub printing_text : (bytes : List ℕ) → list_all is_printing (map character_of bytes) ≡ true → map character_of bytes ≡ text_of bytes
printing_text [] all = refl
printing_text (byte ∷ bytes) all =
    let c = character_of byte in
    let both = and_parts (is_printing c) (list_all is_printing (map character_of bytes)) all in
    let range = and_parts (nat_le 32 c) (nat_lt c 127) both.0 in
    let low = leb-true 32 c range.0 in
    let high = ltb-true c 127 range.1 in
    let one : encode_utf8 (text_character byte) ≡ c ∷ [] = own_text c low high in
    ap (λ l. c ∷ l) (printing_text bytes both.1) ∙ ap (λ l. l ++ text_of bytes) (sym one)
  where
    own_text : (c : ℕ) → 32 ≤ c → c < 127 → encode_utf8 (if is_control c then 0xFFFD else c) ≡ c ∷ []
    own_text c low high =
        rw (le-ltb c 32 low, lt-leb 127 c high) (one_byte c (omega (arith, high)))

-- and the front of a room that has them
pub front_text : (room bytes : List ℕ) → take (length bytes) room ≡ map character_of bytes → list_all is_printing room ≡ true
    → take (length bytes) room ≡ text_of bytes
front_text room bytes front all =
    let split = list_all-append is_printing (take (length bytes) room) (drop (length bytes) room) in
    let whole = ap (list_all is_printing) (take-append-drop (length bytes) room) in
    let parts = and_parts (list_all is_printing (take (length bytes) room)) (list_all is_printing (drop (length bytes) room))
    (sym split ∙ whole ∙ all) in
    front ∙ printing_text bytes (ap (list_all is_printing) (sym front) ∙ parts.0)

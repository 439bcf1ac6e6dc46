-- What the holes of a format write.
use Rattle.std.proofs.Common.{ℕ, ◌-◌, ◌+◌, ◌*◌, ◌^◌, ◌≡◌, ◌∙◌, List, [], ◌∷◌, ◌++◌, append_assoc, true, false, length, take, drop, ap, sym}
use Rattle.std.proofs.Common.{refl, codes, arith, length-drop}
use Rattle.std.proofs.Math.Nat.{sub-zero}
use Rattle.std.proofs.lemmas.List.{take_at, append-nil, take-take, drop-take, take_min, take-append-drop}
use Rattle.std.proofs.lemmas.List.Concat.{flat_map-append}
use Rattle.std.specs.Prelude.{min, slice_range}
use Rattle.std.specs.Fmt.{digits, padded_integral, format_spec, char_count}
use Rattle.std.specs.List.{concat}
use Rattle.dasd_volumes.specs.Lines.{hexadecimal, bytes_text, address_text, line_feed}
use Rattle.ckd_track.specs.Track.{Record, IsRecord, count_area}

-- `{n:0widthX}`
pub padded_hexadecimal : (width n : ℕ) → padded_integral (format_spec 32 0 4 width (2 ^ 64 - 1)) false [] (digits 16 true n)
    ≡ hexadecimal width n
unfolding padded_integral char_count
padded_hexadecimal width n = simp (append-nil, sub-zero)

-- one piece more, of at most 32 bytes
pub one_piece_more : (bytes : List ℕ) (i size : ℕ) → size ≡ min 32 (length bytes - 32 * i)
    → bytes_text (take (32 * i) bytes) ++ bytes_text (slice_range bytes (32 * i) (32 * i + size)) ≡ bytes_text (take (32 * (i + 1)) bytes)
one_piece_more bytes i size is =
    sym (flat_map-append (hexadecimal 2) (take (32 * i) bytes) (slice_range bytes (32 * i) (32 * i + size)))
    ∙ ap bytes_text (ap (λ (l : List ℕ). take (32 * i) bytes ++ l) piece ∙ front ∙ ap (λ n. take n bytes) {x = 32 * i + 32} {y =
    32 * (i + 1)} (omega arith))
  where
    piece : slice_range bytes (32 * i) (32 * i + size) ≡ take 32 (drop (32 * i) bytes)
    piece =
        ap (λ n. take n (drop (32 * i) bytes)) {x = 32 * i + size - 32 * i} {y = size} (omega arith)
        ∙ ap (λ n. take n (drop (32 * i) bytes)) (is ∙ ap (λ n. min 32 n) (sym (length-drop (32 * i) bytes)))
        ∙ take_min 32 (drop (32 * i) bytes)

    front : take (32 * i) bytes ++ take 32 (drop (32 * i) bytes) ≡ take (32 * i + 32) bytes
    front =
        ap (λ (l : List ℕ). l ++ take 32 (drop (32 * i) bytes)) (sym (take-take (32 * i) (32 * i + 32) bytes (omega arith)))
        ∙ ap (λ (l : List ℕ). take (32 * i) (take (32 * i + 32) bytes) ++ l) (sym (drop-take (32 * i) 32 bytes))
        ∙ take-append-drop (32 * i) (take (32 * i + 32) bytes)

-- two numbers
pub padded_address : (cylinder head : ℕ)
    → padded_integral (format_spec 32 0 4 4 (2 ^ 64 - 1)) false [] (digits 16 true cylinder)
    ++ (codes " " ++ padded_integral (format_spec 32 0 4 4 (2 ^ 64 - 1)) false [] (digits 16 true head))
    ≡ address_text cylinder head
padded_address cylinder head = rw (padded_hexadecimal 4 cylinder, padded_hexadecimal 4 head) refl

-- the first five bytes of a count area
pub identifier_is : (count : List ℕ) (r : Record) → count ≡ count_area r → IsRecord r → take 5 count ≡ r.id
identifier_is count r is h = rw is (take_at r.id _ 5 h.id)

-- the parts of a record's line, as they were put together
pub record_is : (id key_length data_length : List ℕ)
    → (((((codes "  " ++ id) ++ codes " KL ") ++ key_length) ++ codes " DL ") ++ data_length) ++ line_feed
    ≡ concat (codes "  " ∷ id ∷ codes " KL " ∷ key_length ∷ codes " DL " ∷ data_length ∷ line_feed ∷ [])
record_is id key_length data_length = simp (append_assoc)

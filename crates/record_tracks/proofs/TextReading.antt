-- Blanks at the end of bytes of EBCDIC, and at the end of the text that these are.
use Rattle.std.proofs.Common.{◌≡◌, ◌≢◌, ◌∙◌, ◌<◌, ◌≤◌, ◌+◌, ◌-◌, ◌==◌, ℕ, zero, suc, Bool, true, false, cond, List, [], ◌∷◌, ◌++◌, length}
use Rattle.std.proofs.Common.{take, get_or, reverse, replicate, ap, refl, sym, subst, arith, append_assoc, append-nil, length-append}
use Rattle.std.proofs.Common.{inl, inr, ◌||◌, nat_lt, nat_le, ◌&&◌, ap₂, Option, Some, None, Ok, Err, ◌*◌, drop, Result, flat_map}
use Rattle.std.specs.{List.suffix_len, Str.is_utf8, Str.chars, Str.encode_utf8_all, Prelude.encode_utf8, Prelude.slice_range}
use Rattle.std.proofs.lemmas.List.{drop_all, take_at, get_or_past, reverse-append, reverse-reverse, take_all, take-append-le}
use Rattle.std.proofs.lemmas.List.{get_or-append_right, get_or_push, length-replicate, Sums.suffix_len-take_no, Quantifiers.position-Some}
use Rattle.std.proofs.{lemmas.List.Concat.flat_map-append, Math.Seq.take-append-add, Math.Seq.drop-append-add, Math.Seq.drop-append_seam}
use Rattle.std.proofs.lemmas.Bool.{eq-eqb, ne_eqb, eqb-true, ltb-false, cases_eq, cases_lt, cases_Bool, le-ltb, agree_below, agree_below_at}
use Rattle.std.proofs.lemmas.Str.{encode_ascii, inside_one, length-encode, len_utf8_bounds, encodes-chars, IsUtf8-from_is_utf8}
use Rattle.volume_labels.specs.{Ebcdic.code_page_037, Ebcdic.character_of, declared.records.RecordForm.TheVariants.Fixed}
use Rattle.volume_labels.specs.{Lines.is_blank, Lines.without_blanks, declared.records.Segment.TheVariants.Whole, Records.fixed_record}
use Rattle.dasd_extract.specs.Blocks.{text_character, text_of, is_control, line_of, lines_from, on_piece}
use Rattle.dasd_extract.specs.Written.{Written, these_bytes, behind}
use Rattle.record_tracks.specs.declared.text_faults.{TextLineFault.TextLineFault, TextRecordsFault.TextRecordsFault}
use Rattle.record_tracks.specs.{Codes.code_of, Codes.codes_of, Codes.line_codes, Codes.before, Lines.lines_of, Lines.in_front}
use Rattle.record_tracks.specs.TextRecords.{padded, record_with, record_of, and_records, records_from, records_of}
use Rattle.record_tracks.specs.Read.{ended, AreLinesOf, IsReadAsLines, IsReadAsText}
use Rattle.record_tracks.specs.Read as read

-- without the elements at the end that pass
abbrev pub cut : (ℕ → Bool) → List ℕ → List ℕ
cut p l = take (length l - suffix_len p l) l

module _ (p : ℕ → Bool) where
  pub cut_one : (l : List ℕ) (x : ℕ) → p x ≡ true → cut p (l ++ x ∷ []) ≡ cut p l
  cut_one l x passes =
      let counted : suffix_len p (l ++ x ∷ []) ≡ 1 + suffix_len p l = cc (reverse-append l (x ∷ [])) in
      ap (λ n. take n (l ++ x ∷ [])) {y = length l - suffix_len p l} (omega (arith, length-append l (x ∷ [])))
      ∙ take-append-le (length l - suffix_len p l) l (x ∷ []) (omega arith)

  -- the last element does not pass
  pub kept : (l : List ℕ) → 0 < length l → p (get_or l (length l - 1) 0) ≡ false → cut p l ≡ l
  kept l some fails =
      let none : suffix_len p l ≡ 0 =
      cc (take_all (length l) l (omega arith), suffix_len-take_no p l (length l) 0 some (omega arith) fails) in
      ap (λ n. take n l) {y = length l} (omega arith) ∙ take_all (length l) l (omega arith)

-- blanks behind bytes are cut with those at their end
pub filled : (n : ℕ) (l : List ℕ) → without_blanks (l ++ replicate n 0x40) ≡ without_blanks l
filled zero l = ap without_blanks (append-nil l)
filled (suc n) l = cc (append_assoc l (0x40 ∷ []) (replicate n 0x40), filled n (l ++ 0x40 ∷ []), cut_one is_blank l 0x40 refl)

-- A blank is a blank in both, and no other byte is.
blank_is : text_character 0x40 ≡ 32
unfolding code_page_037
blank_is = refl

blanks : agree_below (λ b. b == 0x40) (λ b. text_character b == 32) 256 ≡ true
unfolding code_page_037
blanks = refl

-- behind the table there is no character
past : (b : ℕ) → 256 ≤ b → text_character b ≡ 0xFFFD
unfolding code_page_037
past b outside = ap (λ c. cond (nat_lt c 32 || (nat_le 127 c && nat_lt c 160)) 0xFFFD c) (get_or_past code_page_037 b 0 outside)

only_blank : (b : ℕ) → text_character b ≡ 32 → b ≡ 0x40
only_blank b is = elim (cases_lt b 256) [
  | inl inside ↦ eqb-true b 0x40 (agree_below_at (λ b. b == 0x40) (λ b. text_character b == 32) 256 b blanks inside
      ∙ eq-eqb (text_character b) 32 is)
  | inr outside ↦ absurd (omega (arith, past b outside))
]

module _ (front : List ℕ) (b : ℕ) where
  text_more : text_of (front ++ b ∷ []) ≡ text_of front ++ encode_utf8 (text_character b)
  text_more = cc (flat_map-append (λ b. encode_utf8 (text_character b)) front (b ∷ []), append-nil (encode_utf8 (text_character b)))

  -- no other character ends with the byte of a blank
  last_byte : b ≢ 0x40 → (l : List ℕ) → l ≡ encode_utf8 (text_character b) → (get_or l (length l - 1) 0 == 32) ≡ false
  last_byte differs l is = ne_eqb (get_or l (length l - 1) 0) 32 (λ e. differs (only_blank b (character e)))
    where
      some : 1 ≤ length l
      some = omega (arith, ap length is, length-encode (text_character b), (len_utf8_bounds (text_character b)).0)

      character : get_or l (length l - 1) 0 ≡ 32 → text_character b ≡ 32
      character e = inside_one (text_character b) [] l (length l - 1) (is
          ∙ sym (append-nil (encode_utf8 (text_character b)))) (omega (arith, some, ap length is))
          (omega arith) ∙ e

  -- one byte more
  by_last : text_of (without_blanks front) ≡ read.without_blanks (text_of front)
      → text_of (without_blanks (front ++ b ∷ [])) ≡ read.without_blanks (text_of (front ++ b ∷ []))
  by_last h = elim (cases_eq b 0x40) [
    | inl same ↦ cc (
      cut_one is_blank front b (eq-eqb b 0x40 same),
      cut_one (λ it. it == 32) (text_of front) 32 refl,
      encode_ascii 32 (omega arith),
      ap (λ c. read.without_blanks (text_of front ++ encode_utf8 c)) {x = 32} (sym blank_is ∙ ap text_character (sym same)),
      text_more,
    )
    | inr differs ↦ cc (
      kept is_blank (front ++ b ∷ []) (omega (arith, length-append front (b ∷ [])))
          (rw (get_or_push front b 0 (length (front ++ b ∷ []) - 1) (omega (arith, length-append front (b ∷ []))))
          (ne_eqb b 0x40 differs)),
      text_more,
      kept (λ it. it == 32) (text_of front ++ row) (omega (arith, length-append (text_of front) row, some))
          (ap (λ d. d == 32) at_end ∙ last_byte differs row refl),
    )
  ]
    where
      row : List ℕ
      row = encode_utf8 (text_character b)

      some : 1 ≤ length row
      some = omega (arith, length-encode (text_character b), (len_utf8_bounds (text_character b)).0)

      at_end : get_or (text_of front ++ row) (length (text_of front ++ row) - 1) 0 ≡ get_or row (length row - 1) 0
      at_end = get_or-append_right (text_of front) row (length (text_of front)) (length (text_of front ++ row) - 1) 0 refl
          (omega (arith, length-append (text_of front) row, some))
          ∙ ap (λ n. get_or row n 0) (omega (arith, length-append (text_of front) row, some))

-- The blanks at the end of bytes are those at the end of their text.
cut_reversed : (rest : List ℕ) → text_of (without_blanks (reverse rest)) ≡ read.without_blanks (text_of (reverse rest))
cut_reversed [] = refl
cut_reversed (b ∷ rest) = subst (λ l. text_of (without_blanks l) ≡ read.without_blanks (text_of l)) (sym (reverse-append (b ∷ []) rest))
    (by_last (reverse rest) b (cut_reversed rest))

pub cut_text : (codes : List ℕ) → text_of (without_blanks codes) ≡ read.without_blanks (text_of codes)
cut_text codes = cc (reverse-reverse codes, cut_reversed (reverse codes))

-- the byte of a character is written as it
code_read : (c b : ℕ) → code_of c ≡ Some b → text_character b ≡ c
code_read c b is = elim (cases_Bool (is_control c)) [
  | inl e ↦ let none = rw e at is in absurd (cc)
  | inr e ↦
      let found = rw e at is in
      let same = eqb-true (character_of b) c (position-Some (λ (it : ℕ). it == c) code_page_037 b 0 found).1 in cc
]

parts : (a : Option ℕ) (x : Option (List ℕ)) (codes : List ℕ) → before a x ≡ Some codes
    → (b : ℕ) × (bs : List ℕ) × (a ≡ Some b) × (x ≡ Some bs) × (b ∷ bs ≡ codes)
parts None x codes e = absurd (cc)
parts (Some b) None codes e = absurd (cc)
parts (Some b) (Some bs) codes e = (b, bs, refl, refl, cc)

-- the bytes of characters are written as these
codes_read : (cs codes : List ℕ) → codes_of cs ≡ Some codes → text_of codes ≡ encode_utf8_all cs
unfolding codes_of
codes_read [] codes e = cc
codes_read (c ∷ cs) codes e =
    let p = parts (code_of c) (codes_of cs) codes e in
    ap text_of (sym p.4) ∙ ap₂ (λ (d : ℕ) (t : List ℕ). encode_utf8 d ++ t) (code_read c p.0 p.2) (codes_read cs p.1 p.3)

-- so a line is
line_read : (line codes : List ℕ) → line_codes line ≡ Some codes → text_of codes ≡ line
line_read line codes is = elim (cases_Bool (is_utf8 line)) [
  | inl e ↦ codes_read (chars line) codes (cc) ∙ encodes-chars line (IsUtf8-from_is_utf8 line e)
  | inr e ↦ let none = rw e at is in absurd (cc)
]

-- A record is as long as it is wanted, and is read as its line.
pub record IsRecord (size : ℕ) (line bytes : List ℕ) : Type 0 where
  pub long : length bytes ≡ size
  pub read : line_of bytes ≡ read.ended (read.without_blanks line)

pub is_record : (size : ℕ) (line bytes : List ℕ) → record_of size line ≡ Ok bytes → IsRecord size line bytes
is_record size line bytes is = with_codes (line_codes line) refl is
  where
    there : (codes : List ℕ) → line_codes line ≡ Some codes → length codes ≤ size → padded size codes ≡ bytes → IsRecord size line bytes
    there codes e short same = record {
      long = ap length (sym same) ∙ length-append codes (replicate (size - length codes) 0x40)
          ∙ ap (λ n. length codes + n) (length-replicate (size - length codes) 0x40) ∙ omega arith;
      read = cc (filled (size - length codes) codes, cut_text codes, line_read line codes e);
    }

    with_codes : (o : Option (List ℕ)) → line_codes line ≡ o → record_with size o ≡ Ok bytes → IsRecord size line bytes
    with_codes None e same = absurd cc
    with_codes (Some codes) e same = elim (cases_Bool (nat_lt size (length codes))) [
      | inl long ↦ let none = rw long at same in absurd cc
      | inr short ↦ let fits = rw short at same in there codes e (ltb-false size (length codes) short) cc
    ]

-- Bytes are the records of lines, one behind another.
pub record Joins (size : ℕ) (line : List ℕ) (bytes others : List ℕ) : Type 0 where
  pub first : List ℕ
  pub joined : bytes ≡ first ++ others
  pub is_record : IsRecord size line first

abbrev pub AreRecords : (size : ℕ) → (lines : List (List ℕ)) → (bytes : List ℕ) → Type 0
AreRecords size [] bytes = bytes ≡ []
AreRecords size (line ∷ lines) bytes = (others : List ℕ) × Joins size line bytes others × AreRecords size lines others

-- what they are read as
abbrev pub text_read : List (List ℕ) → List ℕ
text_read lines = flat_map (λ line. ended (read.without_blanks line)) lines

both : (number : ℕ) (r : Result (List ℕ) TextLineFault) (more : Result (List ℕ) TextRecordsFault) (bytes : List ℕ)
    → and_records number r more ≡ Ok bytes → (a : List ℕ) × (b : List ℕ) × (r ≡ Ok a) × (more ≡ Ok b) × (bytes ≡ a ++ b)
both number (Ok a) (Ok b) bytes e = (a, b, refl, refl, cc)
both number (Ok a) (Err f) bytes e = absurd (cc)
both number (Err f) more bytes e = absurd (cc)

pub are_records : (size number : ℕ) (lines : List (List ℕ)) (bytes : List ℕ) → records_from size number lines ≡ Ok bytes
    → AreRecords size lines bytes
unfolding records_from
are_records size number [] bytes e = cc
are_records size number (l ∷ ls) bytes e =
    let p = both number (record_of size l) (records_from size (number + 1) ls) bytes e in
    (p.1, record { first = p.0; joined = p.4; is_record = is_record size l p.0 p.2 }, are_records size (number + 1) ls p.1 p.3)

-- A part of them.

size_more : (size n k : ℕ) → k ≡ size → suc n * size ≡ k + n * size
size_more size n k e = omega arith

dropped : (size n : ℕ) (lines : List (List ℕ)) (bytes : List ℕ) → AreRecords size lines bytes
    → AreRecords size (drop n lines) (drop (n * size) bytes)
dropped size zero lines bytes h = let none : 0 ≡ 0 * size = omega arith in subst (λ k. AreRecords size lines (drop k bytes)) none h
dropped size (suc n) [] bytes h = cc (drop_all {X = ℕ} (suc n * size) [] (omega arith))
dropped size (suc n) (l ∷ ls) bytes h = subst (AreRecords size (drop n ls))
    (sym (cc (size_more size n (length h.1.first) h.1.is_record.long, drop-append-add h.1.first h.0 (n * size))))
    (dropped size n ls h.0 h.2)

taken : (size n : ℕ) (lines : List (List ℕ)) (bytes : List ℕ) → AreRecords size lines bytes
    → AreRecords size (take n lines) (take (n * size) bytes)
taken size zero lines bytes h = ap (λ k. take k bytes) {x = 0 * size} {y = 0} (omega arith)
taken size (suc n) [] bytes h = cc (take_all {A = ℕ} (suc n * size) [] (omega arith))
taken size (suc n) (l ∷ ls) bytes h = (
  take (n * size) h.0,
  record {
    first = h.1.first;
    joined = cc (size_more size n (length h.1.first) h.1.is_record.long, take-append-add h.1.first h.0 (n * size));
    is_record = h.1.is_record;
  },
  taken size n ls h.0 h.2,
)

-- A block of records, read from one of them on.
module _ (size track number : ℕ) (some : 1 ≤ size) where
  at_end : (block : List ℕ) (at : ℕ) → at ≡ length block → fixed_record size block at ≡ Ok None
  at_end block at e = rw (eq-eqb at (length block) e) refl

  there : (block : List ℕ) (at : ℕ) → at + size ≤ length block
      → fixed_record size block at ≡ Ok (Some (record { start = at; end = at + size; segment = Whole }))
  there block at within = rw (
    ne_eqb at (length block) (λ e. omega arith),
    ne_eqb size 0 (λ e. omega arith),
    le-ltb (length block - at) size (omega arith),
  ) refl

  none : (most : ℕ) (block : List ℕ) (at : ℕ) → at ≡ length block → lines_from most (Fixed size) track number block at ≡ these_bytes []
  unfolding lines_from
  none zero block at e = refl
  none (suc most) block at e = cc (at_end block at e)

  slice_there : (front rest first others : List ℕ) → rest ≡ first ++ others → length first ≡ size
      → slice_range (front ++ rest) (length front) (length front + size) ≡ first
  slice_there front rest first others e long =
      let far : length front + size - length front ≡ size = omega arith in cc (drop-append_seam front rest, take_at first others size long)

  read_from : (lines : List (List ℕ)) (front rest : List ℕ) (most : ℕ) → AreRecords size lines rest → length rest ≤ most
      → lines_from most (Fixed size) track number (front ++ rest) (length front) ≡ these_bytes (text_read lines)
  unfolding lines_from
  read_from [] front rest most h enough = none most (front ++ rest) (length front) (omega (arith, length-append front rest, ap length h))
  read_from (l ∷ ls) front rest zero h enough = absurd (omega (arith, some, ap length h.1.joined, length-append h.1.first h.0))
  read_from (l ∷ ls) front rest (suc most) h enough =
      ap (λ r. on_piece track number (front ++ rest) r (lines_from most (Fixed size) track number (front ++ rest)))
      (there (front ++ rest) (length front) (omega (arith, length-append front rest, long)))
      ∙ ap₂ (λ (t : List ℕ) (w : Written). behind None t w)
      (ap line_of (slice_there front rest h.1.first h.0 h.1.joined h.1.is_record.long) ∙ h.1.is_record.read)
      (ap₂ (λ (b : List ℕ) (a : ℕ). lines_from most (Fixed size) track number b a)
      (ap (λ r. front ++ r) h.1.joined ∙ sym (append_assoc front h.1.first h.0))
      (omega (arith, length-append front h.1.first)) ∙ read_from ls (front ++ h.1.first) h.0 most h.2 (omega (arith, long, some)))
    where
      long : length rest ≡ size + length h.0
      long = omega (arith, ap length h.1.joined, length-append h.1.first h.0)

-- each block of whole records
pub read_as_lines : (size : ℕ) (lines : List (List ℕ)) (bytes : List ℕ) → 1 ≤ size → AreRecords size lines bytes
    → IsReadAsLines size lines bytes
read_as_lines size lines bytes some h from count track number =
    let part = taken size count (drop from lines) (drop (from * size) bytes) (dropped size from lines bytes h) in
    read_from size track number some (take count (drop from lines)) [] (take (count * size) (drop (from * size) bytes))
    (length (take (count * size) (drop (from * size) bytes))) part (omega arith)

-- A line feed begins no line, and another byte is at the front of one.

fronted : (b : ℕ) (text : List ℕ) (lines : List (List ℕ)) → AreLinesOf text lines → AreLinesOf (b ∷ text) (in_front b lines)
fronted b text [] (inl e) = inr (ap (λ l. b ∷ l ++ 10 ∷ []) e)
fronted b text [] (inr e) = absurd (omega (arith, ap length e, length-append text (10 ∷ [])))
fronted b text (l ∷ ls) (inl e) = inl (ap (λ t. b ∷ t) e)
fronted b text (l ∷ ls) (inr e) = inr (ap (λ t. b ∷ t) e)

one_byte : (b : ℕ) (text : List ℕ) (lines : List (List ℕ)) (t : Bool) → (b == 10) ≡ t → AreLinesOf text lines
    → AreLinesOf (b ∷ text) (cond t ([] ∷ lines) (in_front b lines))
one_byte b text lines true e (inl h) = inl (cc (eqb-true b 10 e))
one_byte b text lines true e (inr h) = inr (cc (eqb-true b 10 e))
one_byte b text lines false e h = fronted b text lines h

are_lines : (text : List ℕ) → AreLinesOf text (lines_of text)
unfolding lines_of
are_lines [] = inl refl
are_lines (b ∷ text) = one_byte b text (lines_of text) (b == 10) refl (are_lines text)

pub read_as_text : (size : ℕ) (text bytes : List ℕ) → 1 ≤ size → records_of size text ≡ Ok bytes → IsReadAsText size text bytes
read_as_text size text bytes some is = record {
  lines = are_lines text;
  read = read_as_lines size (lines_of text) bytes some (are_records size 1 (lines_of text) bytes is);
}

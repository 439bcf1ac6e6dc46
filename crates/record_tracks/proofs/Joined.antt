-- The records of lines, one after another.
use Rattle.std.proofs.lemmas.{Bool.cases_Bool, Bool.lt-ltb, Bool.le-ltb, List.take_all, Str.is_utf8-from_IsUtf8, Str.IsUtf8-from_is_utf8}
use Rattle.std.proofs.Common.{⊎_elim, ◌≡◌, ◌∙◌, ◌<◌, ◌≤◌, ◌+◌, ◌-◌, ℕ, true, cond, List, [], ◌∷◌, ◌++◌, length, append_assoc}
use Rattle.std.proofs.Common.{append-nil, ap, refl, sym, arith, Some, None, Result, Ok, Err, replicate, length-append, take}
use Rattle.std.specs.Str.{is_utf8, chars, IsUtf8}
use Rattle.record_tracks.specs.declared.text_faults.TextLineFault.{TextLineFault, TheVariants.TooLong, TheVariants.NoCharacter}
use Rattle.record_tracks.specs.declared.text_faults.TextRecordsFault.{TextRecordsFault, TheVariants.Line}
use Rattle.record_tracks.specs.{Codes.codes_of, Codes.line_codes, Lines.lines_of, Putting.PutsCodes, Putting.PutsRecord}
use Rattle.record_tracks.specs.TextRecords.{padded, record_with, record_of, and_records, records_from, records_of}

-- these records before others, if there are such
abbrev pub joined : List ℕ → Result (List ℕ) TextRecordsFault → Result (List ℕ) TextRecordsFault
joined bytes (Ok others) = Ok (bytes ++ others)
joined bytes (Err fault) = Err fault

-- The records of a text are these, and then those of the lines of the rest, whose numbers follow this one.
abbrev pub JoinedTo : (size : ℕ) → (text : List ℕ) → (number : ℕ) → (rest bytes : List ℕ) → Type 0
JoinedTo size text number rest bytes = records_of size text ≡ joined bytes (records_from size (number + 1) (lines_of rest))

same : (r : Result (List ℕ) TextRecordsFault) → r ≡ joined [] r
same (Ok l) = refl
same (Err f) = refl

pub none_joined : (size : ℕ) (text : List ℕ) → JoinedTo size text 0 text []
none_joined size text = same (records_from size 1 (lines_of text))

shifted : (number : ℕ) (bytes record_bytes : List ℕ) (r : Result (List ℕ) TextRecordsFault)
    → joined bytes (and_records number (Ok record_bytes) r) ≡ joined (bytes ++ record_bytes) r
shifted number bytes record_bytes (Ok l) = ap Ok (sym (append_assoc bytes record_bytes l))
shifted number bytes record_bytes (Err f) = refl

module _ (size : ℕ) (text : List ℕ) (number : ℕ) (rest line after bytes : List ℕ) (h : JoinedTo size text number rest bytes)
    (split : lines_of rest ≡ line ∷ lines_of after) where
  next : records_of size text ≡ joined bytes (and_records (number + 1) (record_of size line)
      (records_from size (number + 1 + 1) (lines_of after)))
  unfolding records_from
  next = h ∙ ap (λ ls. joined bytes (records_from size (number + 1) ls)) split

  -- one line more
  pub one_joined : (now : List ℕ) → PutsRecord (record_of size line) bytes now None → JoinedTo size text (number + 1) after now
  one_joined now put = cc (next, shifted (number + 1) bytes put.0 (records_from size (number + 1 + 1) (lines_of after)))

  -- a line that is no record
  pub not_joined : (fault : TextLineFault) → record_of size line ≡ Err fault → records_of size text ≡ Err (Line (number + 1) fault)
  not_joined fault is = cc (next)

-- all lines are records
pub all_joined : (size : ℕ) (text : List ℕ) (number : ℕ) (rest bytes : List ℕ) → rest ≡ [] → JoinedTo size text number rest bytes
    → records_of size text ≡ Ok bytes
unfolding records_from lines_of
all_joined size text number rest bytes empty h =
    h ∙ ap (λ r. joined bytes (records_from size (number + 1) (lines_of r))) empty ∙ ap Ok (append-nil bytes)

-- The record of one line.
module _ (size : ℕ) (line : List ℕ) where
  codes_are : IsUtf8 line → line_codes line ≡ codes_of (chars line)
  codes_are is = ap (λ t. cond t (codes_of (chars line)) None) (is_utf8-from_IsUtf8 line is)

  -- a line that is not UTF-8
  pub not_utf8 : (IsUtf8 line → ⊥) → record_of size line ≡ Err NoCharacter
  not_utf8 not_one = ap (record_with size)
      (⊎_elim (λ e. absurd (not_one (IsUtf8-from_is_utf8 line e))) (ap (λ t. cond t (codes_of (chars line)) None))
      (cases_Bool (is_utf8 line)))

  -- a line with a character that has no byte
  pub no_byte : IsUtf8 line → codes_of (chars line) ≡ None → record_of size line ≡ Err NoCharacter
  no_byte is none = ap (record_with size) (codes_are is ∙ none)

  -- a line that is too long
  pub too_long : (bytes : List ℕ) → IsUtf8 line → codes_of (chars line) ≡ Some bytes → size < length bytes
      → record_of size line ≡ Err TooLong
  too_long bytes is some long = cc (codes_are is, lt-ltb size (length bytes) long)

  -- a line that fits
  pub is_record : (bytes : List ℕ) → IsUtf8 line → codes_of (chars line) ≡ Some bytes → length bytes ≤ size
      → record_of size line ≡ Ok (padded size bytes)
  is_record bytes is some short = cc (codes_are is, le-ltb size (length bytes) short)

-- The same, of what was put behind other bytes.
module _ (size : ℕ) (line text before now : List ℕ) (is : IsUtf8 line) (same_text : text ≡ line)
    (put : PutsCodes (codes_of (chars text)) before now true) where
  codes_there : codes_of (chars line) ≡ Some put.0
  codes_there = cc

  many : length now ≡ length before + length put.0
  many = ap length put.2 ∙ length-append before put.0

  pub is_too_long : size < length now - length before → record_of size line ≡ Err TooLong
  is_too_long long = too_long size line put.0 is codes_there (omega (arith, many))

  -- blanks are put behind its bytes
  pub is_filled : (after : List ℕ) (n : ℕ) → length now - length before ≤ size → n ≡ length before + size
      → after ≡ take n now ++ replicate (n - length now) 0x40 → PutsRecord (record_of size line) before after None
  is_filled after n short end e = (
    padded size put.0,
    is_record size line put.0 is codes_there (omega (arith, many)),
    (let left : n - length now ≡ size - length put.0 = omega (arith, many) in
        cc (take_all n now (omega (arith, many)), append_assoc before put.0 (replicate (size - length put.0) 0x40))),
  )

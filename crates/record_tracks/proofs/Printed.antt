-- The records of a text on tracks are read as its lines.
use Rattle.std.proofs.Common.{◌≡◌, ◌∙◌, ◌≤◌, ◌<◌, ◌+◌, ◌*◌, ◌==◌, ⊎_elim, ℕ, zero, suc, false, not, List, [], ◌∷◌, length, map, take}
use Rattle.std.proofs.Common.{drop, flat_map, ap, refl, arith, All, drop-drop, length-append, length-take, length-drop}
use Rattle.std.proofs.{Math.Bool.and-false, lemmas.List.take-append-drop, lemmas.List.drop_all, lemmas.List.Concat.flat_map-append}
use Rattle.std.proofs.lemmas.{Bool.le-ltb, Bool.cases_lt, Nat.mul-le, List.Elements.All-map}
use Rattle.ckd_track.specs.declared.model.DriveModel.{DriveModel}
use Rattle.volume_labels.specs.Layouts.{is_longer}
use Rattle.dasd_extract.specs.{declared.blocks.ExtractedForm.TheVariants.Text, Written.Written, Written.these_bytes}
use Rattle.dasd_extract.specs.Blocks.{number_of, records_written}
use Rattle.record_tracks.specs.{Records.Areas, Blocks.first_areas, Blocks.rests_to, Blocks.rests_of, Blocks.block_areas, Blocks.AreBlocks}
use Rattle.record_tracks.specs.{Tracks.record_with, declared.blocks.Cut.TheVariants.Length, Printed.layout_of, Printed.IsPrinted}
use Rattle.record_tracks.specs.{ReadBack.IsWrittenAs, declared.blocks.Cut.Cut, Lines.lines_of, Read.ended, Read.without_blanks}
use Rattle.record_tracks.proofs.{Rests.each_rest, Rests.none_left, Rests.one_more, Rests.length_fits, Texts.read_as}
use Rattle.record_tracks.proofs.TextReading.{AreRecords, are_records, read_as_lines}

-- a block that is not longer than the longest
no_longer : (longest n : ℕ) → n ≤ longest → is_longer longest n ≡ false
no_longer longest n within = cc (le-ltb longest n within, and-false (not (longest == 0)))

at_most : (a b size : ℕ) → 1 ≤ size → a * size ≤ b * size → a ≤ b
at_most a b size some within = ⊎_elim (λ (over : b < a). absurd (omega (arith, mul-le (b + 1) size a size (omega arith) (omega arith))))
    (λ (few : a ≤ b). few) (cases_lt b a)

long : (size : ℕ) (lines : List (List ℕ)) (bytes : List ℕ) → AreRecords size lines bytes → length bytes ≡ length lines * size
long size [] bytes h = ap length h ∙ omega arith
long size (l ∷ ls) bytes h = omega (arith, ap length h.1.joined, length-append h.1.first h.0, long size ls h.0 h.2)

module _ (size count : ℕ) (lines : List (List ℕ)) (bytes : List ℕ) (some : 1 ≤ size) (h : AreRecords size lines bytes) where
  abbrev cut : Cut
  cut = Length (count * size)

  abbrev line_text : List ℕ → List ℕ
  line_text line = ended (without_blanks line)

  -- what is written of a block
  abbrev text : Areas → List ℕ
  text a = (records_written (layout_of size count) 0 0 a.data_area).bytes

  -- the bytes behind so many records
  abbrev left : (from : ℕ) → List ℕ
  left from = drop (from * size) bytes

  as_lines : (from track number : ℕ) → records_written (layout_of size count) track number (take (count * size) (left from))
      ≡ these_bytes (flat_map line_text (take count (drop from lines)))
  as_lines from track number =
      let one = read_as_lines size lines bytes some h from count track number in
      cc (no_longer (count * size) (length (take (count * size) (left from))) (omega (arith, length-take (count * size) (left from))))

  text_is : (from : ℕ) → text (first_areas cut (left from)) ≡ flat_map line_text (take count (drop from lines))
  text_is from = ap (λ (w : Written). w.bytes) (as_lines from 0 0)

  -- each block begins behind some of the records
  abbrev Begins : List ℕ → Type 0
  Begins rest = (from : ℕ) × (rest ≡ left from)

  behind_block : (from : ℕ) → drop (count * size) (left from) ≡ left (from + count)
  behind_block from = drop-drop (count * size) (from * size) bytes ∙ ap (λ (n : ℕ). drop n bytes) {y = (from + count) * size} (grind arith)

  all_begin : All Begins (rests_of cut bytes)
  all_begin = each_rest Begins cut (length bytes) bytes (0, ap (λ (n : ℕ). drop n bytes) {x = 0} {y = 0 * size} (omega arith))
      (λ (rest : List ℕ) (at : Begins rest). (at.0 + count, cc (behind_block at.0)))

  one_written : (rest : List ℕ) → Begins rest → 1 ≤ length (first_areas cut rest).data_area
      → IsWrittenAs (Text (layout_of size count)) text (first_areas cut rest)
  one_written rest at there = record {
    some = there;
    written = λ track number id. rw at.1
        (cc (as_lines at.0 track (number_of (record_with id number (first_areas cut (left at.0)))), text_is at.0));
  }

  pub all_written : (model : DriveModel) → AreBlocks model cut bytes
      → All (IsWrittenAs (Text (layout_of size count)) text) (block_areas cut bytes)
  all_written model each = All-map (IsWrittenAs (Text (layout_of size count)) text) (first_areas cut) (rests_of cut bytes)
      (λ k d there. one_written _ (all_begin k d there) (each k d there).some)

  -- the blocks that are left have the lines that are left
  abbrev said : List (List ℕ) → List ℕ
  said rests = flat_map text (map (first_areas cut) rests)

  no_lines : (from most : ℕ) (rest : List ℕ) → rest ≡ left from → length rest ≤ 0
      → said (rests_to cut most rest) ≡ flat_map line_text (drop from lines)
  no_lines from most rest is none =
      let few : length lines ≤ from = at_most (length lines) from size some
      (omega (arith, ap length is, length-drop (from * size) bytes, long size lines bytes h)) in
      cc (none_left cut most rest none, drop_all from lines few)

  lines_left : (many : 1 ≤ count) (most from : ℕ) (rest : List ℕ) → rest ≡ left from → length rest ≤ most
      → said (rests_to cut most rest) ≡ flat_map line_text (drop from lines)
  lines_left many zero from rest is few = no_lines from 0 rest is few
  lines_left many (suc most) from [] is few = no_lines from (suc most) [] is (omega arith)
  lines_left many (suc most) from (b ∷ others) is few =
      let rest = b ∷ others in
      let n = count * size in
      let behind = drop n rest in
      let on = ap (drop n) is ∙ behind_block from in
      let taken : 1 ≤ n = mul-le 1 1 count size many some in cc (
        one_more cut most rest (omega arith),
        text_is from,
        lines_left many most (from + count) behind on (omega (arith, length-drop n rest)),
        flat_map-append line_text (take count (drop from lines)) (drop (from + count) lines),
        drop-drop count from lines,
        take-append-drop count (drop from lines),
      )

  pub all_text : 1 ≤ count → flat_map text (block_areas cut bytes) ≡ flat_map line_text lines
  all_text many = lines_left many (length bytes) 0 bytes (ap (λ (n : ℕ). drop n bytes) {x = 0} {y = 0 * size} (omega arith)) (omega arith)

pub is_printed : IsPrinted
is_printed g extents slots size count text tracks most has within =
    let lines = lines_of text in
    let are = are_records size 1 lines has.records has.are in
    let each = length_fits g.model (count * size) has.records (mul-le 1 1 count size has.many has.some) has.most in cc (
      read_as g.model (Length (count * size)) has.records each (Text (layout_of size count))
          (λ (a : Areas). (records_written (layout_of size count) 0 0 a.data_area).bytes) tracks g extents slots most
          (all_written size count lines has.records has.some are g.model each) has.takes refl within has.loaded,
      all_text size count lines has.records has.some are has.many,
    )

-- What the reader writes of the blocks of a file: its bytes.
use Rattle.std.proofs.Common.{◌≡◌, ap, refl, subst, ℕ, zero, suc, ◌+◌, ◌*◌, ◌/◌, ◌%◌, ◌≤◌, ◌<◌, List, [], ◌∷◌, length, map, take, drop}
use Rattle.std.proofs.Common.{flat_map, arith, All, length-take, length-drop}
use Rattle.std.proofs.{Math.Seq.take-add, lemmas.List.take-append-drop, lemmas.List.length-take-le}
use Rattle.std.proofs.lemmas.List.Elements.{All-head, All-tail, All-drop, All-map, All-nil, All-cons, All-append}
use Rattle.ckd_track.specs.declared.model.DriveModel.{DriveModel}
use Rattle.record_tracks.specs.{Records.Areas, Records.GoesOn, Records.end_of_file, ReadBack.IsWrittenAs, ReadBack.keyed_text}
use Rattle.record_tracks.specs.declared.blocks.Cut.{Cut, TheVariants.Length, TheVariants.Described, TheVariants.WithLengths}
use Rattle.record_tracks.specs.Blocks.{size_of, first_areas, rests_to, rests_of, block_areas, IsWhole, IsBlock, AreBlocks, areas_of}
use Rattle.record_tracks.specs.Extracted.{form_of, IsReadAs, IsReadBack}
use Rattle.record_tracks.proofs.{Reading.as_data, Reading.as_keyed, Reading.whole_read, Rests.none_left, Rests.one_more, Listed.end_goes}
use Rattle.dasd_extract.specs.declared.blocks.ExtractedForm.TheVariants.{Raw}
use Rattle.volume_labels.specs.Records.{number_at}

abbrev pub IsByte : ℕ → Type 0
IsByte byte = byte < 256

-- what is written of a block
abbrev pub text_of : Cut → Areas → List ℕ
text_of (Length size) a = a.data_area
text_of Described a = a.data_area
text_of WithLengths a = keyed_text a

-- lengths, key and data, one behind another
with_lengths : (k h l : ℕ) (others : List ℕ) → l < 256 → k + (h * 256 + l) ≤ length others
    → keyed_text (record { key_area = take k others; data_area = take (h * 256 + l) (drop k others) })
    ≡ 1 ∷ k ∷ h ∷ l ∷ take (k + (h * 256 + l)) others
with_lengths k h l others low within =
    let d = h * 256 + l in
    let key : length (take k others) ≡ k = length-take-le k others (omega arith) in
    let size : length (take d (drop k others)) ≡ d = length-take-le d (drop k others) (omega (arith, length-drop k others)) in
    let high : d / 256 ≡ h = omega arith in
    let rest : d % 256 ≡ l = omega arith in rw (key, size, high, rest, ← take-add k d others) refl

keyed_is : (bytes : List ℕ) → All IsByte bytes → IsWhole WithLengths bytes
    → keyed_text (first_areas WithLengths bytes) ≡ take (size_of WithLengths bytes) bytes
keyed_is [] are whole = absurd (omega arith)
keyed_is (a ∷ []) are whole = absurd (omega arith)
keyed_is (a ∷ b ∷ []) are whole = absurd (omega arith)
keyed_is (a ∷ b ∷ c ∷ []) are whole = absurd (omega arith)
keyed_is (a ∷ b ∷ c ∷ d ∷ others) are whole =
    let low : d < 256 = are 3 0 (omega arith) in
    let n = b + (c * 256 + d) in
    let far : 4 + b ≡ suc (suc (suc (suc b))) = omega arith in
    let all : 4 + n ≡ suc (suc (suc (suc n))) = omega arith in rw (far, all, whole.0) (with_lengths b c d others low (omega arith))

-- the text of the first block is the bytes that it takes
first_text : (model : DriveModel) (cut : Cut) (bytes : List ℕ) → All IsByte bytes → IsBlock model cut bytes
    → text_of cut (first_areas cut bytes) ≡ take (size_of cut bytes) bytes
first_text model (Length size) bytes are is = refl
first_text model Described bytes are is = refl
first_text model WithLengths bytes are is = keyed_is bytes are is.whole

-- and it takes some
some_taken : (model : DriveModel) (cut : Cut) (bytes : List ℕ) → IsBlock model cut bytes → 1 ≤ size_of cut bytes
some_taken model (Length size) bytes is = omega (arith, length-take size bytes)
some_taken model Described bytes is = omega (arith, length-take (number_at bytes 0) bytes)
some_taken model WithLengths bytes is = omega arith

-- All blocks, one behind another, are the bytes.
module _ (model : DriveModel) (cut : Cut) where
  abbrev said : List (List ℕ) → List ℕ
  said rests = flat_map (text_of cut) (map (first_areas cut) rests)

  all_text : (most : ℕ) (bytes : List ℕ) → length bytes ≤ most → All IsByte bytes → All (IsBlock model cut) (rests_to cut most bytes)
      → said (rests_to cut most bytes) ≡ bytes
  all_text zero [] few are each = ap said (none_left cut 0 [] (omega arith))
  all_text zero (b ∷ others) few are each = absurd (omega arith)
  all_text (suc most) [] few are each = ap said (none_left cut (suc most) [] (omega arith))
  all_text (suc most) (b ∷ others) few are each =
      let bytes = b ∷ others in
      let n = size_of cut bytes in
      let behind = drop n bytes in
      let more = one_more cut most bytes (omega arith) in
      let blocks = subst (All (IsBlock model cut)) more each in
      let first = All-head (IsBlock model cut) bytes (rests_to cut most behind) blocks in cc (
        first_text model cut bytes are first,
        all_text most behind (omega (arith, some_taken model cut bytes first, length-drop n bytes)) (All-drop IsByte n bytes are)
            (All-tail (IsBlock model cut) bytes (rests_to cut most behind) blocks),
        take-append-drop n bytes,
      )

pub blocks_text : (model : DriveModel) (cut : Cut) (bytes : List ℕ) → All IsByte bytes → AreBlocks model cut bytes
    → flat_map (text_of cut) (block_areas cut bytes) ≡ bytes
blocks_text model cut bytes are each = all_text model cut (length bytes) bytes (omega arith) are each

-- each block has its text, in the form of the file
has_text : (model : DriveModel) (cut : Cut) (rest : List ℕ) → IsBlock model cut rest
    → IsWrittenAs (form_of cut) (text_of cut) (first_areas cut rest)
has_text model (Length size) rest is = as_data Raw (first_areas (Length size) rest) is.some
has_text model Described rest is = as_data Raw (first_areas Described rest) is.some
has_text model WithLengths rest is = as_keyed (first_areas WithLengths rest) is.some

pub have_texts : (model : DriveModel) (cut : Cut) (bytes : List ℕ) → AreBlocks model cut bytes
    → All (IsWrittenAs (form_of cut) (text_of cut)) (block_areas cut bytes)
have_texts model cut bytes each = All-map (IsWrittenAs (form_of cut) (text_of cut)) (first_areas cut) (rests_of cut bytes)
    (λ k d there. has_text model cut _ (each k d there))

module _ (model : DriveModel) (cut : Cut) (bytes : List ℕ) (each : AreBlocks model cut bytes) where
  -- each goes on a track, the end of file too
  pub all_go : All (GoesOn model) (areas_of cut bytes)
  all_go = All-append (GoesOn model) (block_areas cut bytes) (end_of_file ∷ [])
      (All-map (GoesOn model) (first_areas cut) (rests_of cut bytes) (λ k d there. (each k d there).goes))
      (All-cons (GoesOn model) end_of_file [] (end_goes model) (All-nil (GoesOn model)))

  pub read_as : IsReadAs model cut bytes
  read_as form text tracks g extents slots most are takes same within loaded =
      whole_read model (block_areas cut bytes) tracks all_go takes form text g extents slots most are same within loaded

  pub read_back : All IsByte bytes → IsReadBack model cut bytes
  read_back are tracks g extents slots most takes same within loaded =
      let one = blocks_text model cut bytes are each in
      cc (read_as (form_of cut) (text_of cut) tracks g extents slots most (have_texts model cut bytes each) takes same within loaded)

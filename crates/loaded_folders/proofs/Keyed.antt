-- Records of a file, one behind another with their lengths and their keys.
use Rattle.std.proofs.Common.{◌≡◌, ◌∙◌, ap, sym, ℕ, ◌+◌, ◌-◌, ◌≤◌, List, [], ◌∷◌, length, take, arith, length-append}
use Rattle.std.specs.List.{flat_map}
use Rattle.std.proofs.Math.Seq.{take-append_seam}
use Rattle.std.proofs.lemmas.List.{take-map}
use Rattle.std.proofs.lemmas.List.Folds.{flat_map-map}
use Rattle.record_tracks.specs.Records.{areas_of, all_areas, end_of_file}
use Rattle.record_tracks.specs.ReadBack.{keyed_text}
use Rattle.record_tracks.specs.declared.records.NewRecord.{NewRecord}
use Rattle.record_tracks.proofs.Listed.{length-all}
use Rattle.record_tracks.specs.declared.blocks.Cut.{Cut}
use Rattle.record_tracks.specs.Blocks as file
use Rattle.loaded_folders.specs.Contents.{all_keyed}

-- the records of a file: its blocks, and an end of file behind them
module _ (records : List NewRecord) (cut : Cut) (bytes : List ℕ) (is : all_areas records ≡ file.areas_of cut bytes) where
  counted : length records ≡ length (file.block_areas cut bytes) + 1
  counted = sym (length-all records) ∙ ap length is ∙ length-append (file.block_areas cut bytes) (end_of_file ∷ [])

  pub some : 1 ≤ length records
  some = omega (arith, counted)

  before_last : length records - 1 ≡ length (file.block_areas cut bytes)
  before_last = omega (arith, counted)

  blocks : all_areas (take (length records - 1) records) ≡ file.block_areas cut bytes
  blocks =
      sym (take-map areas_of (length records - 1) records) ∙ ap (take (length records - 1)) is
      ∙ ap (λ (n : ℕ). take n (file.areas_of cut bytes)) before_last
      ∙ take-append_seam (file.block_areas cut bytes) (end_of_file ∷ [])

  pub spelled_before : flat_map (λ (b : NewRecord). keyed_text (areas_of b)) (take (length records - 1) records)
      ≡ all_keyed (file.block_areas cut bytes)
  spelled_before = sym (flat_map-map keyed_text areas_of (take (length records - 1) records)) ∙ ap all_keyed blocks

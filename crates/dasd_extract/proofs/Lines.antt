-- The records of a block, written one after another.
use Rattle.std.proofs.Common.{ℕ, suc, ◌+◌, ◌-◌, ◌<◌, ◌≤◌, ◌≡◌, ◌∙◌, List, [], ◌++◌, length, Option, None, Result, ap, sym, refl, append-nil}
use Rattle.std.proofs.Common.{append_assoc, arith}
use Rattle.std.specs.Io.KnownBytes.{Appends}
use Rattle.volume_labels.specs.declared.records.RecordForm.{RecordForm}
use Rattle.volume_labels.specs.declared.records.RecordFault.{RecordFault}
use Rattle.volume_labels.specs.declared.records.Piece.{Piece}
use Rattle.volume_labels.specs.Records.{next_record}
use Rattle.dasd_extract.specs.declared.stops.Stop.{Stop}
use Rattle.dasd_extract.specs.Written.{Written, nothing, behind, Writes}
use Rattle.dasd_extract.specs.Blocks.{lines_from, on_piece}

module _ (form : RecordForm) (track number : ℕ) (block : List ℕ) where
  more_lines : (most at : ℕ) → lines_from (suc most) form track number block at ≡ on_piece track number block (next_record form block at)
      (lines_from most form track number block)
  unfolding lines_from
  more_lines most at = refl

  no_lines : (at : ℕ) → lines_from 0 form track number block at ≡ nothing
  unfolding lines_from
  no_lines at = refl

  module _ (k at : ℕ) where
    -- what is left when the steps are done
    pub last_step : length block ≤ k → lines_from (length block - k) form track number block at ≡ nothing
    last_step passed =
        let e : length block - k ≡ 0 = omega (arith, passed) in
        ap (λ m. lines_from m form track number block at) e ∙ no_lines at

    -- the next step, by what stands there
    pub this_step : (r : Result (Option Piece) RecordFault) → r ≡ next_record form block at → k < length block
        → lines_from (length block - k) form track number block at ≡ on_piece track number block r
        (lines_from (length block - (k + 1)) form track number block)
    this_step r is inside =
        let e : length block - k ≡ suc (length block - (k + 1)) = omega (arith, inside) in
        ap (λ m. lines_from m form track number block at) e ∙ more_lines (length block - (k + 1)) at
        ∙ ap (λ r. on_piece track number block r (lines_from (length block - (k + 1)) form track number block)) (sym is)

module _ (w rest : Written) (before : List ℕ) (whole : w ≡ behind None before rest) where
  -- nothing more is written, and it ended so
  pub no_more : (a b : Option (List ℕ)) (ended : Option Stop) → rest ≡ record { bytes = []; stop = ended } → Appends a b before
      → Writes w a b ended
  no_more a b ended is written =
      let all : w ≡ behind None before (record { bytes = []; stop = ended }) = whole ∙ ap (behind None before) is in
      rw (all, append-nil before) (record { bytes = written; stop = refl })

  joined : (next : List ℕ) (more : Written) → behind None before (behind None next more) ≡ behind None (before ++ next) more
  joined next more = rw (append_assoc before next more.bytes) refl

  -- these bytes are written next
  pub and_more : (next : List ℕ) (more : Written) → rest ≡ behind None next more → w ≡ behind None (before ++ next) more
  and_more next more is = whole ∙ ap (behind None before) is ∙ joined next more

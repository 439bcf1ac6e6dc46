-- What a volume holds, as it is printed with its sections.
use Rattle.std.proofs.Common.{◌≢◌, ◌∙◌, inl, refl, Bool, [], Ok, Err}
use Rattle.counted_io.specs.Streams.{Stream, NoneFailed, IsFlushed}
use Rattle.counted_io.proofs.Written.{takes_nothing, takes_more}
use Rattle.dasd_volumes.specs.declared.fault.VolumeFault.{VolumeFault}
use Rattle.dasd_volumes.specs.Printing.{PrintsText, CountsWrites}
use Rattle.dasd_volumes.specs.Reading.{KnownVolume}
use Rattle.dasd_volumes.proofs.Fronts.{begins_with_all, begins_before, front_more, front_behind}
use Rattle.volume_contents.specs.declared.reading.Contents.{Contents}
use Rattle.library_contents.specs.Report.{printed}
use Rattle.volume_details.specs.Sections.{Views, sections, TellsWrong}
use Rattle.dasd_jobs.specs.declared.faults.JobFault.TheVariants as job
use Rattle.dasd_run.specs.declared.commands.Ending.{Ending}
use Rattle.program_faults.specs.declared.fault.ProgramFault.{ProgramFault}
use Rattle.program_faults.specs.declared.fault.ProgramFault.TheVariants as fault
use Rattle.program_faults.specs.Faults.{printing_fault}
use Rattle.dasd_run.specs.Held.{SaysAll, PrintsHeld}
use Rattle.dasd_run.specs.Details.{PrintsDetails}
use Rattle.dasd_run.specs.Ended.{worse}
use Rattle.dasd_run.proofs.Held.{counts_behind}

module _ (shown : Views) (v : KnownVolume) where
  -- nothing was printed, with another fault than that of a write
  pub none_detailed : (f : ProgramFault) (a : Stream) → f ≢ fault.Job job.Write → PrintsDetails (Err f) shown v a a
  none_detailed f a other = (λ slots known. record { front = []; rest = _; whole = refl; taken = takes_nothing a }, inl (other, refl))

  -- the first bytes of the table were printed
  pub table_begun : (f : ProgramFault) (a b : Stream) → PrintsHeld (Err f) shown.json v a b → PrintsDetails (Err f) shown v a b
  table_begun f a b held = (λ slots known. front_more a b _ _ (begins_before _ _ _ (begins_with_all _)) (held.0 slots known), held.1)

  module _ (c : Contents) (is : SaysAll v c) (ending : Ending) (a b d : Stream)
      (held : PrintsHeld (Ok ending) shown.json v a b) where
    -- all was printed
    pub all_detailed : (w : Bool)
        → PrintsText {A = Bool} (Ok w) (λ g slots. printed (sections shown c.found.blocks.items g slots)) v b d
        → TellsWrong (sections shown c.found.blocks.items) v w → NoneFailed b d → IsFlushed d
        → PrintsDetails (Ok (worse ending w)) shown v a d
    all_detailed w took wrong none flushed = (
      λ slots known.
          let blocks = (is slots known).blocks in (
            takes_more a b d _ _ (held.0 slots known).0 (rw blocks at (took slots known)),
            rw ((held.0 slots known).1, wrong slots known, blocks) refl,
          ),
      none ∙ held.1,
      flushed,
    )

    -- the table was, and the first bytes of the sections
    pub sections_begun : (f : VolumeFault)
        → PrintsText {A = Bool} (Err f) (λ g slots. printed (sections shown c.found.blocks.items g slots)) v b d
        → CountsWrites {A = Bool} (Err f) b d → PrintsDetails (Err (printing_fault f)) shown v a d
    sections_begun f took counted = (
      λ slots known. front_behind a b d _ _ (held.0 slots known).0 (rw (is slots known).blocks at (took slots known)),
      counts_behind Bool f a b d held.1 counted,
    )

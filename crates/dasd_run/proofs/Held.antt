-- What a volume holds, as it is printed.
use Rattle.std.proofs.Common.{◌≡◌, ◌≢◌, ◌∙◌, ◌+◌, inl, inr, refl, ap, subst, ℕ, List, [], length, Option, Some, None, Ok, Err}
use Rattle.counted_io.specs.Streams.{Stream, Takes, TakesFront, NoneFailed, IsFlushed}
use Rattle.counted_io.proofs.Written.{takes_nothing}
use Rattle.ckd_track.specs.declared.geometries.Geometry.{Geometry}
use Rattle.dasd_volumes.specs.declared.fault.VolumeFault.{VolumeFault}
use Rattle.dasd_volumes.specs.declared.fault.VolumeFault.TheVariants as volume
use Rattle.dasd_volumes.specs.Printing.{CountsWrites}
use Rattle.dasd_volumes.specs.Reading.{KnownVolume}
use Rattle.volume_contents.specs.declared.reading.Contents.{Contents}
use Rattle.volume_contents.specs.declared.findings.Finding.{Finding}
use Rattle.volume_contents.specs.Contents.{Said}
use Rattle.dasd_jobs.specs.declared.faults.JobFault.TheVariants as job
use Rattle.dasd_run.specs.declared.commands.Ending.{Ending}
use Rattle.program_faults.specs.declared.fault.ProgramFault.{ProgramFault}
use Rattle.program_faults.specs.declared.fault.ProgramFault.TheVariants as fault
use Rattle.program_faults.specs.Faults.{printing_fault}
use Rattle.dasd_run.specs.Held.{SaysWith, SaysAll, said_text, contents_text, CountsFault, PrintsHeld}
use Rattle.dasd_run.specs.Ended.{counted_ending}

-- the text of what was read is that of what the volume says
text_is : (json : Option (List ℕ)) (g : Geometry) (s : Said) (all : List Finding) (c : Contents) → SaysWith s all c
    → contents_text json g c ≡ said_text json g s all
text_is None g s all c w = rw (w.blocks, w.label, w.table, w.findings) refl
text_is (Some path) g s all c w = rw (w.blocks, w.label, w.table, w.findings) refl

-- a fault is counted, behind a text of which no write failed
pub counts_behind : (A : Type 0) (f : VolumeFault) (a b d : Stream) → NoneFailed a b → CountsWrites {A = A} (Err f) b d
    → CountsFault (printing_fault f) a d
counts_behind A volume.Write a b d none k = inr (refl, k ∙ ap (λ n. n + 1) none)
counts_behind A f a b d none k = inl (λ e. absurd cc, k ∙ none)

-- all of it was printed, or its first bytes
module _ (json : Option (List ℕ)) (v : KnownVolume) (c : Contents) (is : SaysAll v c) (a b : Stream) where
  pub all_held : (ending : Ending) → ending ≡ counted_ending (length c.found.findings.items) → Takes a b (contents_text json v.geometry c)
      → NoneFailed a b → IsFlushed b
      → PrintsHeld (Ok ending) json v a b
  all_held ending ends took none flushed = (
    λ slots known. (
      subst (Takes a b) (text_is json v.geometry _ _ c (is slots known)) took,
      ends ∙ ap (λ (l : List Finding). counted_ending (length l)) (is slots known).findings,
    ),
    none,
    flushed,
  )

  pub some_held : (f : VolumeFault) → TakesFront a b (contents_text json v.geometry c) → CountsWrites {A = Unit {0}} (Err f) a b
      → PrintsHeld (Err (printing_fault f)) json v a b
  some_held f took counted = (
    λ slots known. subst (TakesFront a b) (text_is json v.geometry _ _ c (is slots known)) took,
    counts_behind (Unit {0}) f a a b refl counted,
  )

-- nothing was printed, with another fault than that of a write
pub none_held : (json : Option (List ℕ)) (v : KnownVolume) (f : ProgramFault) (a : Stream) → f ≢ fault.Job job.Write
    → PrintsHeld (Err f) json v a a
none_held json v f a other = (λ slots known. record { front = []; rest = _; whole = refl; taken = takes_nothing a }, inl (other, refl))

-- How often writes failed, in several steps; and what want of memory is told of.
use Rattle.std.proofs.Common.{◌≡◌, ◌≢◌, ◌∙◌, ℕ, ◌+◌, Err, refl, ap}
use Rattle.counted_io.specs.Streams.{Stream, NoneFailed}
use Rattle.dasd_volumes.specs.declared.fault.VolumeFault.{VolumeFault}
use Rattle.dasd_volumes.specs.declared.fault.VolumeFault.TheVariants.{OutOfMemory, Write}
use Rattle.dasd_volumes.specs.Printing.{CountsWrites}
use Rattle.dasd_jobs.specs.declared.faults.JobFault.TheVariants as job
use Rattle.program_faults.specs.declared.fault.ProgramFault.TheVariants as fault
use Rattle.program_faults.specs.Faults.{printing_fault}

-- a fault of one call that another call tells
pub writes_told : (A B : Type 0) (f : VolumeFault) (a b : Stream) → CountsWrites {A = A} (Err f) a b → CountsWrites {A = B} (Err f) a b
writes_told A B Write a b h = h
writes_told A B f a b h = h

-- one behind a call that had none
pub writes_behind : (A : Type 0) (f : VolumeFault) (a b c : Stream) → NoneFailed a b → CountsWrites {A = A} (Err f) b c
    → CountsWrites {A = A} (Err f) a c
writes_behind A Write a b c none h = h ∙ ap (λ (n : ℕ). n + 1) none
writes_behind A f a b c none h = h ∙ none

-- want of memory is told of nothing else
pub memory_told : (f : VolumeFault) → printing_fault f ≡ fault.Job job.OutOfMemory → f ≡ OutOfMemory
memory_told OutOfMemory e = refl
memory_told f e = cc

-- nor is the fault of a write
pub write_told : (f : VolumeFault) → f ≢ Write → printing_fault f ≢ fault.Job job.Write
write_told Write other = absurd (other refl)
write_told f other = λ e. absurd cc

-- no call failed, where the fault is not that of one
pub none_written : (A : Type 0) (f : VolumeFault) (a : Stream) → f ≢ Write → CountsWrites {A = A} (Err f) a a
none_written A Write a other = absurd (other refl)
none_written A f a other = refl

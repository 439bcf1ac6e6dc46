-- How a command ends.
use Rattle.std.specs.Prelude.{◌≡◌, ℕ, nat_lt, Bool, true, if◌then◌else◌, Result, Ok, Err, IfErr}
use Rattle.dasd_run.specs.declared.commands.Ending.{Ending}
use Rattle.dasd_run.specs.declared.commands.Ending.TheVariants.{Done, Findings}
use Rattle.program_faults.specs.declared.fault.ProgramFault.{ProgramFault}
use Rattle.program_faults.specs.Faults.{keeps_files}
use Rattle.dasd_run.specs.Outside.{Outside}

-- with findings, where something is found, and else as it would
abbrev pub worse : Ending → (found : Bool) → Ending
worse ending found = if found then Findings else ending

-- with findings, where it counts some
abbrev pub counted_ending : ℕ → Ending
counted_ending found = worse Done (nat_lt 0 found)

-- so, where its job is done; and else with what the fault of the job is to the program
abbrev pub ended : {A E : Type 0} → (fault : E → ProgramFault) → (ending : A → Ending) → Result A E → Result Ending ProgramFault
ended fault ending (Ok done) = Ok (ending done)
ended fault ending (Err f) = Err (fault f)

-- the same of a job that leaves nothing to tell
abbrev pub done_or : {A E : Type 0} → (fault : E → ProgramFault) → Result A E → Result Ending ProgramFault
done_or fault job = ended fault (λ done. Done) job

-- no file is written, where the fault is one of those that come before
abbrev pub KeepsFiles : {A : Type 0} → Result A ProgramFault → (before now : Outside) → Type 0
KeepsFiles result before now = IfErr result (λ e. keeps_files e ≡ true → now.written ≡ before.written)

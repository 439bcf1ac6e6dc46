-- How a command ends over a volume that may lack tracks, and what is said of it.
use Rattle.std.specs.Prelude.{◌≡◌, ℕ, nat_lt, Bool, List, Result, Ok, Err}
use Rattle.dasd_volumes.specs.Reading.{KnownVolume}
use Rattle.dasd_jobs.specs.declared.lengths.Reach.{Reach}
use Rattle.dasd_jobs.specs.Sources.{SourceFile, OfReach}
use Rattle.dasd_run.specs.declared.commands.Ending.{Ending}
use Rattle.program_faults.specs.declared.fault.ProgramFault.{ProgramFault}
use Rattle.dasd_run.specs.Ended.{worse}

-- it has findings where tracks lack
abbrev pub with_reach : Reach → Result Ending ProgramFault → Result Ending ProgramFault
with_reach reach (Ok ending) = Ok (worse ending (nat_lt 0 reach.lacking))
with_reach reach (Err f) = Err f

-- The files at these paths were opened, and no other; this is said of the volume that they hold and of how the command ended, but that it
-- has findings where the files lack tracks.
abbrev pub EndsOver : Result Ending ProgramFault → (as_far : Bool) → (paths : List (List ℕ)) → (before now : List SourceFile)
    → (Result Ending ProgramFault → KnownVolume → Type 0) → Type 0
EndsOver result as_far paths before now P =
    OfReach as_far paths before now (λ v reach. (ended : Result Ending ProgramFault) × (result ≡ with_reach reach ended) × P ended v)

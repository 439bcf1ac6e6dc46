-- What is done of words.
use Rattle.std.specs.Prelude.{◌≡◌, ◌⊎◌, ℕ, Bool, true, false, List, Result, Err}
use Rattle.counted_io.specs.Streams.{Stream}
use Rattle.admitted_words.specs.Admitted.{AskFor}
use Rattle.dasd_words.specs.declared.requests.Request.{Request}
use Rattle.dasd_jobs.specs.Sources.{SourceFile}
use Rattle.dasd_jobs.specs.Written.{Replaced}
use Rattle.dasd_run.specs.declared.commands.Ending.{Ending}
use Rattle.program_faults.specs.declared.fault.ProgramFault.{ProgramFault}
use Rattle.program_faults.specs.declared.fault.ProgramFault.TheVariants as fault
use Rattle.dasd_run.specs.Answers.{Answers}
use Rattle.dasd_run.specs.Outside.{Outside, Looks}
use Rattle.dasd_run.specs.Runs.{Tells}

-- what is outside of the program, of these streams and files
abbrev pub outside : (read printed : Stream) → (written : List Replaced) → (opened : List SourceFile) → Outside
outside read printed written opened = record { read = read; printed = printed; written = written; opened = opened }

-- a fault of words: they are wrong or ask for help, or there is no memory to read them
abbrev pub is_of_words : ProgramFault → Bool
is_of_words (fault.Words _) = true
is_of_words (fault.Help _) = true
is_of_words fault.BadVolume = true
is_of_words fault.OutOfMemory = true
is_of_words other = false

-- Words are refused, and nothing is done.
abbrev pub AreRefused : Result Ending ProgramFault → (before now : Outside) → Type 0
AreRefused result before now = (f : ProgramFault) × (result ≡ Err f) × (is_of_words f ≡ true) × (now ≡ before)

-- Only a text is printed, as of words that ask for the version.
abbrev pub OnlyTells : Result Ending ProgramFault → (before now : Outside) → Type 0
OnlyTells result before now =
    ((text : List ℕ) × Tells result text before.printed now.printed) × (now.opened ≡ before.opened) × Looks before now

-- A request that the words ask for is answered; or the words are refused, or only a text is printed.
abbrev pub Obeys : (words : List (List ℕ)) → Result Ending ProgramFault → (before now : Outside) → Type 0
Obeys words result before now =
    ((asked : Request) × AskFor words asked × Answers asked result before now)
    ⊎ AreRefused result before now ⊎ OnlyTells result before now

-- What is told of a run, and what stays where it was none.
use Rattle.std.proofs.Common.{◌≡◌, ◌∙◌, List, Result, Ok, Err, true, false, IfErr, ap, sym}
use Rattle.std.specs.Result.{result_and}
use Rattle.std.proofs.lemmas.Bool.{false≢true}
use Rattle.s360_deck.specs.declared.runs.RunFault.{RunFault}
use Rattle.s360_deck.specs.declared.runs.RunFault.TheVariants as run
use Rattle.s360_deck.specs.Runs.{StaysUnlessRun}
use Rattle.dasd_jobs.specs.Written.{Replaced}
use Rattle.dasd_run.specs.declared.commands.Ending.{Ending}
use Rattle.program_faults.specs.declared.fault.ProgramFault.{ProgramFault}
use Rattle.program_faults.specs.Faults.{keeps_files}

-- what is seen of a value that stays does so too
pub stays_seen : {A B : Type 0} (seen : A → B) (r : Result (Unit {0}) RunFault) (old new : A) → StaysUnlessRun r old new
    → StaysUnlessRun r (seen old) (seen new)
stays_seen seen (Err run.Read) old new stays = ap seen stays
stays_seen seen (Err (run.Deck f)) old new stays = ap seen stays
stays_seen seen r old new stays = tt

-- The fault that is told first is that of the files, which stayed where it says so; that of the trace says no such thing.
pub kept_if_told : (before now : List Replaced) (concluded traced : Result (Unit {0}) ProgramFault) (ending : Ending)
    → IfErr concluded (λ e. keeps_files e ≡ true → now ≡ before) → IfErr traced (λ e. keeps_files e ≡ false)
    → IfErr (result_and concluded (result_and traced (Ok ending))) (λ e. keeps_files e ≡ true → now ≡ before)
kept_if_told before now (Err e) traced ending kept replaced = kept
kept_if_told before now (Ok done) (Err e) ending kept replaced = λ keeps. absurd (false≢true (sym replaced ∙ keeps))
kept_if_told before now (Ok done) (Ok ended) ending kept replaced = tt

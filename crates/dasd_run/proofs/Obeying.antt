-- Which requests write no file.
use Rattle.std.proofs.Common.{◌≡◌, false, Result, Ok, Err, inl, inr}
use Rattle.dasd_words.specs.declared.requests.Request.{Request}
use Rattle.dasd_words.specs.declared.requests.Request.TheVariants as request
use Rattle.admitted_words.specs.Writing.{may_write}
use Rattle.dasd_run.specs.declared.commands.Ending.{Ending}
use Rattle.program_faults.specs.declared.fault.ProgramFault.{ProgramFault}
use Rattle.dasd_run.specs.Answers.{Answers}
use Rattle.dasd_run.specs.Outside.{Outside}
use Rattle.dasd_run.proofs.Unfiled.{set_unfiled, tracks_unfiled}

-- A request that may write no file writes none.
pub writes_none : (asked : Request) (result : Result Ending ProgramFault) (before now : Outside) → may_write asked ≡ false →
    Answers asked result before now → now.written ≡ before.written
writes_none (request.Extract asked) result before now h a = set_unfiled result asked before now h a.0
writes_none (request.ExtractTracks asked) result before now h a = tracks_unfiled result asked before now h a.0
writes_none (request.Run asked) result before now h (inl ran) = (rw h at ran.concludes).1
writes_none (request.Run asked) (Ok ending) before now h (inr stopped) = absurd stopped
writes_none (request.Run asked) (Err f) before now h (inr stopped) = stopped.1
writes_none asked result before now h a = cc

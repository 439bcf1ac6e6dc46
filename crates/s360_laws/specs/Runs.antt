-- A channel program from its start, command by command over a script (Principles of Operation, Input/Output Operations:
-- 'Start I/O', 'Channel Address Word').
use Rattle.std.specs.Prelude.{ℕ, zero, suc, ◌-◌, false, Option, Some, None, length}
use Rattle.s360_words.specs.declared.words.Caw.{Caw}
use Rattle.s360_words.specs.declared.flags.TheConstants.ChannelStatus.{PROGRAM_CHECK}
use Rattle.s360_words.specs.Words.{caw_of}
use Rattle.s360_words.specs.Storage.{Storage}
use Rattle.ckd_command.specs.Drive.{IdleDrive, begin_program}
use Rattle.s360_laws.specs.Scripts.{Script, units_in}
use Rattle.s360_laws.specs.Places.{Place}
use Rattle.s360_laws.specs.Endings.{ending, untouched, Outcome, Ended, NotEnded}
use Rattle.s360_laws.specs.Commands.{Point, Step, Spent, Over, Goes, standing_between, command}

-- the word at the channel address word's place, storage and the drive as Start I/O finds them
pub record Start : Type 0 where
  pub caw : ℕ
  pub storage : Storage
  pub drive : IdleDrive

-- the first CCW stands at the command address, and may not be a transfer in channel
abbrev pub first_place : (address : ℕ) → Place
first_place address = record {
  next = address;
  may_transfer = false;
  last = address;
  residual = 0;
  interruption = false;
}

-- where a program stands as it begins
abbrev pub start_point : Caw → Start → Point
start_point caw s = record { storage = s.storage; place = first_place caw.address; state = begin_program s.drive }

-- what comes behind a step that goes on; a step that does not go on stays
abbrev pub on_step : Step → (Script → Point → Step) → Step
on_step (Goes rest p) next = next rest p
on_step (Over rest s e) next = Over rest s e
on_step (Spent s) next = Spent s

-- one command after another, `most` at most: each takes a unit, so a script's length is enough
abbrev pub commands : (most : ℕ) → (key : ℕ) → Step → Step
commands zero key step = step
commands (suc most) key step = on_step step (λ rest p. commands most key (command rest key p))

-- what a program comes to over a script, by the step in which the script was spent or the program ended
abbrev pub outcome : Script → (key : ℕ) → Step → Outcome
outcome script key (Spent s) = NotEnded s
outcome script key (Over rest s e) = Ended (units_in script - units_in rest) s e
outcome script key (Goes rest p) = NotEnded (standing_between key p)

-- where the channel address word is bad, Start I/O starts nothing: such a run is over at once, with program check
abbrev pub run_from : Script → Start → Option Caw → Outcome
run_from script s None =
    Ended 0 s.storage (ending None 0 (first_place 0) (untouched (begin_program s.drive)) PROGRAM_CHECK)
run_from script s (Some caw) =
    outcome script caw.key (commands (suc (length script)) caw.key (Goes script (start_point caw s)))

-- the run of a program over a script
abbrev pub run : Script → Start → Outcome
run script s = run_from script s (caw_of s.caw)

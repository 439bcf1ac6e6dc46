-- What comes next in a running program.
use Rattle.std.specs.Prelude.{ℕ}
use Rattle.s360_words.specs.declared.words.Ccw.{Ccw}
use Rattle.s360_program.specs.declared.run.Comes.{Comes}
use Rattle.s360_program.specs.declared.run.Comes.TheVariants as comes
use Rattle.s360_program.specs.declared.run.Run.{Run}

-- the fetch of a word that begins a command; a look for the area of the command of this word; or bytes under this word, from or to
-- this address on
pub data Stage : Type 0 where
  Between : Stage
  Looking : Ccw → Stage
  Moving : Ccw → (address : ℕ) → Stage

-- what comes next, by what the code keeps of it
abbrev pub stage_by : Comes → Ccw → (address : ℕ) → Stage
stage_by comes.NextCommand ccw address = Between
stage_by comes.Look ccw address = Looking ccw
stage_by comes.Bytes ccw address = Moving ccw address

-- what comes next in a program
abbrev pub stage_of : Run → Stage
stage_of r = stage_by r.comes r.ccw r.address

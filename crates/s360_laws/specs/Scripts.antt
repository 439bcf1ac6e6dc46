-- The script of a channel program: what happens in its course, one thing after another.
use Rattle.std.specs.Prelude.{ℕ, ◌+◌, List, [], ◌∷◌, Option, None, replicate}
use Rattle.s360_words.specs.Storage.{Storage, Change, changed}
use Rattle.ckd_command.specs.Drive.{Fault}

-- a unit of the program, with the fault that its store then has; a change of storage from outside; or the interruption
-- that a CCW asked for by its flag for program-controlled interruption
pub data Turn : Type 0 where
  OneUnit : Option Fault → Turn
  Outside : Change → Turn
  TakesInterruption : Turn

-- what happens in the course of a program
abbrev pub Script : Type 0
Script = List Turn

-- n units without faults
abbrev pub units : ℕ → Script
units n = replicate n (OneUnit None)

-- how many units a script has
abbrev pub units_in : Script → ℕ
units_in [] = 0
units_in (OneUnit fault ∷ rest) = 1 + units_in rest
units_in (turn ∷ rest) = units_in rest

-- storage behind a turn that is no unit
abbrev pub storage_past : Turn → Storage → Storage
storage_past (Outside change) s = changed change s
storage_past turn s = s

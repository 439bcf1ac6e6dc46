-- What is seen of a running program: it is read off the phase in which the program stands.
use Rattle.std.specs.Prelude.{ℕ}
use Rattle.s360_laws.specs.Places.{Place}
use Rattle.s360_laws.specs.Units.{ProgramPhase, Between, Looking, Moving}
use Rattle.s360_program.specs.Stage.{Stage}
use Rattle.s360_program.specs.Stage as stage
use Rattle.s360_program.specs.declared.view.AtWork.{AtWork}
use Rattle.s360_program.specs.declared.view.AtWork.TheVariants as at_work
use Rattle.s360_program.specs.declared.view.ProgramView.{ProgramView}

-- where the channel is in the program
abbrev pub place_in : ProgramPhase → Place
place_in (Between p) = p.place
place_in (Looking o r) = r.place
place_in (Moving o t) = t.place

-- what the next unit does, and by which word
abbrev pub work_in : ProgramPhase → AtWork
work_in (Between p) = at_work.Fetching
work_in (Looking o r) = at_work.Looking r.ccw
work_in (Moving o t) = at_work.Moving t.ccw t.address

-- the same by what the program keeps
abbrev pub work_at : Stage → AtWork
work_at stage.Between = at_work.Fetching
work_at (stage.Looking ccw) = at_work.Looking ccw
work_at (stage.Moving ccw address) = at_work.Moving ccw address

-- a program at this place, whose next unit does this
abbrev pub seen_at : (key : ℕ) → Place → AtWork → ProgramView
seen_at key p w = record {
  key = key;
  last = p.last;
  next = p.next;
  residual = p.residual;
  interruption = p.interruption;
  at_work = w;
}

-- a program that stands in a phase, as it is seen
abbrev pub seen_in : (key : ℕ) → ProgramPhase → ProgramView
seen_in key phase = seen_at key (place_in phase) (work_in phase)

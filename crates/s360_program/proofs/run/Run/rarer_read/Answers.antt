use Rattle.s360_program.proofs.run.Run.rarer_read.Goals as goal

-- the step is handed on as it is
pub returns-in-Some-Units-clause-step : goal.returns-in-Some-Units-clause-step
returns-in-Some-Units-clause-step g c = rw c.in-Some-Units.field-0-is at c.in-Some-Units.ensures.step

pub returns-in-Some-Over-clause-step : goal.returns-in-Some-Over-clause-step
returns-in-Some-Over-clause-step g c = rw c.in-Some-Over.field-0-is at c.in-Some-Over.ensures.step

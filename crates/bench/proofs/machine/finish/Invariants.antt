use Rattle.s360_program.specs.Stands.{Stands}
use Rattle.bench.proofs.machine.finish.Given as goal

-- running and drive stand together
abbrev pub invariant-loop : goal.invariant-loop
invariant-loop l = Stands l.running l.drive

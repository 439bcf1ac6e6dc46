use Rattle.s360_program.proofs.program.Running.run_on.Goals as goal

pub returns-then-is_none-clause-quiet : goal.returns-then-is_none-clause-quiet
returns-then-is_none-clause-quiet g c = rw (← c.self.view_is) c.advance-ran.ensures.quiet

pub returns-else-is_none-clause-quiet : goal.returns-else-is_none-clause-quiet
returns-else-is_none-clause-quiet g c = rw (← c.self.view_is) c.advance-ran.ensures.quiet

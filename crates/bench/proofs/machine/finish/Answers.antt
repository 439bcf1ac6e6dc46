use Rattle.bench.proofs.machine.finish.Goals as goal

pub returns : goal.returns
returns c = (c.cut.ensures.cut c.loop.storage).is_ending.drive.rests

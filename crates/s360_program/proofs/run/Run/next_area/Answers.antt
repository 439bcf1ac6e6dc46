use Rattle.std.proofs.Common.{rules}
use Rattle.s360_program.proofs.run.Run.next_area.Goals as goal

pub returns-in-NoCcw-clause-comes : goal.returns-in-NoCcw-clause-comes
returns-in-NoCcw-clause-comes g c =
    let holds = g.M.MainStorage.holds in
    let h = c.stop.ensures.comes (holds c.args.storage.now) in
    search rules

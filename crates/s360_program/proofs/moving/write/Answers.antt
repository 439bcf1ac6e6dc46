use Rattle.std.proofs.Common.{arith, ◌<◌, length}
use Rattle.std.proofs.lemmas.Bool.Decides.{nat_tests}
use Rattle.s360_program.proofs.MovingBytes.{takes_so}
use Rattle.s360_program.proofs.moving.write.Goals as goal

pub returns-clause-moves : goal.returns-clause-moves
returns-clause-moves g c =
    let holds = g.M.MainStorage.holds in
    let a = c.args in
    let b = c.bytes_from-bytes in
    let lies = c.requires.lies in
    let some : 0 < length b.result.now = grind (arith, nat_tests) in
    takes_so (length b.result.now) a.segment.now (holds a.storage.now) a.drive.now c.take.new.self a.drive.now.work
    (record { moving = lies.moving; some = some; few = omega (arith, b.ensures.len, c.from.ensures); left = lies.left }) c.requires.takes
    (omega (arith, b.ensures.len, some)) (rw b.ensures.bytes at c.take.ensures)

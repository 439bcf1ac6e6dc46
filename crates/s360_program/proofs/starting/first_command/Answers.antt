use Rattle.s360_program.proofs.Begins.{first_immediate, first_quiet}
use Rattle.s360_program.proofs.starting.first_command.Goals as goal

pub returns-in-Immediate : goal.returns-in-Immediate
returns-in-Immediate g c =
    let a = c.args in
    let q = c.requires in
    let b = c.in-Immediate.ensures in
    let i = c.immediate in
    record {
      begun = λ s. first_immediate a.key a.ccw a.place a.drive.now c.begin.new.self i.new.drive q.unwritten q.saved b.calls b.answer b.state
          s i.result i.ensures q.key q.next q.last;
      quiet = first_quiet a.key a.ccw a.place a.drive.now c.begin.new.self i.new.drive q.unwritten q.saved b.calls b.answer b.state i.result
          i.ensures;
    }

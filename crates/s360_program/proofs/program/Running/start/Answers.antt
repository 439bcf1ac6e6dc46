use Rattle.std.proofs.Common.{rules}
use Rattle.s360_program.proofs.program.Running.start.Goals as goal

pub invariant_of-result : goal.invariant_of-result
invariant_of-result g c =
    let holds = g.M.MainStorage.holds in
    let h = c.in-Accepted.ensures.begun (holds c.args.storage.now) in
    search rules

pub returns-in-Rejected-clause-first : goal.returns-in-Rejected-clause-first
returns-in-Rejected-clause-first g c =
    let holds = g.M.MainStorage.holds in
    let h = c.in-Rejected.ensures.begun (holds c.args.storage.now) in
    search rules

pub returns-in-Immediate-clause-first : goal.returns-in-Immediate-clause-first
returns-in-Immediate-clause-first g c =
    let holds = g.M.MainStorage.holds in
    let h = c.in-Immediate.ensures.begun (holds c.args.storage.now) in
    search rules

pub returns-in-Accepted-clause-first : goal.returns-in-Accepted-clause-first
returns-in-Accepted-clause-first g c =
    let holds = g.M.MainStorage.holds in
    let h = c.in-Accepted.ensures.begun (holds c.args.storage.now) in
    search rules

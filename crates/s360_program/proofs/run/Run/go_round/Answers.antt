use Rattle.s360_program.proofs.GoingRound.{all_rounds, asked_for, idle_there, within_units}
use Rattle.s360_program.proofs.run.Run.go_round.Goals as goal

pub pass_by-requires : goal.pass_by-requires
pass_by-requires g c = record { idle = idle_there c.args.self.now c.args.drive.now c.requires.stage c.requires.fits }

pub returns : goal.returns
returns g c =
    let a = c.args in
    let s = g.M.MainStorage.holds a.storage.now in
    let ccw = c.in-Some.ccw in
    let back = c.in-Some.ensures in
    let w = c.bytes_from-wanted in
    let few = within_units c.pass_by.result a.most _ c.pass_by.ensures.most in
    let all = asked_for s.bytes w.result.now ccw.address ccw.count back.inside w.ensures.bytes (rw c.from.ensures at w.ensures.len) in
    rw c.from-round.ensures (all_rounds a.self.now s ccw w.result.now c.requires.stage back all c.pass_by.result a.most a.drive.now
    c.pass_by.new.self c.requires.fits c.pass_by.ensures.passes (rw c.from-round.ensures at few))

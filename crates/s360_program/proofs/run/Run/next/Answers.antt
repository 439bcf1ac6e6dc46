use Rattle.std.proofs.Common.{ap, sym, subst, arith}
use Rattle.s360_laws.specs.Units.{unit}
use Rattle.s360_program.specs.Place.{place_of}
use Rattle.s360_program.specs.Stage.{stage_by}
use Rattle.s360_program.specs.Stands.{phase_by}
use Rattle.s360_program.specs.Steps.{ComesBy}
use Rattle.s360_program.proofs.GoingRound.{round_step}
use Rattle.s360_program.proofs.Stepping.{kept, one_unit}
use Rattle.s360_program.proofs.run.Run.next.Goals as goal

pub returns-then-n-gt0-clause-step : goal.returns-then-n-gt0-clause-step
returns-then-n-gt0-clause-step g c =
    let r = c.pass_rounds-n in
    round_step c.args.self.now (g.M.MainStorage.holds c.args.storage.now) c.args.most r.result c.args.drive.now r.new.drive
    (omega (arith, c.if-n-gt0.true)) r.ensures

pub returns-clause-step : goal.returns-clause-step
returns-clause-step g c =
    let s = g.M.MainStorage.holds c.args.storage.now in
    let r = c.args.self.now in
    let n = c.next_command in
    let same = c.pass_rounds-n.ensures.none (omega (arith, c.if-n-gt0.false)) in
    one_unit (record { run = r; storage = s; drive = c.args.drive.now })
    (record { run = n.new.self; storage = s; drive = n.new.drive }) c.args.most n.result c.requires.fits c.requires.some (kept s)
    (rw same at n.ensures.quiet)
    (subst (λ p. ComesBy r.key (λ f. unit f r.key p) n.result n.new.self s c.args.drive.now n.new.drive)
    (sym (ap (λ k. phase_by (stage_by k r.ccw r.address) (place_of r.place) s c.args.drive.now.state c.args.drive.now.work)
    c.requires.stage)) (rw same at n.ensures.comes))

use Rattle.std.proofs.Common.{rules}
use Rattle.s360_program.specs.Steps.{PassesWhole}
use Rattle.s360_program.proofs.Wholes.{all_stored}
use Rattle.s360_program.proofs.run.Run.other_read.Goals as goal

pub returns-clause-step : goal.returns-clause-step
returns-clause-step g c = λ most few.
    let holds = g.M.MainStorage.holds in
    let a = c.args in
    let r = a.self.now in
    let s = holds a.storage.now in
    let x = c.in_ok-given in
    let n = c.if-given-from.n in
    let k = c.store in
    let t = c.finish in
    let p : PassesWhole r most s a.drive.now x.given.now n x.read = record {
      gives = search rules;
      some = search rules;
      counts = search rules;
      has = search rules;
      spent = search rules;
      few = few;
      unchained = c.requires.unchained;
      stores = c.requires.stores;
      may = search rules;
    } in
    let is = all_stored s (holds k.new.self) r.key r.ccw.address k.result n x.given.now p.has (rw c.from-3.ensures at k.ensures.bound) p.may
    (rw c.from-3.ensures at k.ensures.next) (rw c.from-3.ensures at k.ensures.change) in
    record {
      steps = rw is (t.ensures.steps most s x.given.now p (search rules));
      storage = k.ensures.keeps;
      quiet = t.ensures.quiet s;
    }

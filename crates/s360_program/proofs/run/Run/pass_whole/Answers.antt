use Rattle.std.proofs.Common.{◌≡◌, ◌∙◌, ap, arith, inl, length, refl, rules, take}
use Rattle.s360_words.specs.Storage.{stored}
use Rattle.s360_words.specs.Words.{suppresses_length}
use Rattle.s360_program.specs.Steps.{PassesWhole}
use Rattle.s360_program.proofs.Looking.{looking_within}
use Rattle.s360_program.proofs.Wholes.{same_told, stores_all}
use Rattle.s360_program.proofs.run.Run.pass_whole.Goals as goal

pub returns-then-admits_all-clause-step : goal.returns-then-admits_all-clause-step
returns-then-admits_all-clause-step g c =
    let holds = g.M.MainStorage.holds in
    let a = c.args in
    let r = a.self.now in
    let s = holds a.storage.now in
    let x = c.in-Some in
    let n = c.store in
    let t = c.finish in
    let all : length x.bytes.now ≡ r.place.residual = search rules in
    let p : PassesWhole r a.most s a.drive.now x.bytes.now r.place.residual x.read = record {
      gives = search rules;
      some = (looking_within r a.drive.now c.requires.fits c.requires.stage).2;
      counts = omega arith;
      has = omega (arith, all);
      spent = inl refl;
      few = search rules;
      unchained = search rules;
      stores = search rules;
      may = search rules;
    } in
    let every : n.result ≡ r.place.residual = stores_all s r.key r.ccw.address n.result r.place.residual
    (omega (arith, n.ensures.bound, all)) p.may (λ h. n.ensures.next (omega (arith, h, all))) in
    let is : holds n.new.self ≡ stored s r.ccw.address (take r.place.residual x.bytes.now) =
    n.ensures.change ∙ ap (λ k. stored s r.ccw.address (take k x.bytes.now)) every in
    record {
      steps = rw is (t.ensures.steps a.most s x.bytes.now p
          (same_told (suppresses_length r.ccw) r.place.residual (length x.bytes.now) all));
      storage = n.ensures.keeps;
      quiet = t.ensures.quiet s;
    }

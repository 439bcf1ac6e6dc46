use Rattle.std.proofs.Common.{arith, refl, sym, ◌∙◌}
use Rattle.s360_program.specs.Place.{place_of}
use Rattle.s360_program.specs.declared.run.Comes.TheVariants as comes
use Rattle.s360_program.proofs.Ends.{concludes, chains_on}
use Rattle.s360_program.proofs.run.Run.conclude.Goals as goal

pub returns-then-not-chains-clause-comes : goal.returns-then-not-chains-clause-comes
returns-then-not-chains-clause-comes g c = λ s.
    let a = c.args in
    let e = c.end-ending in
    let k = c.of_length-condition in
    let p = c.end_program in (
      refl,
      concludes a.self.now.key (place_of a.self.now.place) k.result s _ a.drive.now e.new.self p.new.drive e.result
          (record {
            saved = c.requires.saved;
            state = e.ensures.state;
            ending = e.ensures.ending;
            calls = e.ensures.calls;
            reports =
                e.ensures.reported;
          })
          p.ensures a.ccw a.incorrect k.ensures (sym c.chains.ensures ∙ c.if-not-chains.true),
    )

pub returns-clause-comes : goal.returns-clause-comes
returns-clause-comes g c = λ s.
    let a = c.args in
    let e = c.end-ending in
    let k = c.of_length-condition in
    let m = c.modify in (
      refl,
      chains_on a.self.now (record a.self.now { place = m.new.self; comes = comes.NextCommand }) s a.ccw a.incorrect k.result a.drive.now
          e.new.self e.result
          (record {
            saved = c.requires.saved;
            state = e.ensures.state;
            ending = e.ensures.ending;
            calls = e.ensures.calls;
            reports =
                e.ensures.reported;
          })
          (record { condition = k.ensures; chains = sym c.chains.ensures ∙ c.if-not-chains.false })
          (record {
            in_range = c.requires.key;
            key = refl;
            between = refl;
            place = m.ensures.place;
            within = record { next = m.ensures.next; last = omega (arith, m.ensures.last, c.requires.last) };
          }),
    )

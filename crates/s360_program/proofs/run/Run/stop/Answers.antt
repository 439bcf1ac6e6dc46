use Rattle.std.proofs.Common.{refl}
use Rattle.s360_program.specs.Place.{place_of}
use Rattle.s360_program.proofs.Ends.{stops}
use Rattle.s360_program.proofs.run.Run.stop.Goals as goal

pub returns-clause-comes : goal.returns-clause-comes
returns-clause-comes g c = λ s.
    let a = c.args in
    let e = c.end-ending in
    let p = c.end_program in (
      refl,
      stops a.self.now.key (place_of a.self.now.place) a.condition s _ a.drive.now e.new.self p.new.drive e.result
          (record {
            saved = c.requires.saved;
            state = e.ensures.state;
            ending = e.ensures.ending;
            calls = e.ensures.calls;
            reports =
                e.ensures.reported;
          })
          p.ensures,
    )

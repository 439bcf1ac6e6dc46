use Rattle.std.proofs.Common.{◌∙◌, ◌-◌, arith, refl, rules, sym}
use Rattle.s360_program.specs.Place.{place_of}
use Rattle.s360_program.specs.declared.run.Comes.TheVariants as comes
use Rattle.s360_program.specs.declared.run.Step.TheVariants as step
use Rattle.s360_program.proofs.Ends.{concludes, chains_on}
use Rattle.s360_program.proofs.Wholes.{passed_drive, passed_ends, whole_steps}
use Rattle.s360_program.proofs.run.Run.finish.Goals as goal

pub returns-then-not-chains-clause-steps : goal.returns-then-not-chains-clause-steps
returns-then-not-chains-clause-steps g c = λ most s given p i.
    let a = c.args in
    let r = a.self.now in
    let d = a.drive.now in
    let e = c.end_whole-ended in
    let k = c.of_length-condition in
    let q = c.end_program in
    rw c.from.ensures (whole_steps r most s d given a.passed a.read c.requires.fits c.requires.stage p a.incorrect i q.new.run (step.Over 1)
    q.new.drive (search rules) (
      refl,
      concludes r.key (place_of (record r.place { residual = r.place.residual - a.passed })) k.result _ _
          (passed_drive d given a.read p.gives a.passed) e.new.self q.new.drive e.result
          (passed_ends d given a.read p.gives a.passed e.result e.new.self c.requires.fits.stands.saved e.ensures.ending e.ensures.ended)
          q.ensures r.ccw a.incorrect k.ensures (sym c.chains.ensures ∙ c.if-not-chains.true),
    ))

pub returns-clause-steps : goal.returns-clause-steps
returns-clause-steps g c = λ most s given p i.
    let a = c.args in
    let r = a.self.now in
    let d = a.drive.now in
    let e = c.end_whole-ended in
    let k = c.of_length-condition in
    let m = c.modify in
    rw c.from-2.ensures (whole_steps r most s d given a.passed a.read c.requires.fits c.requires.stage p a.incorrect i (record r {
      place = m.new.self;
      comes =
          comes.NextCommand;
    }) (step.Units 1) e.new.self (search rules) (
      refl,
      chains_on (record r { place = record r.place { residual = r.place.residual - a.passed } })
          (record r { place = m.new.self; comes = comes.NextCommand }) _ r.ccw a.incorrect k.result
          (passed_drive d given a.read p.gives a.passed) e.new.self e.result
          (passed_ends d given a.read p.gives a.passed e.result e.new.self c.requires.fits.stands.saved e.ensures.ending e.ensures.ended)
          (record { condition = k.ensures; chains = sym c.chains.ensures ∙ c.if-not-chains.false })
          (record {
            in_range = c.requires.fits.within.key;
            key = refl;
            between = refl;
            place = m.ensures.place;
            within = record { next = m.ensures.next; last = omega (arith, m.ensures.last, c.requires.fits.within.place.last) };
          }),
    ))

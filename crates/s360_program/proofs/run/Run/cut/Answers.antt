use Rattle.std.proofs.Common.{◌∙◌, refl, sym, ap, subst, false, rules}
use Rattle.ckd_command.specs.Drive.{is_written}
use Rattle.ckd_drive.specs.Work.{CallsStore, closed_of, end_saves}
use Rattle.s360_laws.specs.Endings.{ending, untouched}
use Rattle.s360_laws.specs.Status.{no_channel_status}
use Rattle.s360_laws.specs.Units.{EndsIn, standing_in}
use Rattle.s360_program.specs.Place.{place_of}
use Rattle.s360_program.specs.Stage.{stage_of}
use Rattle.s360_program.specs.Stands.{phase_in}
use Rattle.s360_program.specs.Steps.{run_of, told_of}
use Rattle.s360_program.specs.declared.conditions.ChannelCondition.TheVariants as condition
use Rattle.s360_program.proofs.Cutting.{same_ends, cut_untouched, cut_touched, untouched_written, touched_written, end_moved}
use Rattle.s360_program.proofs.Ends.{stops}
use Rattle.s360_program.proofs.Meeting.{ends_now, saves_together}
use Rattle.s360_program.proofs.run.Run.cut.Goals as goal

pub returns-then-not-has_moved : goal.returns-then-not-has_moved
returns-then-not-has_moved g c =
    let r = c.args.self.now in
    let d = c.args.drive.now in
    let p = c.end_program in
    let none = sym c.has_moved.ensures ∙ c.if-not-has_moved.true in
    record {
      cut = λ s.
          rw c.told.ensures
          (ends_now (λ f. EndsIn s ((standing_in r.key (phase_in (run_of r) s d)).cut f)) (untouched d.state) r.key
          (place_of r.place) condition.Clear s (told_of p.new.run) d p.new.drive refl c.requires.stands.saved
          p.ensures
          (λ f. ap (EndsIn s) (cut_untouched r.key (stage_of r) (place_of r.place) s d d.work f c.requires.stands.fits none)));
      calls = λ s. subst (λ w. CallsStore false w d p.new.drive) (untouched_written (stage_of r) (place_of r.place) s d.state d.work
          c.requires.stands.fits none) p.ensures.calls;
      lost = search rules;
    }

pub returns : goal.returns
returns g c =
    let r = c.args.self.now in
    let d = c.args.drive.now in
    let e = c.end-ending in
    let p = c.end_program-2 in
    let some = sym c.has_moved.ensures ∙ c.if-not-has_moved.false in
    record {
      cut = λ s.
          rw c.told-2.ensures
          (same_ends (λ f. EndsIn s ((standing_in r.key (phase_in (run_of r) s d)).cut f))
          (λ f. EndsIn s (ending f r.key (place_of r.place) (closed_of f d d.work) no_channel_status))
          (told_of p.new.run) s d p.new.drive
          (λ f. ap (EndsIn s) (cut_touched r.key (stage_of r) (place_of r.place) s d d.work f c.requires.stands.fits some))
          (stops r.key (place_of r.place) condition.Clear s (told_of p.new.run) d e.new.self p.new.drive e.result
          (record {
            saved = c.requires.stands.saved;
            state = e.ensures.state;
            ending = e.ensures.ending;
            calls = e.ensures.calls;
            reports =
                e.ensures.reported;
          })
          p.ensures));
      calls = λ s.
          subst (λ w. CallsStore false w d p.new.drive) (touched_written (stage_of r) (place_of r.place) s d e.new.self
          c.requires.stands.fits some e.ensures.state e.ensures.calls)
          (saves_together (end_saves d) (is_written e.new.self.state) d e.new.self p.new.drive (end_moved d e.new.self e.ensures.state)
          e.ensures.calls p.ensures.calls);
      lost = search rules;
    }

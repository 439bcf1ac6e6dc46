use Rattle.std.proofs.Common.{[]}
use Rattle.s360_laws.specs.Units.{EndsIn, standing_in}
use Rattle.s360_words.specs.Storage.{Storage}
use Rattle.s360_program.specs.Stands.{phase_in}
use Rattle.s360_program.specs.Steps.{run_of}
use Rattle.s360_program.proofs.Advancing.{cuts, cut_tells}
use Rattle.s360_program.proofs.program.Running.cut.Goals as goal

pub returns-clause-cut : goal.returns-clause-cut
returns-clause-cut g c = λ s.
    let r = c.self.inside.run in
    let m = c.cut-motion in
    let d = c.args.drive.now in
    rw (← c.self.view_is) (cuts r.key (phase_in (run_of r) s d) m.result c.unsaved.result s d m.new.drive
    (m.ensures.cut s) c.unsaved.ensures)

nothing : Storage
nothing = record { bytes = []; keys = [] }

pub returns-clause-tells : goal.returns-clause-tells
returns-clause-tells g c =
    let r = c.self.inside.run in
    let m = c.cut-motion in
    let d = c.args.drive.now in
    cut_tells (λ f. EndsIn nothing ((standing_in r.key (phase_in (run_of r) nothing d)).cut f)) m.result c.unsaved.result nothing d
    m.new.drive (m.ensures.cut nothing) c.unsaved.ensures m.ensures.lost

pub returns-clause-rests : goal.returns-clause-rests
returns-clause-rests g c = (c.cut-motion.ensures.cut nothing).is_ending.drive.rests

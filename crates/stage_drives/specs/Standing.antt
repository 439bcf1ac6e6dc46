-- That a running program and a drive stand together is a fact, of which no two proofs differ.
use Rattle.std.specs.Prelude.{◌≡◌, ◌+◌, ◌≤◌, None, length}
use Rattle.ckd_command.specs.Drive.{State, unsaved}
use Rattle.ckd_drive.specs.Work.{DriveState, Work, Idle, Over, Looking, Passing}
use Rattle.s360_program.specs.Stands.{RunningState, Stands, StageFits}
use Rattle.s360_program.specs.Stage.{Stage}
use Rattle.s360_program.specs.Stage as stage
use denote.Struct.Props.{props}

fits-prop : (g : Stage) (s : State) (w : Work) → IsProp (StageFits g s w)
fits-prop stage.Between s Idle = Prim.hlevel props
fits-prop stage.Between s (Over e) = Prim.hlevel props
fits-prop stage.Between s (Looking o) = Prim.hlevel props
fits-prop stage.Between s (Passing o b left) = Prim.hlevel props
fits-prop (stage.Looking ccw) s Idle = Prim.hlevel props
fits-prop (stage.Looking ccw) s (Over e) = Prim.hlevel props
fits-prop (stage.Looking ccw) s (Looking o) = Prim.hlevel props
fits-prop (stage.Looking ccw) s (Passing o b left) = Prim.hlevel props
fits-prop (stage.Moving ccw address) s Idle = Prim.hlevel props
fits-prop (stage.Moving ccw address) s (Over e) = Prim.hlevel props
fits-prop (stage.Moving ccw address) s (Looking o) = Prim.hlevel props
fits-prop (stage.Moving ccw address) s (Passing o b left) = Prim.hlevel props

pub stands-prop : (r : RunningState) (d : DriveState) → IsProp (Stands r d)
stands-prop r d x y =
    let saved-prop : IsProp (unsaved d.state ≡ None) = Prim.hlevel props in
    λ i. record {
      fits = fits-prop r.stage d.state d.work x.fits y.fits i;
      saved = saved-prop x.saved y.saved i;
    }

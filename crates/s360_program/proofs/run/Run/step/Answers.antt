use Rattle.s360_program.proofs.Looking.{look_fits}
use Rattle.s360_program.proofs.Stepping.{finds}
use Rattle.s360_program.proofs.run.Run.step.Goals as goal
use Rattle.s360_program.proofs.run.Run.step.Goals.{in-Look+in_default, in-Bytes}

pub transfer-requires-clause-fits : goal.transfer-requires-clause-fits
transfer-requires-clause-fits g c =
    let holds = g.M.MainStorage.holds in
    elim c.match-self.branch [
      | in-Look+in_default w ↦
          let k = w.in_default.ensures.found in
          rw (w.self-is, w.drive-is, k.run)
          (look_fits c.args.self.now (holds c.args.storage.now) c.args.drive.now w.look.new.drive k.looked k.left k.answer)
      | in-Bytes w ↦ rw (w.self-is, w.drive-is) c.requires.fits
    ]

pub returns-clause-step : goal.returns-clause-step
returns-clause-step g c =
    let holds = g.M.MainStorage.holds in
    elim c.match-self.branch [
      | in-Look+in_default w ↦
          let a = c.args in
          let t = c.transfer in
          let k = w.in_default.ensures.found in
          finds (record { run = a.self.now; storage = holds a.storage.now; drive = a.drive.now })
          (record { run = t.new.self; storage = holds t.new.storage; drive = t.new.drive }) k.left a.most w.look.new.drive
          k.looked k.answer
          (rw w.drive-is at t.ensures.loads) (rw (w.self-is, w.storage-is, w.drive-is, k.run, k.storage) at t.ensures.step)
      | in-Bytes w ↦ rw (w.self-is, w.storage-is, w.drive-is) at c.transfer.ensures.step
    ]

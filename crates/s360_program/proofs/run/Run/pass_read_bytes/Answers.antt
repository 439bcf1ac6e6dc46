use Rattle.std.proofs.Common.{◌≡◌, ◌∙◌, ◌+◌, ◌≤◌, ℕ, ap, arith, inr, refl, rules, sym, take, true}
use Rattle.s360_words.specs.Storage.{stored}
use Rattle.ckd_command.specs.Drive.{State}
use Rattle.ckd_drive.specs.Work.{DriveState, Work, Idle, Over, Looking, Passing, left_of, gives_now}
use Rattle.s360_program.specs.Steps.{FlowsBy, MovesBy, segment_of, with_left}
use Rattle.s360_program.specs.declared.run.Step.TheVariants as step
use Rattle.s360_program.proofs.MovingBytes.{gives_so, may_be, lent_size, lends_first}
use Rattle.s360_program.proofs.Stepping.{quietly}
use Rattle.s360_program.proofs.Transferring.{moves_on}
use Rattle.s360_program.proofs.Wholes.{stores_all}
use Rattle.s360_program.proofs.run.Run.pass_read_bytes.Goals as goal

-- what a drive has that gives the bytes of the area which it has found
found_read : (left : ℕ) (s : State) (w : Work) → FlowsBy (record { gives = true; left = left }) s w → w ≡ with_left left w
    → MovesBy s w × (left_of w ≡ left) × (gives_now w ≡ true)
found_read left s Idle told is = absurd told
found_read left s (Over x) told is = absurd told
found_read left s (Looking o) told is = absurd told
found_read left s (Passing o b l) told is = let e : l ≡ left = ap left_of is in (rw e told.2, e, sym told.0)

pub returns-clause-step : goal.returns-clause-step
returns-clause-step g c =
    let holds = g.M.MainStorage.holds in
    let a = c.args in
    let r = a.self.now in
    let d = a.drive.now in
    let s = holds a.storage.now in
    let q = c.requires.of_read in
    let n = c.store in
    let lent = c.next_bytes in
    let f = found_read q.left d.state d.work q.flows.told (ap (λ (x : DriveState). x.work) q.flows.drive) in
    let few : a.units ≤ left_of d.work = omega (arith, q.has, f.1) in
    let long = lent_size d d.work f.0 f.2 lent.result.now lent.ensures.bytes a.units few in
    let all : n.result ≡ a.units = stores_all s r.key r.address n.result a.units (omega (arith, n.ensures.bound, long)) q.may
    (λ h. n.ensures.next (omega (arith, h, long))) in
    quietly r _ s (holds n.new.self) d c.pass.new.self a.units (step.Units a.units) c.requires.fits n.ensures.keeps
    (λ quiet. search rules)
    (moves_on r a.units a.units a.units s (holds n.new.self) d c.pass.new.self
    (record { fits = c.requires.fits; at = q.at; flow = record { gives = true; left = q.left }; drive = d; flows = q.flows })
    (record { few = a.units; asked = omega arith; counted = q.counts; has = q.has })
    (gives_so a.units (segment_of r a.units) s (holds n.new.self) d c.pass.new.self d.work
    (record { moving = f.0; some = q.some; few = omega arith; left = few }) f.2
    (λ i h. inr (may_be s r.key (r.address + i) (q.may i h))) c.pass.ensures
    (rw q.stores (n.ensures.change ∙ ap (λ k. stored s r.address (take k (take a.units lent.result.now))) all
    ∙ ap (stored s r.address) (lends_first d d.work f.0 f.2 lent.result.now lent.ensures.bytes a.units a.units few (omega arith))))) refl)

use Rattle.std.proofs.Common.{◌≡◌, ◌⊎◌, ◌∙◌, inl, inr, arith, false, rules, sym}
use Rattle.s360_words.specs.Words.{chains_data}
use Rattle.s360_program.specs.declared.run.Step.TheVariants as step
use Rattle.s360_program.proofs.Stepping.{kept, quietly, one_unit}
use Rattle.s360_program.proofs.Transferring.{completes, checks, moves_on}
use Rattle.s360_program.proofs.run.Run.transfer.Goals as goal
use Rattle.s360_program.proofs.run.Run.transfer.Goals.{else-residual-eq0-via-then-residual-eq0+else-chains_data}
use Rattle.s360_program.proofs.run.Run.transfer.Goals.{else-residual-eq0-via-else-residual-eq0}

pub returns-then-chains_data-clause-step : goal.returns-then-chains_data-clause-step
returns-then-chains_data-clause-step g c =
    let holds = g.M.MainStorage.holds in
    let a = c.args in
    let e = c.next_area in
    one_unit (record { run = a.self.now; storage = holds a.storage.now; drive = a.drive.now })
    (record { run = e.new.self; storage = holds a.storage.now; drive = e.new.drive }) a.most e.result c.requires.fits
    c.requires.some (kept (holds a.storage.now)) e.ensures.quiet e.ensures.comes

pub returns-then-residual-eq0-2-clause-step : goal.returns-then-residual-eq0-2-clause-step
returns-then-residual-eq0-2-clause-step g c =
    let holds = g.M.MainStorage.holds in
    let a = c.args in
    let f = c.flow_of-flow in
    let e = c.conclude in
    let needs : a.self.now.place.residual ≡ 0 → chains_data a.self.now.ccw ≡ false = elim c.else-residual-eq0.branch [
      | else-residual-eq0-via-then-residual-eq0+else-chains_data w ↦ λ z. sym w.chains_data.ensures ∙ w.if-chains_data.false
      | else-residual-eq0-via-else-residual-eq0 w ↦ λ z. absurd (w.if-residual-eq0.false z)
    ] in
    let spent : (a.self.now.place.residual ≡ 0) ⊎ (f.result.left ≡ 0) =
    elim c.then-residual-eq0-2.either [ inl z ↦ inl z | inr z ↦ inr z.1 ] in
    one_unit (record { run = a.self.now; storage = holds a.storage.now; drive = a.drive.now })
    (record { run = e.new.self; storage = holds a.storage.now; drive = e.new.drive }) a.most e.result c.requires.fits
    c.requires.some (kept (holds a.storage.now)) (λ q. search rules)
    (completes a.self.now e.new.self (holds a.storage.now) e.result a.drive.now f.new.drive e.new.drive f.result c.requires.stage f.ensures
    c.is_incorrect-incorrect.result needs spent c.is_incorrect-incorrect.ensures e.ensures.loads (e.ensures.comes (holds a.storage.now)))

pub returns-in-Ok-clause-step : goal.returns-in-Ok-clause-step
returns-in-Ok-clause-step g c =
    let holds = g.M.MainStorage.holds in
    let a = c.args in
    let l = c.least in
    let b = c.move_bytes in
    rw c.from-in-Ok.ensures
    (quietly a.self.now _ (holds a.storage.now) (holds b.new.storage) a.drive.now b.new.drive a.most (step.Units c.in-Ok.m) c.requires.fits
    b.ensures.storage (λ q. search rules)
    (moves_on a.self.now a.most c.in-Ok.m c.from.result (holds a.storage.now) (holds b.new.storage) a.drive.now b.new.drive
    (record {
      fits = c.requires.fits;
      at = c.requires.stage;
      flow = c.flow_of-flow.result;
      drive = c.flow_of-flow.new.drive;
      flows = c.flow_of-flow.ensures;
    })
    (record { few = l.result; asked = l.ensures.most; counted = l.ensures.residual; has = l.ensures.left }) c.in-Ok.ensures.moves
    c.from.ensures))

pub returns-in-Err-clause-step : goal.returns-in-Err-clause-step
returns-in-Err-clause-step g c =
    let holds = g.M.MainStorage.holds in
    let a = c.args in
    let f = c.flow_of-flow in
    let b = c.move_bytes in
    let e = c.stop in
    one_unit (record { run = a.self.now; storage = holds a.storage.now; drive = a.drive.now })
    (record { run = e.new.self; storage = holds b.new.storage; drive = e.new.drive }) a.most e.result c.requires.fits
    c.requires.some b.ensures.storage (λ q. search rules)
    (checks a.self.now e.new.self (holds a.storage.now) e.result a.drive.now f.new.drive e.new.drive f.result c.requires.stage f.ensures
    c.in-Err.condition c.least.result (holds b.new.storage) b.new.drive (omega arith) (omega arith) c.in-Err.ensures.moves e.ensures.loads
    (e.ensures.comes (holds b.new.storage)))

use Rattle.std.proofs.Common.{arith, ◌≡◌, ℕ, ◌+◌, ◌≤◌, length, sym, subst, ◌∙◌, ap, inl, inr, false, take, Err}
use Rattle.s360_words.specs.Storage.{Storage, stored, may_store}
use Rattle.s360_program.specs.Steps.{MovesBytesBy}
use Rattle.s360_program.proofs.MovingBytes.{gives_so, gives_not, may_be, lent_size, lends_first, stores_none}
use Rattle.s360_program.proofs.moving.read.Goals as goal

pub returns-then-skips-clause-moves : goal.returns-then-skips-clause-moves
returns-then-skips-clause-moves g c =
    let holds = g.M.MainStorage.holds in
    let a = c.args in
    let q = c.requires in
    let k = sym c.skips.ensures ∙ c.if-skips.true in
    gives_so a.segment.now.count a.segment.now (holds a.storage.now) (holds a.storage.now) a.drive.now c.pass.new.self a.drive.now.work
    (record { moving = q.lies.moving; some = q.lies.some; few = omega arith; left = q.lies.left }) q.gives (λ i h. inl k)
    (rw c.from.ensures at c.pass.ensures) (rw k)

pub slice_bounds-given-end : goal.slice_bounds-given-end
slice_bounds-given-end g c =
    let d = c.args.drive.now in
    let q = c.requires in
    c.from-2.ensures ∙ sym (lent_size d d.work q.lies.moving q.gives c.next_bytes.result.now c.next_bytes.ensures.bytes
    c.args.segment.now.count q.lies.left) ∙ ap (λ n. length (take n c.next_bytes.result.now)) (sym c.from-2.ensures)

at_zero : (s : Storage) (key a n : ℕ) → n ≡ 0 → may_store s key (a + n) ≡ false → may_store s key a ≡ false
at_zero s key a n e h = let same : a ≡ a + n = omega arith in ap (may_store s key) same ∙ h

pub returns-then-n-eq0-clause-moves : goal.returns-then-n-eq0-clause-moves
returns-then-n-eq0-clause-moves g c =
    let holds = g.M.MainStorage.holds in
    let a = c.args in
    let p = a.segment.now in
    let d = a.drive.now in
    let q = c.requires in
    let n = c.store-n in
    let none : n.result ≡ 0 = omega arith in
    let long = lent_size d d.work q.lies.moving q.gives c.next_bytes.result.now c.next_bytes.ensures.bytes p.count q.lies.left in
    let same = stores_none (holds a.storage.now) (holds n.new.self) p.address n.result (take c.from-2.result c.next_bytes.result.now) none
    n.ensures.change in
    subst (λ (s : Storage). MovesBytesBy p (Err c.refusal.result) (holds a.storage.now) s d d d.work) (sym same)
    (rw (c.refusal.ensures, same)
    (gives_not p (holds a.storage.now) d d.work q.lies.moving q.gives (sym c.skips.ensures ∙ c.if-skips.false)
    (at_zero (holds a.storage.now) p.key p.address n.result none
    (n.ensures.next (rw c.from-2.ensures (omega (arith, none, long, q.lies.some)))))))

pub returns-clause-moves : goal.returns-clause-moves
returns-clause-moves g c =
    let holds = g.M.MainStorage.holds in
    let a = c.args in
    let p = a.segment.now in
    let d = a.drive.now in
    let q = c.requires in
    let n = c.store-n in
    let long = lent_size d d.work q.lies.moving q.gives c.next_bytes.result.now c.next_bytes.ensures.bytes p.count q.lies.left in
    let few : n.result ≤ p.count = omega (arith, rw c.from-2.ensures at n.ensures.bound, long) in
    gives_so n.result p (holds a.storage.now) (holds n.new.self) d c.pass-2.new.self d.work
    (record { moving = q.lies.moving; some = omega arith; few = few; left = q.lies.left }) q.gives
    (λ i h. inr (may_be (holds a.storage.now) p.key (p.address + i) (n.ensures.each i h))) c.pass-2.ensures
    (rw (sym c.skips.ensures ∙ c.if-skips.false) (n.ensures.change
    ∙ ap (stored (holds a.storage.now) p.address)
    (rw c.from-2.ensures (lends_first d d.work q.lies.moving q.gives c.next_bytes.result.now c.next_bytes.ensures.bytes p.count n.result
    q.lies.left few))))

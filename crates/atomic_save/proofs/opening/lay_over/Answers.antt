use Rattle.std.proofs.Common.{◌≡◌, ◌-◌, ◌+◌, length, min, take, drop, slice_index_or, ap, ap₂, sym, subst, ◌∙◌, arith}
use Rattle.atomic_save.specs.Changes.{note_of, byte_of}
use Rattle.atomic_save.proofs.Windows.{laid}
use Rattle.atomic_save.proofs.opening.lay_over.Goals as goal

pub returns-then-to-into-clause-after : goal.returns-then-to-into-clause-after
returns-then-to-into-clause-after c k lt =
    let n = note_of c.args.change.now in
    let first = c.max-first.result in
    let from = first - c.args.change.now.at in
    let to = first - c.args.at in
    let xs = c.args.into.now in
    let count = c.min-count.result in
    let bytes : length c.args.change.now.bytes.items ≡ c.args.change.now.bytes.len =
    omega (arith, c.deref.ensures.len, ap length c.deref.ensures.value) in
    let size = c.min-count.ensures ∙ ap (λ l. min (l - from) (length xs - to)) (c.len-then-to-into.ensures ∙ sym bytes) in
    let part = ap₂ (λ m l. take m (drop from l)) (omega arith) c.deref.ensures.value in
    subst (λ l. slice_index_or l k 0 ≡ byte_of n c.args.change.now.file (c.args.at + k) (slice_index_or xs k 0)) (sym c.put_over.ensures)
    (laid n c.args.at xs first count _ (record {
      first_is = c.max-first.ensures;
      count_is = size;
      in_change = omega (arith, c.if-from-len.true, c.len.ensures, bytes);
      in_window = c.if-to-into.true;
      part_is = part;
    }) k lt)

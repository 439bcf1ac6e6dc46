use Rattle.std.proofs.Common.{◌∙◌, ◌+◌, ap, refl}
use Rattle.dasd_unload.proofs.Described.{no_notes, more_notes}
use Rattle.dasd_unload.proofs.entries.read_notes.Goals as goal

pub loop-i-init : goal.loop-i-init
loop-i-init g c = rw c.new-found.ensures record {
  notes = λ slots known. no_notes c.args.library.extents.now c.args.member.now c.args.notes.now _ slots;
  count = refl;
  kept = refl;
}

pub loop-i-preserved : goal.loop-i-preserved
loop-i-preserved g c = let this = rw c.loop-i.invariant.kept at c.in_ok-note.ensures.note in record {
  notes = λ slots known. more_notes c.args.library.extents.now c.args.member.now c.args.notes.now _ slots c.loop-i.i
      c.loop-i.found.items _ c.in_ok-note.note
      c.push.ensures.items (c.loop-i.invariant.notes slots known) (this slots known);
  count = c.push.ensures.len ∙ ap (λ n. n + 1) c.loop-i.invariant.count;
  kept = c.read_note.ensures.kept ∙ c.loop-i.invariant.kept;
}

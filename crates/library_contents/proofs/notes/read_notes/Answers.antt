use Rattle.std.proofs.Common.{◌<◌, ◌≤◌, arith, rules, tests}
use Rattle.library_contents.proofs.Noted.{one_more_note, leads_nowhere, all_notes}
use Rattle.library_contents.proofs.notes.read_notes.Goals as goal

pub returns-in-Ok-None-clause-notes : goal.returns-in-Ok-None-clause-notes
returns-in-Ok-None-clause-notes g c = λ slots known.
    let inside : c.loop-k.k < c.args.count = omega (arith, c.loop-k-test.true, c.from-k-end.ensures) in
    let is = rw (c.loop-k.invariant.volume, c.in-Ok-None.field-0-is) at c.in-Ok-None.ensures.note in
    leads_nowhere _ _ _ _ _ _ _ (c.loop-k.invariant.notes slots known) (is slots known) inside

pub loop-k-preserved : goal.loop-k-preserved
loop-k-preserved g c =
    let inside : c.loop-k.k < c.args.count = omega (arith, c.loop-k-test.true, c.from-k-end.ensures) in
    let is = rw (c.loop-k.invariant.volume, c.in-Ok-Some.field-0-is) at c.in-Ok-Some.ensures.note in record {
      notes = λ slots known. rw (c.in_default.ensures.notes)
          (one_more_note _ _ _ _ _ _ _ (c.loop-k.invariant.notes slots known) c.in-Ok-Some.note (is slots known) inside);
      volume = search (rules, tests);
      failures = search (rules, tests);
    }

pub returns-clause-notes : goal.returns-clause-notes
returns-clause-notes g c = λ slots known.
    let passed : c.args.count ≤ c.loop-k.k = omega arith in all_notes _ _ _ _ _ _ _ (c.loop-k.invariant.notes slots known) passed

use Rattle.std.proofs.Common.{◌≤◌, ℕ, arith, rules, tests}
use borrow.Author.Count.{below_more}
use Rattle.dasd_archive.specs.Numbered.{LacksOn}
use Rattle.dasd_archive.proofs.numbered.has_records.Goals as goal

-- a cylinder has one of the records
pub returns-in-Ok-true-clause-tells : goal.returns-in-Ok-true-clause-tells
returns-in-Ok-true-clause-tells g c =
    λ slots known lacks.
    let there = rw (c.in-Ok-true.field-0-test, c.loop-cylinder.invariant.volume) at c.in-Ok-true.ensures.tells in
    let from = c.loop-cylinder.auto.cylinder in
    let below = c.loop-cylinder-test.true in
    there slots known (lacks c.loop-cylinder.cylinder (omega (arith, from, below)) (omega (arith, from, below)))

pub loop-cylinder-preserved : goal.loop-cylinder-preserved
loop-cylinder-preserved g c = record {
  lacks =
      λ slots known.
      let volume = g.V.SlotReader.volume c.args.volume.now in
      let here = rw (c.in-Ok-false.field-0-test, c.loop-cylinder.invariant.volume) at c.in-Ok-false.ensures.tells in
      below_more
      (λ (k : ℕ). c.args.part.cylinders.first ≤ k → LacksOn c.args.part.heads c.args.part.numbers k volume.geometry slots)
      c.loop-cylinder.cylinder (c.loop-cylinder.invariant.lacks slots known) (λ _. here slots known);
  volume = search (rules, tests);
  failures = search (rules, tests);
  size = search (rules, tests);
}

use Rattle.std.proofs.Common.{rules, tests, refl, subst, ◌∙◌, ◌+◌, arith}
use Rattle.volume_contents.specs.Contents.{AddsOfTrack}
use Rattle.volume_contents.proofs.Added.{adds_none, adds_more}
use Rattle.volume_contents.proofs.reading.read_tracks.Goals as goal

pub loop-i-init : goal.loop-i-init
loop-i-init g c = record {
  blocks = λ slots known. adds_none _ _ _;
  volume = refl;
  failures = refl;
}

pub overflow_add-tracks : goal.overflow_add-tracks
overflow_add-tracks g c = omega (arith, c.loop-i-test.true, c.requires.few)

pub read_one-requires-clause-size : goal.read_one-requires-clause-size
read_one-requires-clause-size g c = rw c.loop-i.invariant.volume (c.loop-i.auto.slot ∙ c.requires.size)

pub read_one-requires-clause-exists : goal.read_one-requires-clause-exists
read_one-requires-clause-exists g c = rw c.loop-i.invariant.volume (omega (arith, c.loop-i-test.true, c.requires.exist))

pub loop-i-preserved : goal.loop-i-preserved
loop-i-preserved g c = record {
  blocks = λ slots known.
      adds_more _ _ _ _ _ c.loop-i.i (c.loop-i.invariant.blocks slots known)
      (subst (λ v. AddsOfTrack v (c.args.tracks.first + c.loop-i.i) c.loop-i.found c.read_one.new.found) c.loop-i.invariant.volume
      (search (rules, tests)) slots known);
  volume = search (rules, tests);
  failures = search (rules, tests);
}

pub returns-clause-blocks : goal.returns-clause-blocks
returns-clause-blocks g c slots known = let are = c.loop-i.invariant.blocks slots known in search (rules, tests, are)

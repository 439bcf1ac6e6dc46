use Rattle.std.proofs.Common.{◌≡◌, ◌++◌, drop, fold}
use Rattle.volume_contents.specs.Checks.{sets_findings, claimed_by_sets, claimed_by_block}
use Rattle.volume_contents.proofs.Fronts.{Begins}
use Rattle.volume_contents.proofs.checks.check_sets.Given as goal

-- what is found so far and what is found of the others are all findings; so with the marks; and those before are the first of them
abbrev pub invariant-loop-block : goal.invariant-loop-block
invariant-loop-block l = let g = l.volume.geometry in let blocks = l.volume.blocks.now in record {
  found : l.findings.items ++ sets_findings g blocks l.marks (drop l.block-index blocks) ≡ l.fn.findings.items
      ++ sets_findings g blocks l.fn.marks blocks;
  marked : fold (claimed_by_block g blocks) l.marks (drop l.block-index blocks) ≡ claimed_by_sets g blocks l.fn.marks blocks;
  begins : Begins l.fn.findings.items l.findings.items;
}

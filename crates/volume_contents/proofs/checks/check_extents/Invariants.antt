use Rattle.std.proofs.Common.{◌≡◌, ◌++◌, drop, fold}
use Rattle.volume_contents.specs.Claims.{claimed_by}
use Rattle.volume_contents.specs.Checks.{extent_findings, claimed_behind}
use Rattle.volume_contents.proofs.Fronts.{Begins}
use Rattle.volume_contents.proofs.checks.check_extents.Given as goal

-- what is found so far and what is found of the others are all findings; so with the marks; and those before are the first of them
abbrev pub invariant-loop-extent : goal.invariant-loop-extent
invariant-loop-extent l = record {
  found : l.findings.items ++ extent_findings l.geometry l.place l.marks (drop l.extent-index l.extents)
      ≡ l.fn.findings.items ++ extent_findings l.geometry l.place l.fn.marks l.extents;
  marked : fold (claimed_by l.geometry) l.marks (drop l.extent-index l.extents) ≡ claimed_behind l.geometry l.fn.marks l.extents;
  begins : Begins l.fn.findings.items l.findings.items;
}

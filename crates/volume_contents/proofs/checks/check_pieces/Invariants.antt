use Rattle.std.proofs.Common.{◌≡◌, ◌++◌, drop}
use Rattle.volume_contents.specs.Checks.{piece_findings}
use Rattle.volume_contents.proofs.Fronts.{Begins}
use Rattle.volume_contents.proofs.checks.check_pieces.Given as goal

-- what is found so far and what is found of the others are all findings; and those before are the first of them
abbrev pub invariant-loop-piece : goal.invariant-loop-piece
invariant-loop-piece l = record {
  found : l.findings.items ++ piece_findings l.geometry l.place l.marks (drop l.piece-index l.pieces)
      ≡ l.fn.findings.items ++ piece_findings l.geometry l.place l.fn.marks l.pieces;
  begins : Begins l.fn.findings.items l.findings.items;
}

use Rattle.std.proofs.Common.{arith, rules, tests, length, ◌≡◌, refl, ◌==◌}
use Rattle.std.proofs.lemmas.Bool.Decides.{nat_tests}
use Rattle.volume_labels.specs.Ebcdic.{code_page_037}
use Rattle.s360_assembler.proofs.Positions.{passed, missed}
use Rattle.s360_assembler.proofs.constants.ebcdic_of.Goals as goal

size : length code_page_037 ≡ 256
unfolding code_page_037
size = refl

pub loop-byte-preserved : goal.loop-byte-preserved
loop-byte-preserved c = record {
  inside = omega arith;
  first = passed (λ d. d == c.args.wanted) code_page_037 c.loop-byte.byte (rw size (omega arith)) (search (rules, tests))
      c.loop-byte.invariant.first;
}

pub returns : goal.returns
returns c =
    grind (
      arith,
      nat_tests,
      missed (λ d. d == c.args.wanted) code_page_037 c.loop-byte.byte (rw size (omega arith)) c.loop-byte.invariant.first,
    )

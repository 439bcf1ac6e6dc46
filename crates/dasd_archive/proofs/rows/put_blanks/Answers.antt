use Rattle.std.proofs.Common.{rules, tests, ◌∙◌, ◌++◌, List, ℕ, ap, codes}
use Rattle.dasd_archive.proofs.Columns.{no_blanks, blanks_more}
use Rattle.dasd_archive.proofs.rows.put_blanks.Goals as goal

pub loop-i-init : goal.loop-i-init
loop-i-init c = record { text = no_blanks _; size = search (rules, tests) }

pub loop-i-preserved : goal.loop-i-preserved
loop-i-preserved c = record {
  text = c.put.ensures.text ∙ ap (λ (l : List ℕ). l ++ codes "   ") c.loop-i.invariant.text ∙ blanks_more _ c.loop-i.i;
  size = search (rules, tests);
}

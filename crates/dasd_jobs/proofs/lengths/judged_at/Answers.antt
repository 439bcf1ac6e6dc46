use Rattle.std.proofs.Common.{◌∙◌, [], sym}
use Rattle.std.proofs.lemmas.Bool.{false≢true}
use Rattle.dasd_jobs.specs.declared.reasons.Head.{Head}
use Rattle.dasd_jobs.proofs.Reached.{judged_last, judged_other, judged_default}
use Rattle.dasd_jobs.proofs.lengths.judged_at.Goals.{else-as_far-via-then-as_far+else-i-heads, else-as_far-via-else-as_far}
use Rattle.dasd_jobs.proofs.lengths.judged_at.Goals as goal

abbrev none : Head
none = record { header = []; len = 0 }

pub returns-then-i-heads : goal.returns-then-i-heads
returns-then-i-heads c d =
    let heads = c.args.heads.now in
    let i = c.args.i in cc (judged_last heads i none c.if-i-heads.true, judged_default c.args.as_far heads i none d c.requires)

pub returns : goal.returns
returns c d =
    let heads = c.args.heads.now in
    let i = c.args.i in judged_other c.args.as_far heads i none c.requires (λ is last. elim c.else-as_far.branch [
      | else-as_far-via-then-as_far+else-i-heads w ↦ absurd (w.if-i-heads.false last)
      | else-as_far-via-else-as_far w ↦ absurd (false≢true (sym w.if-as_far.false ∙ is))
    ]) ∙ judged_default c.args.as_far heads i none d c.requires

use Rattle.std.proofs.Common.{◌∙◌, ◌∷◌, ◌++◌, [], List, ℕ, ap}
use Rattle.dasd_archive.proofs.Columns.{digits_are}
use Rattle.dasd_archive.proofs.rows.put_byte.Goals as goal

pub returns-clause-text : goal.returns-clause-text
returns-clause-text c =
    c.push-2.ensures.items
    ∙ ap (λ (l : List ℕ). l ++ c.digit-2.result ∷ []) c.push.ensures.items
    ∙ digits_are c.args.line.now.items c.args.byte _ _ c.ranges.byte.fits c.digit.ensures c.digit-2.ensures

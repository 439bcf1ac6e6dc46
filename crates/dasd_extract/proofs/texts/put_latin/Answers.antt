use Rattle.std.proofs.Common.{◌∙◌, ◌≡◌, ◌+◌, ◌%◌, List, ℕ, [], ◌∷◌, ◌++◌, ap, sym, append_assoc}
use Rattle.dasd_extract.proofs.Spelled.{one_byte, two_bytes}
use Rattle.dasd_extract.proofs.texts.put_latin.Goals as goal

pub returns-then-character-lt128-clause-text : goal.returns-then-character-lt128-clause-text
returns-then-character-lt128-clause-text c =
    c.push.ensures.items ∙ ap (λ (l : List ℕ). c.args.text.now.items ++ l) (sym (one_byte c.args.character c.if-character-lt128.true))

pub returns-clause-text : goal.returns-clause-text
returns-clause-text c = rw (
  c.push-3.ensures.items,
  c.push-2.ensures.items,
  two_bytes c.args.character c.if-character-lt128.false c.ranges.character.fits,
) (simp (append_assoc))

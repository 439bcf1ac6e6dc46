use Rattle.std.proofs.Common.{◌/◌, ◌≤◌, ◌<◌, ℕ, List, [], ◌∷◌, ◌++◌, ⊎_elim, sym, ap, ◌∙◌, append_assoc, arith}
use Rattle.counted_io.specs.Text.{hexadecimal}
use Rattle.counted_io.proofs.Spelling.{last_glyph, last_behind, last_alone, two_at_least, one_fewer, within_eight}
use Rattle.counted_io.proofs.digits.+put_digits.Goals as goal

pub returns-then-width-lt2-clause-text : goal.returns-then-width-lt2-clause-text
returns-then-width-lt2-clause-text t c =
    c.push.ensures.ascii c.glyph.ensures.ascii
    ∙ ap (λ (l : List ℕ). c.args.digits.now.bytes ++ l) (ap (λ (g : ℕ). g ∷ []) c.glyph.ensures.glyph
    ∙ sym (last_alone c.args.width c.args.number c.if-width-lt2.true c.if-number-lt16.true))

pub put_digits-requires : goal.put_digits-requires
put_digits-requires t c =
    let wide : (c.args.number < 16 → 2 ≤ c.args.width) = λ l. ⊎_elim (λ p. p.1) (λ q. absurd (omega arith)) c.else-number-lt16.either in
    let two : 2 ≤ c.args.most = two_at_least c.args.width c.args.number c.args.most wide c.requires.width c.requires.number in
    (omega arith, (omega arith, (omega arith, (one_fewer c.args.number c.args.most c.requires.some c.requires.number, omega arith))))

pub returns-clause-text : goal.returns-clause-text
returns-clause-text t c =
    let wide : (c.args.number < 16 → 2 ≤ c.args.width) = λ l. ⊎_elim (λ p. p.1) (λ q. absurd (omega arith)) c.else-number-lt16.either in
    let last : List ℕ = last_glyph c.args.number ∷ [] in
    c.push-2.ensures.ascii c.glyph-2.ensures.ascii
    ∙ ap (λ (g : ℕ). c.put_digits.new.digits.bytes ++ (g ∷ [])) c.glyph-2.ensures.glyph
    ∙ ap (λ (l : List ℕ). l ++ last) c.put_digits.ensures.text
    ∙ append_assoc c.args.digits.now.bytes (hexadecimal c.saturating_sub.result (c.args.number / 16)) last
    ∙ ap (λ (l : List ℕ). c.args.digits.now.bytes ++ l)
    (ap (λ (w : ℕ). hexadecimal w (c.args.number / 16) ++ last) c.saturating_sub.ensures
    ∙ sym (last_behind c.args.width c.args.number wide (within_eight c.args.number c.args.most (omega arith) c.requires.number)))

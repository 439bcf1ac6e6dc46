use Rattle.std.proofs.Common.{◌≡◌, ◌/◌, ◌++◌, true, ℕ, List, [], ◌∷◌, sym, ap, ◌∙◌, append_assoc}
use Rattle.std.specs.Fmt.{digit_glyph}
use Rattle.counted_io.proofs.Spelling.{last_glyph, two_digits}
use Rattle.counted_io.proofs.digits.put_byte.Goals as goal

pub returns-clause-text : goal.returns-clause-text
returns-clause-text g c =
    let high : ℕ = c.glyph.result in
    let low : ℕ = c.glyph-2.result in
    let first : high ≡ digit_glyph true (c.args.byte / 16) = c.glyph.ensures.glyph ∙ ap (digit_glyph true) c.from.ensures in
    let last : low ≡ last_glyph c.args.byte = c.glyph-2.ensures.glyph ∙ ap (digit_glyph true) c.from-2.ensures in
    c.push-2.ensures.ascii c.glyph-2.ensures.ascii
    ∙ ap (λ (l : List ℕ). l ++ low ∷ []) (c.push.ensures.ascii c.glyph.ensures.ascii)
    ∙ append_assoc c.args.line.now.bytes (high ∷ []) (low ∷ [])
    ∙ ap (λ (l : List ℕ). c.args.line.now.bytes ++ l)
    (ap (λ (h : ℕ). h ∷ low ∷ []) first
    ∙ ap (λ (l : ℕ). digit_glyph true (c.args.byte / 16) ∷ l ∷ []) last
    ∙ sym (two_digits c.args.byte c.ranges.byte.fits))

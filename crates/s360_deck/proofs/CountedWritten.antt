-- Lines that are written one behind another.
use Rattle.std.proofs.Common.{◌≡◌, ◌<◌, get_or, arith, ℕ, zero, suc, List, [], ◌∷◌, ◌++◌, take, drop, length, refl, sym, ap, ◌∙◌, subst}
use Rattle.std.proofs.Common.{append_assoc}
use Rattle.counted_io.specs.Streams.{Stream, Takes, TakesFront}
use Rattle.counted_io.proofs.Written.{takes_more}
use Rattle.s360_laws.specs.declared.answers.Answer.{Answer}
use Rattle.s360_deck.specs.Lines.{lines_text, answer_text}

-- lines were written, and then the first bytes of those behind them
behind_lines : (a b c : Stream) (bytes more rest : List ℕ) → Takes a b bytes → TakesFront b c more
    → TakesFront a c (bytes ++ (more ++ rest))
behind_lines a b c bytes more rest first second = record {
  front = bytes ++ second.front;
  rest = second.rest ++ rest;
  whole =
      ap (λ l. bytes ++ l) (ap (λ l. l ++ rest) second.whole ∙ append_assoc second.front second.rest rest)
      ∙ sym (append_assoc bytes second.front (second.rest ++ rest));
  taken = takes_more a b c bytes second.front first second.taken;
}

-- the lines before one, that one, and those behind it
lines_apart : (answers : List Answer) (i : ℕ) (x : Answer) → i < length answers
    → lines_text answers ≡ lines_text (take i answers) ++ ((answer_text (get_or answers i x) ++ 10 ∷ [])
    ++ lines_text (drop (suc i) answers))
lines_apart [] i x h = absurd (omega (arith, h))
lines_apart (a ∷ later) zero x h = refl
lines_apart (a ∷ later) (suc i) x h =
    ap (λ l. (answer_text a ++ 10 ∷ []) ++ l) (lines_apart later i x (omega (arith, h)))
    ∙ sym (append_assoc (answer_text a ++ 10 ∷ []) (lines_text (take i later)) ((answer_text (get_or later i x) ++ 10 ∷ [])
    ++ lines_text (drop (suc i) later)))

-- lines were written, and then the first bytes of the next one
pub behind_line : (a b c : Stream) (answers : List Answer) (i : ℕ) (x : Answer) → i < length answers → get_or answers i x ≡ x
    → Takes a b (lines_text (take i answers)) → TakesFront b c (answer_text x ++ 10 ∷ []) → TakesFront a c (lines_text answers)
behind_line a b c answers i x within is first second =
    subst (TakesFront a c) (sym (lines_apart answers i x within))
    (behind_lines a b c (lines_text (take i answers)) _ (lines_text (drop (suc i) answers)) first
    (subst (λ (y : Answer). TakesFront b c (answer_text y ++ 10 ∷ [])) (sym is) second))

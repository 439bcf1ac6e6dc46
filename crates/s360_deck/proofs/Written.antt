-- Bytes that are written piece by piece.
use Rattle.std.proofs.Common.{◌≡◌, ◌<◌, get_or, arith, ℕ, zero, suc, List, [], ◌∷◌, ◌++◌, Option, None, Some, Err, take, drop, length, refl}
use Rattle.std.proofs.Common.{sym, ap, ◌∙◌, subst, append_assoc, append-nil, take-append-drop, ◌-◌, length-drop}
use Rattle.std.proofs.Math.Seq.{take-length}
use Rattle.std.specs.Io.KnownBytes.{Appends, Keeps}
use Rattle.std.proofs.KnownBytes.{Appends-trans, Appends-nil, Appends-kept}
use Rattle.s360_deck.specs.declared.runs.RunFault.{RunFault}
use Rattle.s360_deck.specs.declared.runs.RunFault.TheVariants.{Write}
use Rattle.s360_laws.specs.declared.answers.Answer.{Answer}
use Rattle.s360_deck.specs.Lines.{lines_text, answer_text}
use Rattle.s360_deck.specs.Runs.{WritesFront}

-- the first bytes are written, and these are left
abbrev pub AreLeft : (before after : Option (List ℕ)) → (bytes rest : List ℕ) → Type 0
AreLeft before after bytes rest = (front : List ℕ) × (bytes ≡ front ++ rest) × Appends before after front

pub all_left : (a : Option (List ℕ)) (bytes : List ℕ) → AreLeft a a bytes bytes
all_left a bytes = ([], refl, Appends-nil a)

-- a slice's end
pub slice_end : (rest : List ℕ) (n : ℕ) → take (length rest - n) (drop n rest) ≡ drop n rest
slice_end rest n = subst (λ k. take k (drop n rest) ≡ drop n rest) (length-drop n rest) (take-length (drop n rest))

pub fewer_left : (a b c : Option (List ℕ)) (bytes rest behind : List ℕ) (n : ℕ) → behind ≡ drop n rest → AreLeft a b bytes rest
    → Appends b c (take n rest) → AreLeft a c bytes behind
fewer_left a b c bytes rest behind n is h w = (
  h.0 ++ take n rest,
  h.1 ∙ ap (λ l. h.0 ++ l) (sym (take-append-drop n rest)) ∙ sym (append_assoc h.0 (take n rest) (drop n rest))
      ∙ ap (λ l. (h.0 ++ take n rest) ++ l) (sym is),
  Appends-trans a b c h.0 (take n rest) h.2 w,
)

pub none_left : (a b : Option (List ℕ)) (bytes rest : List ℕ) → rest ≡ [] → AreLeft a b bytes rest → Appends a b bytes
none_left a b bytes rest e h = subst (Appends a b) (sym (h.1 ∙ ap (λ l. h.0 ++ l) e ∙ append-nil h.0)) h.2

-- a write that failed, or took nothing
pub stopped : (a b c : Option (List ℕ)) (bytes rest : List ℕ) → AreLeft a b bytes rest → Keeps b c → WritesFront (Err Write) a c bytes
stopped a b c bytes rest h k = (refl, (h.0, rest, h.1, Appends-kept a b c h.0 h.2 k))

keeps_of_none : (b c : Option (List ℕ)) → Appends b c [] → Keeps b c
keeps_of_none None c h = tt
keeps_of_none (Some xs) None h = absurd h
keeps_of_none (Some xs) (Some ys) h = h ∙ append-nil xs

pub took_none : (a b c : Option (List ℕ)) (bytes rest : List ℕ) → AreLeft a b bytes rest → Appends b c []
    → WritesFront (Err Write) a c bytes
took_none a b c bytes rest h k = stopped a b c bytes rest h (keeps_of_none b c k)

-- lines were written, and then the first bytes of those behind them
pub behind_lines : (a b c : Option (List ℕ)) (fault : RunFault) (bytes more rest : List ℕ) → Appends a b bytes
    → WritesFront (Err fault) b c more → WritesFront (Err fault) a c (bytes ++ (more ++ rest))
behind_lines a b c fault bytes more rest first w =
    let second = w.1 in (
      w.0,
      (
        bytes ++ second.0,
        second.1 ++ rest,
        ap (λ l. bytes ++ l) (ap (λ l. l ++ rest) second.2 ∙ append_assoc second.0 second.1 rest)
            ∙ sym (append_assoc bytes second.0 (second.1 ++ rest)),
        Appends-trans a b c bytes second.0 first second.3,
      ),
    )

-- the lines before one, that one, and those behind it
lines_apart : (answers : List Answer) (i : ℕ) (x : Answer) → i < length answers
    → lines_text answers ≡ lines_text (take i answers) ++ ((answer_text (get_or answers i x) ++ 10 ∷ [])
    ++ lines_text (drop (suc i) answers))
lines_apart [] i x h = absurd (omega (arith, h))
lines_apart (a ∷ later) zero x h = refl
lines_apart (a ∷ later) (suc i) x h =
    ap (λ l. (answer_text a ++ 10 ∷ []) ++ l) (lines_apart later i x (omega (arith, h)))
    ∙ sym (append_assoc (answer_text a ++ 10 ∷ []) (lines_text (take i later)) ((answer_text (get_or later i x) ++ 10 ∷ [])
    ++ lines_text (drop (suc i) later)))

-- lines were written, and then the first bytes of the next one
pub behind_line : (a b c : Option (List ℕ)) (answers : List Answer) (i : ℕ) (x : Answer) (fault : RunFault) → i < length answers
    → get_or answers i x ≡ x
    → Appends a b (lines_text (take i answers)) → WritesFront (Err fault) b c (answer_text x ++ 10 ∷ [])
    → WritesFront (Err fault) a c (lines_text answers)
behind_line a b c answers i x fault within is first w =
    subst (WritesFront (Err fault) a c) (sym (lines_apart answers i x within))
    (behind_lines a b c fault (lines_text (take i answers)) _ (lines_text (drop (suc i) answers)) first
    (subst (λ (y : Answer). WritesFront (Err fault) b c (answer_text y ++ 10 ∷ [])) (sym is) w))

-- A line that is put together piece by piece.
use Rattle.std.proofs.Common.{ℕ, ◌≡◌, ◌∙◌, List, [], ◌∷◌, ◌++◌, append_assoc, append-nil, refl, sym, ap}
use Rattle.std.specs.List.{concat}

-- a line, and these pieces behind it, one after the other
abbrev pub together : List ℕ → List (List ℕ) → List ℕ
together line [] = line
together line (piece ∷ pieces) = together (line ++ piece) pieces

pub together_is : (line : List ℕ) (pieces : List (List ℕ)) → together line pieces ≡ line ++ concat pieces
together_is line [] = sym (append-nil line)
together_is line (piece ∷ pieces) = together_is (line ++ piece) pieces ∙ append_assoc line piece (concat pieces)

-- pieces behind pieces
pub pieces_behind : (pieces more : List (List ℕ)) → concat pieces ++ concat more ≡ concat (pieces ++ more)
pieces_behind [] more = refl
pieces_behind (piece ∷ pieces) more = append_assoc piece (concat pieces) (concat more) ∙ ap (λ l. piece ++ l) (pieces_behind pieces more)

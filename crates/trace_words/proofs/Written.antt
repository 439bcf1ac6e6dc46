-- What a value leaves that is written into a room of fixed size.
use Rattle.std.proofs.Common.{◌≡◌, subst, ℕ, false, List, ◌++◌}
use Rattle.std.specs.Prelude.{Option, IfSome, Result, Ok, Err, OnOk, is_err}
use Rattle.std.proofs.lemmas.Bool.{false≢true}
use Rattle.std.specs.Fmt.{WritesText}
use Rattle.std.proofs.Output.{contents_after_writes, if_some_weaken}

-- the text of the value stands behind what stood there
pub text_behind : {W : Type 0} (took : W → List ℕ → W → Type 0) (contents : W → List ℕ)
    (appends : (w : W) (bs : List ℕ) (v : W) → took w bs v → contents v ≡ contents w ++ bs)
    (o : Option (List ℕ)) (before behind : W) → WritesText took before o behind
    → IfSome o (λ bs. contents behind ≡ contents before ++ bs)
text_behind took contents appends o before behind = if_some_weaken o _ _ (λ bs writes. contents_after_writes took contents appends before bs
    behind writes)

-- what is known of a text that was put is known of the text of the value
pub known_of_text : {E : Type 0} (r : Result (Unit {0}) E) (o : Option (List ℕ)) (text : List ℕ) (P : List ℕ → Type 0)
    → OnOk r (P text) → IfSome o (λ bs. text ≡ bs) → OnOk r (IfSome o P)
known_of_text (Ok u) o text P known is = if_some_weaken o (λ bs. text ≡ bs) P (λ bs e. subst P e known) is
known_of_text (Err e) o text P known is = tt

-- what a call leaves that has not failed
pub known_of_ok : {E P : Type 0} (r : Result (Unit {0}) E) → false ≡ is_err r → OnOk r P → P
known_of_ok (Ok u) is known = known
known_of_ok (Err e) is known = absurd (false≢true is)

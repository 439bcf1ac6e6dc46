-- What is written in several steps.
use Rattle.std.proofs.Common.{ℕ, List, ◌++◌, Option, Result, Ok, Err, OnOk}
use Rattle.std.proofs.KnownBytes.{Appends-trans}
use Rattle.std.specs.Io.KnownBytes.{Appends}

-- behind a step that was taken, one that may have failed
pub after : {A E : Type 0} (r : Result A E) (a b c : Option (List ℕ)) (first next : List ℕ) → Appends a b first → OnOk r (Appends b c next)
    → OnOk r (Appends a c (first ++ next))
after (Ok x) a b c first next is then = Appends-trans a b c first next is then
after (Err e) a b c first next is then = then

-- Changes that are made one after another.
use Rattle.std.proofs.Common.{◌≡◌, ℕ, ◌+◌, ◌<◌, List, length, drop, get_or, fold}
use Rattle.std.proofs.lemmas.List.{drop_more}

-- one more is made, and fewer are left
pub more_changed : {X S : Type 0} (one : S → X → S) (cur new old : S) (changes : List X) (i : ℕ) (d : X) → i < length changes
    → new ≡ one cur (get_or changes i d) → fold one cur (drop i changes) ≡ fold one old changes
    → fold one new (drop (i + 1) changes) ≡ fold one old changes
more_changed one cur new old changes i d there is was = cc (drop_more changes i d there)

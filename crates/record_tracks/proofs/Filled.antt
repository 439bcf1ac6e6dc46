-- Slots that are written from their beginning on, with zeros behind what was written.
use Rattle.std.proofs.Common.{◌≡◌, ◌∙◌, ap, refl, ℕ, ◌-◌, List, [], ◌++◌, length, replicate, ◌+◌, arith, append_assoc, length-append}
use Rattle.std.proofs.lemmas.List.{length-replicate}
use Rattle.record_tracks.specs.Filled.{filled, PutBehind}

-- bytes behind a front of which it is known that the slot has it, and its size by another slot's
pub put_behind : (n : ℕ) (before now front bytes : List ℕ) (at : ℕ) → PutBehind at bytes before now → length before ≡ n
    → length front ≡ at → before ≡ filled n front → now ≡ filled n (front ++ bytes)
put_behind n before now front bytes at puts size is whole = rw size at (puts front is (rw size whole))

-- bytes behind others
pub two_puts : (at next : ℕ) (x y s0 s1 s2 : List ℕ) → PutBehind at x s0 s1 → PutBehind next y s1 s2 → next ≡ at + length x
    → length s1 ≡ length s0 → PutBehind at (x ++ y) s0 s2
two_puts at next x y s0 s1 s2 one two far size front is whole =
    let long : length (front ++ x) ≡ next = omega (arith, length-append front x) in
    cc (put_behind (length s0) s1 s2 (front ++ x) y next two size long (one front is whole), append_assoc front x y)

-- bytes in a slot of zeros
pub begun : (s0 s1 s2 bytes : List ℕ) → s1 ≡ replicate (length s0) 0 → PutBehind 0 bytes s1 s2 → s2 ≡ filled (length s0) bytes
begun s0 s1 s2 bytes zeros puts =
    let none : length s0 ≡ length s0 - 0 = omega arith in
    put_behind (length s0) s1 s2 [] bytes 0 puts (ap length zeros ∙ length-replicate (length s0) 0) refl
    (cc)

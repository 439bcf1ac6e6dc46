-- Bytes after changes.
use Rattle.std.proofs.Common.{◌≡◌, ⊎_elim, ℕ, ◌-◌, List, [], ◌∷◌, get_or, true, false, cond, ◌||◌, refl, sym, ◌∙◌, ap, true≢false}
use Rattle.std.proofs.lemmas.Bool.{cases_Bool, or_parts}
use Rattle.atomic_save.specs.Changes.{Note, covers, byte_of, byte_after, touches}

-- a change makes the same of two bytes where it covers their place
pub covered : (n : Note) (file k a b : ℕ) → covers n file k ≡ true → byte_of n file k a ≡ byte_of n file k b
covered n file k a b is = ap (λ t. cond t (get_or n.bytes (k - n.at) 0) a) is ∙ sym (ap (λ t. cond t (get_or n.bytes (k - n.at) 0) b) is)

pub uncovered : (n : Note) (file k b : ℕ) → covers n file k ≡ false → byte_of n file k b ≡ b
uncovered n file k b isnt = ap (λ t. cond t (get_or n.bytes (k - n.at) 0) b) isnt

-- where no change touches it a byte stays
pub untouched : (ns : List Note) (file k b : ℕ) → touches ns file k ≡ false → byte_after ns file k b ≡ b
untouched [] file k b h = refl
untouched (n ∷ ns) file k b h =
    ap (byte_after ns file k) (uncovered n file k b ((or_parts (covers n file k) (touches ns file k) h).0))
    ∙ untouched ns file k b ((or_parts (covers n file k) (touches ns file k) h).1)

-- where one does it doesn't matter which byte was there
pub touched : (ns : List Note) (file k a b : ℕ) → touches ns file k ≡ true → byte_after ns file k a ≡ byte_after ns file k b
touched [] file k a b h = absurd (true≢false (sym h))
touched (n ∷ ns) file k a b h =
    ⊎_elim (λ is. ap (byte_after ns file k) (covered n file k a b is))
    (λ isnt. touched ns file k (byte_of n file k a) (byte_of n file k b) (sym (ap (λ t. t || touches ns file k) isnt) ∙ h))
    (cases_Bool (covers n file k))

-- changes that are made again change nothing
pub after_twice : (ns : List Note) (file k b : ℕ) → byte_after ns file k (byte_after ns file k b) ≡ byte_after ns file k b
after_twice ns file k b =
    ⊎_elim (λ is. touched ns file k (byte_after ns file k b) b is) (λ isnt. ap (byte_after ns file k) (untouched ns file k b isnt))
    (cases_Bool (touches ns file k))

-- changes make the same of bytes that differ only where they touch them
pub same_after : (ns : List Note) (held read : ℕ → ℕ → ℕ) → ((file k : ℕ) → touches ns file k ≡ false → read file k ≡ held file k)
    → (file k : ℕ) → byte_after ns file k (read file k) ≡ byte_after ns file k (held file k)
same_after ns held read same file k =
    ⊎_elim (λ is. touched ns file k (read file k) (held file k) is) (λ isnt. ap (byte_after ns file k) (same file k isnt))
    (cases_Bool (touches ns file k))

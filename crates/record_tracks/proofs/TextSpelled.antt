-- The bytes of characters, one after another.
use Rattle.std.proofs.Common.{◌∙◌, ◌≡◌, ◌<◌, ◌≤◌, ◌+◌, ℕ, true, List, [], ◌∷◌, ◌++◌, length, drop, get_or, append_assoc, append-nil, ap}
use Rattle.std.proofs.Common.{refl, sym, Option, Some, None}
use Rattle.std.proofs.lemmas.List.{at_drop_more, at_drop_all}
use Rattle.record_tracks.specs.{Codes.code_of, Codes.codes_of, Codes.before, Putting.PutsCodes}

-- these bytes before others, if there are such
abbrev pub behind : List ℕ → Option (List ℕ) → Option (List ℕ)
behind bytes None = None
behind bytes (Some others) = Some (bytes ++ others)

-- So many characters have these bytes: those of all are these, and then those of the rest.
pub record SpelledTo (cs : List ℕ) (n : ℕ) (start now : List ℕ) : Type 0 where
  pub bytes : List ℕ
  pub put : now ≡ start ++ bytes
  pub rest : codes_of cs ≡ behind bytes (codes_of (drop n cs))

same : (o : Option (List ℕ)) → o ≡ behind [] o
same None = refl
same (Some l) = refl

pub none_spelled : (cs start : List ℕ) → SpelledTo cs 0 start start
none_spelled cs start = record { bytes = []; put = sym (append-nil start); rest = same (codes_of cs) }

next : (cs : List ℕ) (n c : ℕ) → n < length cs → c ≡ get_or cs n c → codes_of (drop n cs) ≡ before (code_of c) (codes_of (drop (n + 1) cs))
unfolding codes_of
next cs n c inside is = at_drop_more codes_of cs n c inside ∙ ap (λ c. codes_of (c ∷ drop (n + 1) cs)) (sym is)

shifted : (bytes : List ℕ) (byte : ℕ) (o : Option (List ℕ)) → behind bytes (before (Some byte) o) ≡ behind (bytes ++ byte ∷ []) o
shifted bytes byte None = refl
shifted bytes byte (Some l) = ap Some (sym (append_assoc bytes (byte ∷ []) l))

-- one character more
pub one_spelled : (cs start now after : List ℕ) (n c byte : ℕ) → (n < length cs) × (c ≡ get_or cs n c) → SpelledTo cs n start now
    → Some byte ≡ code_of c → after ≡ now ++ byte ∷ [] → SpelledTo cs (n + 1) start after
one_spelled cs start now after n c byte at h is put = record {
  bytes = h.bytes ++ byte ∷ [];
  put = cc (put, append_assoc start h.bytes (byte ∷ []));
  rest = cc (next cs n c at.0 at.1, shifted h.bytes byte (codes_of (drop (n + 1) cs)));
}

-- a character that has no byte
pub not_spelled : (cs start now : List ℕ) (n c : ℕ) → (n < length cs) × (c ≡ get_or cs n c) → SpelledTo cs n start now → None ≡ code_of c
    → codes_of cs ≡ None
not_spelled cs start now n c at h is = cc (next cs n c at.0 at.1)

-- all characters have bytes
pub all_spelled : (cs start now : List ℕ) (n : ℕ) → length cs ≤ n → SpelledTo cs n start now → PutsCodes (codes_of cs) start now true
unfolding codes_of
all_spelled cs start now n all h = (h.bytes, cc (at_drop_all codes_of cs n all, append-nil h.bytes), h.put)

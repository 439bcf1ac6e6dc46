-- Words that are read byte by byte.
use Rattle.std.proofs.Common.{ℕ, suc, ◌+◌, ◌-◌, ◌≤◌, ◌≡◌, List, [], ◌∷◌, ◌++◌, Option, Some, None, option_map, Result, Ok, Err, OnOk}
use Rattle.std.proofs.Common.{length, get_or, Bool, true, false, ◌==◌, if◌then◌else◌, nat_lt, nat_eq, ne_eqb, replicate, take, drop}
use Rattle.std.proofs.Common.{append_assoc, length-append, length-drop, ap, ◌∙◌, refl, arith}
use Rattle.std.proofs.lemmas.Bool.{le-ltb}
use Rattle.std.proofs.lemmas.List.{take_rest, drop-replicate}
use Rattle.std.specs.Io.KnownBytes.{Appends}
use Rattle.std.proofs.KnownBytes.{Appends-trans}
use Rattle.set_forms.specs.Numbers.{byte_of, bytes_of}
use Rattle.set_forms.specs.Names.{byte_before, left_behind, bytes_within, name_bytes, name_of}

paired : (bytes : List ℕ) (byte : ℕ) (more : Option (List ℕ)) → option_map (λ more. (bytes ++ byte ∷ []) ++ more) more
    ≡ option_map (λ more. bytes ++ more) (option_map (λ more. byte ∷ more) more)
paired bytes byte (Some more) = ap Some (append_assoc bytes (byte ∷ []) more)
paired bytes byte None = refl

-- one byte more, of two digits
pub one_byte_more : (bytes rest : List ℕ) (all : Option (List ℕ)) (byte : ℕ) → 2 ≤ length rest
    → Some byte ≡ byte_of (get_or rest 0 0) (get_or rest 1 0)
    → option_map (λ more. bytes ++ more) (bytes_of rest) ≡ all → option_map (λ more. (bytes ++ byte ∷ []) ++ more)
    (bytes_of (take (length rest - 2) (drop 2 rest))) ≡ all
one_byte_more bytes [] all byte long spelled is = absurd (omega arith)
one_byte_more bytes (a ∷ []) all byte long spelled is = absurd (omega arith)
one_byte_more bytes (a ∷ b ∷ rest) all byte long spelled is =
    rw (take_rest (a ∷ b ∷ rest) 2) (paired bytes byte (bytes_of rest) ∙ rw (← spelled) at is)

-- one byte of a name more
pub one_name_byte_more : (bytes rest left : List ℕ) (size : ℕ) (all : Option (List ℕ)) (byte : ℕ) → 1 ≤ length rest
    → length bytes + length rest ≤ size → Some byte ≡ byte_before (get_or rest 0 0) (take (length rest - 1) (drop 1 rest))
    → left ≡ left_behind (get_or rest 0 0) (take (length rest - 1) (drop 1 rest))
    → option_map (λ more. bytes ++ more) (bytes_within (size - length bytes) rest) ≡ all
    → option_map (λ more. (bytes ++ byte ∷ []) ++ more) (bytes_within (size - length (bytes ++ byte ∷ [])) left) ≡ all
one_name_byte_more bytes [] left size all byte some fits spelled behind is = absurd (omega arith)
one_name_byte_more bytes (c ∷ rest) left size all byte some fits spelled behind is =
    let one : size - length bytes ≡ suc (size - length (bytes ++ byte ∷ [])) = omega (arith, length-append bytes (byte ∷ [])) in
    let spelled : Some byte ≡ byte_before c rest = rw (take_rest (c ∷ rest) 1) at spelled in
    let behind : left ≡ left_behind c rest = rw (take_rest (c ∷ rest) 1) at behind in
    rw behind (paired bytes byte (bytes_within (size - length (bytes ++ byte ∷ [])) (left_behind c rest)) ∙ rw (one, ← spelled) at is)

-- one text behind another
pub after : {A E : Type 0} (r : Result A E) (a b c : Option (List ℕ)) (first second : List ℕ) → Appends a b first
    → OnOk r (Appends b c second) → OnOk r (Appends a c (first ++ second))
after (Ok _) a b c first second x y = Appends-trans a b c first second x y
after (Err _) a b c first second x y = tt

-- no byte of a name more
pub no_name_byte : (bytes rest : List ℕ) (size : ℕ) (all : Option (List ℕ)) → 1 ≤ length rest → length bytes + length rest ≤ size
    → byte_before (get_or rest 0 0) (take (length rest - 1) (drop 1 rest)) ≡ None
    → option_map (λ more. bytes ++ more) (bytes_within (size - length bytes) rest) ≡ all → None ≡ all
no_name_byte bytes [] size all some fits none is = absurd (omega arith)
no_name_byte bytes (c ∷ rest) size all some fits none is =
    let one : size - length bytes ≡ suc (size - length bytes - 1) = omega arith in
    let none : byte_before c rest ≡ None = rw (take_rest (c ∷ rest) 1) at none in rw (one, none) at is

-- what is left behind a byte is shorter
pub left_shorter : (rest left : List ℕ) → 1 ≤ length rest
    → left ≡ left_behind (get_or rest 0 0) (take (length rest - 1) (drop 1 rest)) → length left + 1 ≤ length rest
left_shorter [] left some is = absurd (omega arith)
left_shorter (c ∷ rest) left some is = let is : left ≡ left_behind c rest = rw (take_rest (c ∷ rest) 1) at is in rw is (go (c == 37) rest)
  where
    go : (b : Bool) (rest : List ℕ) → length (if b then drop 2 rest else rest) + 1 ≤ length (c ∷ rest)
    go true rest = simp length-drop (omega arith)
    go false rest = omega arith

-- a name that has room, put before blanks
pub put_before : (name word bytes copied : List ℕ) (len : ℕ) → length word ≤ 132 → Some bytes ≡ name_bytes word → len ≡ length bytes
    → (len ≡ 0 → ⊥) → len ≤ length name → copied ≡ bytes → name ≡ replicate (length name) 64
    → Some (copied ++ drop len name) ≡ name_of (length name) word
unfolding name_of
put_before name word bytes copied len short spelled is some fits same blanks =
    let rest : drop len name ≡ replicate (length name - length bytes) 64 =
    ap (λ (l : List ℕ). drop len l) blanks ∙ drop-replicate len (length name) 64 ∙ ap (λ n. replicate (length name - n) 64) is in
    let not_long : nat_lt 132 (length word) ≡ false = le-ltb 132 (length word) short in
    let some : nat_eq (length bytes) 0 ≡ false = ne_eqb (length bytes) 0 (λ e. some (is ∙ e)) in
    let inside : nat_lt (length name) (length bytes) ≡ false = le-ltb (length name) (length bytes) (omega arith) in
    rw (not_long, ← spelled, some, inside, rest, same) refl

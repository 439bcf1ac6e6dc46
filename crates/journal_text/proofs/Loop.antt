-- Reading one after the other, as a loop does.
use Rattle.std.specs.List.{flat_map}
use Rattle.std.proofs.Common.{◌≡◌, ℕ, zero, suc, length, get_or, take, map, ◌-◌, ◌+◌, ◌≤◌, ◌<◌, List, [], ◌∷◌, ◌++◌, Result, Ok, Err, refl}
use Rattle.std.proofs.Common.{sym, ap, ◌∙◌, append_assoc, arith}
use Rattle.std.proofs.lemmas.List.{append-nil}
use Rattle.journal_text.specs.declared.faults.JournalFault.{JournalFault}
use Rattle.journal_text.specs.declared.faults.JournalFault.TheVariants.{OutOfMemory, Foreign, Later, Truncated, Damaged}
use Rattle.journal_text.specs.Reading.{◌>>=◌, Fails, items_at}

module _ {X : Type 0} (item_at : List ℕ → Result (X × List ℕ) JournalFault) where
  -- what was read before, and what is still read
  abbrev pub with_front : List X → Result (List X × List ℕ) JournalFault → Result (List X × List ℕ) JournalFault
  with_front front read = read >>= λ x. Ok (front ++ x.0, x.1)

  regroup : (front : List X) (n : X) (read : Result (List X × List ℕ) JournalFault)
      → with_front front (read >>= λ x. Ok (n ∷ x.0, x.1)) ≡ with_front (front ++ n ∷ []) read
  regroup front n (Ok x) = ap (λ (ns : List X). Ok (ns, x.1)) (simp append_assoc)
  regroup front n (Err f) = refl

  pub goes_on : (front : List X) (count i : ℕ) (bytes : List ℕ) (n : X) (after : List ℕ) (total : Result (List X × List ℕ) JournalFault)
      → i < count → item_at bytes ≡ Ok (n, after)
      → with_front front (items_at item_at (count - i) bytes) ≡ total
      → with_front (front ++ n ∷ []) (items_at item_at (count - (i + 1)) after) ≡ total
  unfolding items_at
  goes_on front count i bytes n after total lt h so_far =
      let k : count - i ≡ suc (count - (i + 1)) = omega arith in
      let one : with_front front (items_at item_at (count - i) bytes)
      ≡ with_front (front ++ n ∷ []) (items_at item_at (count - (i + 1)) after) =
      rw (k, h) (regroup front n (items_at item_at (count - (i + 1)) after)) in
      sym one ∙ so_far

  stops : (e : JournalFault) (front : List X) (count i : ℕ) (bytes : List ℕ) (total : Result (List X × List ℕ) JournalFault) → i < count
      → item_at bytes ≡ Err e
      → with_front front (items_at item_at (count - i) bytes) ≡ total → total ≡ Err e
  unfolding items_at
  stops e front count i bytes total lt h so_far =
      let k : count - i ≡ suc (count - (i + 1)) = omega arith in
      let one : with_front front (items_at item_at (count - i) bytes) ≡ Err e = rw (k, h) refl in
      sym so_far ∙ one

  pub ends : (e : JournalFault) (front : List X) (count i : ℕ) (bytes : List ℕ) (total : Result (List X × List ℕ) JournalFault) → i < count
      → Fails e (item_at bytes)
      → with_front front (items_at item_at (count - i) bytes) ≡ total → Fails e total
  ends OutOfMemory front count i bytes total lt h so_far = tt
  ends Foreign front count i bytes total lt h so_far = stops Foreign front count i bytes total lt h so_far
  ends Later front count i bytes total lt h so_far = stops Later front count i bytes total lt h so_far
  ends Truncated front count i bytes total lt h so_far = stops Truncated front count i bytes total lt h so_far
  ends Damaged front count i bytes total lt h so_far = stops Damaged front count i bytes total lt h so_far

  pub is_done : (front : List X) (count i : ℕ) (bytes : List ℕ) (total : Result (List X × List ℕ) JournalFault) → count ≤ i
      → with_front front (items_at item_at (count - i) bytes) ≡ total → total ≡ Ok (front, bytes)
  unfolding items_at
  is_done front count i bytes total le so_far =
      let k : count - i ≡ 0 = omega arith in
      let one : with_front front (items_at item_at (count - i) bytes) ≡ Ok (front, bytes) =
      rw k (ap (λ (ns : List X). Ok (ns, bytes)) (append-nil front)) in
      sym so_far ∙ one

-- what is spelled with one more
next_one : {A X : Type 0} (view : A → X) (text : X → List ℕ) (xs : List A) (i : ℕ) (x : A) → i < length xs → x ≡ get_or xs i x
    → flat_map text (map view (take (suc i) xs)) ≡ flat_map text (map view (take i xs)) ++ text (view x)
next_one view text [] i x lt is = absurd (omega (arith, lt))
next_one view text (y ∷ xs) zero x lt is = ap (λ z. text (view z) ++ []) (sym is) ∙ append-nil (text (view x))
next_one view text (y ∷ xs) (suc i) x lt is =
    ap (λ (l : List ℕ). text (view y) ++ l) (next_one view text xs i x (omega (arith, lt)) is)
    ∙ sym (append_assoc (text (view y)) (flat_map text (map view (take i xs))) (text (view x)))

pub one_more : {A X : Type 0} (view : A → X) (text : X → List ℕ) (xs : List A) (i : ℕ) (x : A) → i < length xs → x ≡ get_or xs i x
    → flat_map text (map view (take (i + 1) xs)) ≡ flat_map text (map view (take i xs)) ++ text (view x)
one_more view text xs i x lt is = let e : i + 1 ≡ suc i = omega arith in rw e (next_one view text xs i x lt is)

-- a text that was added, and those after it
pub added : (out text rest first new : List ℕ) → first ≡ out ++ text → new ≡ first ++ rest → new ≡ out ++ (text ++ rest)
added out text rest first new one others = others ∙ ap (λ (l : List ℕ). l ++ rest) one ∙ append_assoc out text rest

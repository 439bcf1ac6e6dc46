-- Bytes that may move one after another move at once.
use Rattle.std.proofs.Common.{add-one, ◌≡◌, ℕ, zero, suc, ◌+◌, ◌-◌, refl, sym, ap, ◌∙◌, arith, true, false, Bool, cond, not, ◌&&◌, List, []}
use Rattle.std.proofs.Common.{◌∷◌, ◌++◌, length, take, drop}
use Rattle.std.proofs.Math.Seq.{take-add}
use Rattle.std.proofs.lemmas.Bool.{cond_both}
use Rattle.std.proofs.lemmas.List.{drop-drop, append_assoc, append-nil, length-append}
use Rattle.std.specs.Prelude.{None}
use Rattle.s360_words.specs.Storage.{overwritten, Storage, stored}
use Rattle.s360_words.specs.Words.{skips}
use Rattle.s360_words.proofs.Overwriting.{overwritten-none}
use Rattle.ckd_command.specs.Drive.{given, Open, gives}
use Rattle.s360_laws.specs.Laws.{MoveAtOnce}
use Rattle.s360_laws.specs.Scripts.{units}
use Rattle.s360_laws.specs.Transfers.{Transfer, next_bytes, after_bytes}
use Rattle.s360_laws.specs.Units.{on_next, next_moved, walk, Moving}

-- a byte, and the others behind it
written_in_two : (b : List ℕ) (a x : ℕ) (ys : List ℕ) → overwritten (overwritten b a (x ∷ [])) (suc a) ys ≡ overwritten b a (x ∷ ys)
written_in_two [] a x ys = refl
written_in_two (c ∷ b) zero x ys = ap (λ r. x ∷ overwritten r zero ys) (overwritten-none b zero [] refl)
written_in_two (c ∷ b) (suc a) x ys = ap (λ r. c ∷ r) (written_in_two b a x ys)

-- What moves, by its parts: whether the drive gives, whether it stores, the bytes given, those so far, the address and storage.

abbrev nexts : Bool → ℕ → List ℕ → List ℕ → ℕ → List ℕ → List ℕ
nexts g m given bytes a storage = cond g (take m (drop (length bytes) given)) (take m (drop a storage))

abbrev after : Bool → Storage → ℕ → List ℕ → Storage
after w s a new = cond w (stored s a new) s

taken_in_two : (m i : ℕ) (l : List ℕ) → take (suc m) (drop i l) ≡ take 1 (drop i l) ++ take m (drop (i + 1) l)
taken_in_two m i l =
    let e : suc m ≡ 1 + m = omega arith in
    ap (λ n. take n (drop i l)) e ∙ take-add 1 m (drop i l) ∙ ap (λ r. take 1 (drop i l) ++ take m r) (drop-drop 1 i l)

one_longer : (bytes new : List ℕ) → 1 ≡ length new → length bytes + 1 ≡ length (bytes ++ new)
one_longer bytes new h = ap (λ n. length bytes + n) h ∙ sym (length-append bytes new)

-- one byte that moves from or to an address of storage
module _ (s : Storage) (a : ℕ) (new : List ℕ) (one : 1 ≡ length new) where
  -- the bytes of suc m are the first and the m behind it
  nexts_in_two : (g k : Bool) (m : ℕ) (given bytes : List ℕ) → new ≡ nexts g 1 given bytes a s.bytes
      → nexts g (suc m) given bytes a s.bytes ≡ new ++ nexts g m given (bytes ++ new) (a + 1) (after (g && k) s a new).bytes
  nexts_in_two true k m given bytes e =
      taken_in_two m (length bytes) given ∙ ap (λ r. r ++ take m (drop (length bytes + 1) given)) (sym e)
      ∙ ap (λ n. new ++ take m (drop n given)) (one_longer bytes new one)
  nexts_in_two false k m given bytes e = taken_in_two m a s.bytes ∙ ap (λ r. r ++ take m (drop (a + 1) s.bytes)) (sym e)

  stored_in_two : (w : Bool) (more : List ℕ) → after w (after w s a new) (a + 1) more ≡ after w s a (new ++ more)
  stored_in_two w more = go w new one
    where
      go : (w : Bool) (new : List ℕ) → 1 ≡ length new → after w (after w s a new) (a + 1) more ≡ after w s a (new ++ more)
      go true (x ∷ []) h = rw add-one (ap (λ b. record s { bytes = b }) (written_in_two s.bytes a x more))
      go w new h = grind arith

moved_in_two : (m : ℕ) (o : Open) (p : Transfer) → 1 ≡ length (next_bytes 1 o p) → after_bytes m o (after_bytes 1 o p)
    ≡ after_bytes (suc m) o p
moved_in_two m o p h =
    let w = gives o && not (skips p.ccw) in
    let new = next_bytes 1 o p in
    let two = nexts_in_two p.storage p.address new h (gives o) (not (skips p.ccw)) m (given o) p.bytes refl in
    let less : p.place.residual - 1 - m ≡ p.place.residual - suc m = omega arith in
    let more : p.address + 1 + m ≡ p.address + suc m = omega arith in
    let storage = stored_in_two p.storage p.address new h w (next_bytes m o (after_bytes 1 o p)) in
    let bytes = append_assoc p.bytes new (next_bytes m o (after_bytes 1 o p)) in
    cc

moved_none : (o : Open) (p : Transfer) → after_bytes 0 o p ≡ p
moved_none o p =
    let none : next_bytes 0 o p ≡ [] = cond_both (gives o) [] [] (λ l. l ≡ []) (λ e. refl) (λ e. refl) in
    let w = gives o && not (skips p.ccw) in
    let same : after w p.storage p.address [] ≡ p.storage =
    cond_both w _ _ (λ s. s ≡ p.storage) (λ e. ap (λ b. record p.storage { bytes = b })
    (overwritten-none p.storage.bytes p.address [] refl)) (λ e. refl) in
    let less : p.place.residual - 0 ≡ p.place.residual = omega arith in
    let more : p.address + 0 ≡ p.address = omega arith in
    let bytes = append-nil p.bytes in
    let moved : after_bytes 0 o p ≡ record {
      storage = p.storage;
      ccw = p.ccw;
      place = record p.place { residual = p.place.residual };
      address = p.address;
      bytes = p.bytes;
    } = cc in
    moved

-- m bytes that may move one after another move at once
pub at_once : MoveAtOnce
at_once zero key rest o p h = ap (λ q. walk rest key (Moving o q)) (sym (moved_none o p))
at_once (suc m) key rest o p h =
    ap (λ u. on_next (units m ++ rest) (next_moved None key o p u) (walk (units m ++ rest) key)) h.0
    ∙ at_once m key rest o (after_bytes 1 o p) h.2
    ∙ ap (λ q. walk rest key (Moving o q)) (moved_in_two m o p (sym h.1))

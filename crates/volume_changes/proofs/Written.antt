-- Bytes that are written one behind another over zeros.
use Rattle.std.proofs.Common.{◌≡◌, ◌∙◌, ap, sym, subst, refl, ℕ, zero, suc, ◌+◌, ◌-◌, ◌*◌, arith}
use Rattle.std.proofs.Common.{List, ◌∷◌, ◌++◌, length, replicate, append_assoc, append-nil}
use Rattle.std.proofs.lemmas.List.{length-append, drop-replicate}
use Rattle.std.proofs.Math.Seq.{take-append_seam, drop-append-add}
use Rattle.ckd_track.specs.Changes.{overwritten}
use Rattle.dasd_volumes.specs.Volumes.{of_each}
use Rattle.dasd_volumes.proofs.Appended.{of_one_more}

-- pieces of five bytes take five each
pub five_each : (of : ℕ → List ℕ) → ((k : ℕ) → length (of k) ≡ 5) → (n : ℕ) → length (of_each of n) ≡ n * 5
unfolding of_each
five_each of long zero = refl
five_each of long (suc n) = length-append (of_each of n) (of n) ∙ omega (arith, five_each of long n, long n)

-- what is written behind the first bytes stands behind them
written_behind : (a b : List ℕ) (at left : ℕ) → length a ≡ at
    → overwritten (a ++ replicate left 0) at b ≡ (a ++ b) ++ replicate (left - length b) 0
written_behind a b at left is =
    subst (λ (n : ℕ). overwritten (a ++ replicate left 0) n b ≡ (a ++ b) ++ replicate (left - length b) 0) is
    (rw (take-append_seam a (replicate left 0), drop-append-add a (replicate left 0) (length b), drop-replicate {X = ℕ} (length b) left 0)
    (sym (append_assoc a b (replicate (left - length b) 0))))

-- one piece more
pub one_more_written : (of : ℕ → List ℕ) → ((k : ℕ) → length (of k) ≡ 5) → (i : ℕ)
    → overwritten (of_each of i ++ replicate (130 - i * 5) 0) (i * 5) (of i) ≡ of_each of (i + 1) ++ replicate (130 - (i + 1) * 5) 0
one_more_written of long i =
    let left : 130 - i * 5 - length (of i) ≡ 130 - (i + 1) * 5 = omega (arith, long i) in
    written_behind (of_each of i) (of i) (i * 5) (130 - i * 5) (five_each of long i)
    ∙ ap (λ (n : ℕ). (of_each of i ++ of i) ++ replicate n 0) left
    ∙ ap (λ (l : List ℕ). l ++ replicate (130 - (i + 1) * 5) 0) (sym (of_one_more of i))

-- the data of a block of free tracks, which is written from its end on
pub data_written : (runs next : List ℕ) → length runs ≡ 90 → length next ≡ 5
    → overwritten (overwritten (replicate 96 0xF5) 91 next) 1 runs ≡ 0xF5 ∷ runs ++ next
data_written runs next ninety five = rw (ninety, five) (ap (λ (l : List ℕ). 0xF5 ∷ runs ++ l) (append-nil next))

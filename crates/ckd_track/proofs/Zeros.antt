-- Zeros up to the slot's end.
use Rattle.std.proofs.Common.{◌≡◌, ◌∙◌, ap, sym, refl, ℕ, ◌+◌, ◌-◌, ◌≤◌, ◌<◌, max, List, ◌++◌, length, take, drop, replicate, length-append}
use Rattle.std.proofs.Common.{length-take, drop-drop, append_assoc, arith}
use Rattle.std.proofs.lemmas.List.{length-replicate, drop_at, drop-replicate, replicate-append-replicate, length-take-le}
use Rattle.std.proofs.Math.Seq.{take-append-add}
use Rattle.ckd_track.specs.Track.{end_mark}
use Rattle.ckd_track.specs.Changes.{overwritten, ended_at, IsZeroFrom}
use Rattle.ckd_track.proofs.Rewritten.{length-overwritten, overwritten-append, overwritten-middle}
pub use Rattle.ckd_track.proofs.Rewritten.{drop_over}

zero_later : (s : List ℕ) (z k : ℕ) → IsZeroFrom s z → z ≤ k → k ≤ length s → IsZeroFrom s k
zero_later s z k is le room =
    let e : z + (k - z) ≡ k = omega (arith, le) in
    let left : length s - z - (k - z) ≡ length s - k = omega (arith, le) in
    let zeros : drop (k - z) (drop z s) ≡ replicate (length s - z - (k - z)) 0 = rw is.zeros (drop-replicate (k - z) (length s - z) 0) in
    record { within = room; zeros = rw (drop-drop (k - z) z s, e, left) at zeros }

pub zero_over : (s : List ℕ) (at : ℕ) (b : List ℕ) (z k : ℕ) → IsZeroFrom s z → z ≤ k → at + length b ≤ k → k ≤ length s
    → IsZeroFrom (overwritten s at b) k
zero_over s at b z k is le within room =
    let long = length-overwritten s at b (omega (arith, within, room)) in
    record { within = omega (arith, long, room); zeros = rw long (drop_over s at k b within room ∙ (zero_later s z k is le room).zeros) }

-- the same of the slot that a write at its front leaves, and of one that a clearing leaves; each bound is a premise,
-- and the new slot is named by an equation, since a tactic cites them by what the call before told
pub zero_front : (s new b : List ℕ) (z k : ℕ) → new ≡ overwritten s 0 b → IsZeroFrom s z → z ≤ k → length b ≤ k → k ≤ length s
    → IsZeroFrom new k
zero_front s new b z k is zeros le within room = rw is (zero_over s 0 b z k zeros le (omega arith) room)

-- its premises are many for the same reason
pub zero_cleared : (s new : List ℕ) (at n z k : ℕ) → new ≡ overwritten s at (replicate n 0) → IsZeroFrom s z → z ≤ k → at + n ≤ k
    → k ≤ length s → IsZeroFrom new k
zero_cleared s new at n z k is zeros le within room =
    rw is (zero_over s at (replicate n 0) z k zeros le (omega (arith, within, length-replicate {A = ℕ} n 0)) room)

zero_ended : (s : List ℕ) (at : ℕ) → at + 8 ≤ length s → IsZeroFrom (ended_at s at) (at + 8)
zero_ended s at room =
    let zeros : List ℕ = replicate (length s - (at + 8)) 0 in
    let front : length (take at s ++ end_mark) ≡ at + 8 = omega (arith, length-append (take at s) end_mark, length-take at s, room) in
    let long : length (ended_at s at) ≡ length s = omega (
      arith,
      length-append {A = ℕ},
      length-take at s,
      length-replicate {A =
          ℕ} (length s - (at + 8)) 0,
      room,
    ) in
    record {
      within = omega (arith, long, room);
      zeros = rw long (ap (drop (at + 8)) (sym (append_assoc (take at s) end_mark zeros))
          ∙ drop_at (take at s ++ end_mark) zeros (at + 8) front);
    }

-- An end mark, and so many zeros that others follow.
pub ends_up_to_zeros : (s : List ℕ) (at z : ℕ) → IsZeroFrom s (max z (at + 8)) → at + 8 < z
    → overwritten (overwritten s at end_mark) (at + 8) (replicate (z - (at + 8)) 0) ≡ ended_at s at
ends_up_to_zeros s at z zeros_there le =
    let most : max z (at + 8) ≡ z = omega (arith, le) in
    let is : IsZeroFrom s z = rw most at zeros_there in
    let zeros : List ℕ = replicate (z - (at + 8)) 0 in
    let many : length zeros ≡ z - (at + 8) = length-replicate {A = ℕ} (z - (at + 8)) 0 in
    let last : at + length (end_mark ++ zeros) ≡ z = omega (arith, length-append end_mark zeros, many, le) in
    let whole : z - (at + 8) + (length s - z) ≡ length s - (at + 8) = omega (arith, is.within, le) in
    overwritten-append s at end_mark zeros (omega (arith, is.within, many, le))
    ∙ rw (
      last,
      is.zeros,
      append_assoc end_mark zeros (replicate (length s - z) 0),
      replicate-append-replicate {A = ℕ} (z - (at + 8))
          (length s - z) 0,
      whole,
    ) refl

-- what was written and ended has zeros behind its end mark
pub ended_zeros : (s : List ℕ) (at : ℕ) (b : List ℕ) (end : ℕ) (new : List ℕ) → at + length b ≤ length s → end + 8 ≤ length s
    → new ≡ ended_at (overwritten s at b) end → IsZeroFrom new (end + 8)
ended_zeros s at b end new within room is =
    rw is (zero_ended (overwritten s at b) end (omega (arith, length-overwritten s at b within, room)))

pub new_zeros : (s : List ℕ) (at : ℕ) (count : List ℕ) (n : ℕ) (new : List ℕ) → length count ≡ 8 → at + 8 + n + 8 ≤ length s
    → new ≡ ended_at (overwritten (overwritten s at count) (at + 8) (replicate n 0)) (at + 8 + n) → IsZeroFrom new (at + 8 + n + 8)
new_zeros s at count n new eight room is =
    let long = length-overwritten s at count (omega (arith, eight, room)) in
    ended_zeros (overwritten s at count) (at + 8) (replicate n 0) (at + 8 + n) new (omega (arith, long, length-replicate {A = ℕ} n 0, room))
    (omega (arith, long, room)) is

-- Zeros in an area first, and then its bytes.

-- what was written and ended, in its parts
ended-over : (s : List ℕ) (at : ℕ) (b : List ℕ) (e : ℕ) → at + length b ≤ e → e + 8 ≤ length s
    → ended_at (overwritten s at b) e ≡ take at s
    ++ (b ++ (take (e - (at + length b)) (drop (at + length b) s) ++ (end_mark ++ replicate (length s - (e + 8)) 0)))
ended-over s at b e within room =
    let n : at + length b + (e - (at + length b)) ≡ e = omega (arith, within) in
    let front : length (take at s ++ b) ≡ at + length b =
    omega (arith, length-append (take at s) b, length-take-le at s (omega (arith, within, room))) in
    let whole : take e (overwritten s at b) ≡ (take at s ++ b) ++ take (e - (at + length b)) (drop (at + length b) s) =
    rw (← append_assoc) (rw (front, n) at (take-append-add (take at s ++ b) (drop (at + length b) s) (e - (at + length b)))) in
    rw (length-overwritten s at b (omega (arith, within, room)), whole) (simp append_assoc)

-- an area that is cleared before the end mark, and then written whole, is written
pub cleared_first : (s : List ℕ) (at : ℕ) (b : List ℕ) (e : ℕ) → at + length b ≤ e → e + 8 ≤ length s
    → overwritten (ended_at (overwritten s at (replicate (length b) 0)) e) at b ≡ ended_at (overwritten s at b) e
cleared_first s at b e within room =
    let many = length-replicate {A = ℕ} (length b) 0 in
    ap (λ (x : List ℕ). overwritten x at b) (ended-over s at (replicate (length b) 0) e (omega (arith, many, within)) room)
    ∙ overwritten-middle (take at s) (replicate (length b) 0) _ b at (length-take-le at s (omega (arith, within, room))) (sym many)
    ∙ rw many (sym (ended-over s at b e within room))

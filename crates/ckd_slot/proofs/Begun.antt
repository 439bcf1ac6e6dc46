-- Areas that begin with the bytes that came, and have zeros behind them.
use Rattle.std.proofs.Common.{◌≡◌, ◌∙◌, ap, sym, refl, ℕ, ◌+◌, ◌-◌, ◌≤◌, List, [], ◌++◌, length, take, drop, replicate, length-append}
use Rattle.std.proofs.Common.{length-take, length-drop, append_assoc, arith}
use Rattle.std.proofs.lemmas.List.{length-replicate, replicate-append-replicate, length-take-le}
use Rattle.std.proofs.Math.Seq.{take-add}
use Rattle.ckd_track.specs.Track.{end_mark}
use Rattle.ckd_track.specs.Changes.{overwritten, ended_at, IsZeroFrom}
use Rattle.ckd_track.proofs.Rewritten.{length-overwritten, take-overwritten, drop_over, overwritten-middle}
use Rattle.ckd_track.proofs.Zeros.{zero_front}
use Rattle.ckd_position.specs.Contents.{padded}

-- zeros from there on are zeros from a later place on
pub zero_later : (s : List ℕ) (z k : ℕ) → IsZeroFrom s z → z ≤ k → k ≤ length s → IsZeroFrom s k
zero_later s z k is le room = zero_front s s [] z k refl is le (omega arith) room

-- bytes before the end mark may be written first or last
pub written_last : (x : List ℕ) (at : ℕ) (b : List ℕ) (e : ℕ) → at + length b ≤ e → e + 8 ≤ length x → overwritten (ended_at x e) at b
    ≡ ended_at (overwritten x at b) e
written_last x at b e within room =
    let k : ℕ = length b in
    let m : ℕ = e - (at + k) in
    let last : at + k + m ≡ e = omega (arith, within) in
    let p : List ℕ = take at x in
    let d : List ℕ = take k (drop at x) in
    let y : List ℕ = take m (drop (at + k) x) in
    let t : List ℕ = end_mark ++ replicate (length x - (e + 8)) 0 in
    let new : List ℕ = overwritten x at b in
    let same : length b ≡ length d = omega (arith, length-take k (drop at x), length-drop at x, within, room) in
    let before : take e x ≡ p ++ (d ++ y) = ap (λ (n : ℕ). take n x) (sym last) ∙ take-add (at + k) m x
    ∙ ap (λ (z : List ℕ). z ++ y) (take-add at k x) ∙ append_assoc p d y in
    let after : take e new ≡ p ++ (b ++ y) =
    ap (λ (n : ℕ). take n new) (sym last) ∙ take-add (at + k) m new ∙ rw (
      take-overwritten x at b (omega (arith, within, room)),
      drop_over x at (at + k) b (omega arith) (omega (arith, within, room)),
    ) (append_assoc p b y) in
    let long : length new ≡ length x = length-overwritten x at b (omega (arith, within, room)) in
    let old_is : take e x ++ t ≡ p ++ (d ++ (y ++ t)) = ap (λ (z : List ℕ). z ++ t) before ∙ simp append_assoc in
    let new_is : ended_at new e ≡ p ++ (b ++ (y ++ t)) = rw (long, after) (simp append_assoc) in
    ap (λ (z : List ℕ). overwritten z at b) old_is
    ∙ overwritten-middle p d (y ++ t) b at (length-take-le at x (omega (arith, within, room))) same ∙ sym new_is

-- the first bytes of an area are written last
first_last : (s : List ℕ) (at : ℕ) (d b z : List ℕ) (e : ℕ) → length b ≡ length d → at + length (b ++ z) ≤ e → e + 8 ≤ length s
    → overwritten (ended_at (overwritten s at (d ++ z)) e) at b ≡ ended_at (overwritten s at (b ++ z)) e
first_last s at d b z e same within room =
    let far : length (d ++ z) ≡ length (b ++ z) = omega (arith, length-append d z, length-append b z, same) in
    let long = length-overwritten s at (d ++ z) (omega (arith, far, within, room)) in
    let r : List ℕ = drop (at + length (d ++ z)) s in
    let over : overwritten (overwritten s at (d ++ z)) at b ≡ take at s ++ (b ++ (z ++ r)) =
    ap (λ (x : List ℕ). overwritten (take at s ++ x) at b) (append_assoc d z r) ∙ overwritten-middle (take at s) d (z ++ r) b at
    (length-take-le at s (omega (arith, within, room))) same in
    let over_is : take at s ++ (b ++ (z ++ r)) ≡ overwritten s at (b ++ z) = rw far (simp append_assoc) in
    written_last (overwritten s at (d ++ z)) at b e (omega (arith, length-append b z, within)) (omega (arith, long, room))
    ∙ ap (λ (x : List ℕ). ended_at x e) (over ∙ over_is)

-- zeros in all of the area, and then the bytes
pub zeros_first : (s : List ℕ) (at n : ℕ) (b : List ℕ) (e : ℕ) → length b ≤ n → at + n ≤ e → e + 8 ≤ length s
    → overwritten (ended_at (overwritten s at (replicate n 0)) e) at b ≡ ended_at (overwritten s at (padded b n)) e
zeros_first s at n b e le within room =
    let k : ℕ = length b in
    let all : n ≡ k + (n - k) = omega (arith, le) in
    let split : replicate {A = ℕ} n 0 ≡ replicate k 0 ++ replicate (n - k) 0 = ap (λ (i : ℕ). replicate {A = ℕ} i 0) all
    ∙ sym (replicate-append-replicate {A = ℕ} k (n - k) 0) in
    ap (λ (z : List ℕ). overwritten (ended_at (overwritten s at z) e) at b) split
    ∙ first_last s at (replicate k 0) b (replicate (n - k) 0) e (sym (length-replicate {A = ℕ} k 0))
    (omega (arith, length-append b (replicate (n - k) 0), length-replicate {A = ℕ} (n - k) 0, le, within)) room

-- zeros behind the bytes alone, and then the bytes
pub zeros_behind : (s : List ℕ) (at n : ℕ) (b : List ℕ) (e : ℕ) → length b ≤ n → at + n ≤ e → e + 8 ≤ length s
    → overwritten (ended_at (overwritten s (at + length b) (replicate (n - length b) 0)) e) at b
    ≡ ended_at (overwritten s at (padded b n)) e
zeros_behind s at n b e le within room =
    let k : ℕ = length b in
    let z : List ℕ = replicate (n - k) 0 in
    let d : List ℕ = take k (drop at s) in
    let zeros = length-replicate {A = ℕ} (n - k) 0 in
    let same : k ≡ length d = omega (arith, length-take k (drop at s), length-drop at s, le, within, room) in
    let last : at + length (d ++ z) ≡ at + k + length z = omega (arith, length-append d z, same) in
    let there : overwritten s (at + k) z ≡ overwritten s at (d ++ z) = rw (take-add at k s, last) (simp append_assoc) in
    ap (λ (x : List ℕ). overwritten (ended_at x e) at b) there
    ∙ first_last s at d b z e same (omega (arith, length-append b z, zeros, le, within)) room

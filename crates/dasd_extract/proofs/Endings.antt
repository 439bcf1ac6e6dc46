-- Something that is written up to where it ends.
use Rattle.std.proofs.Common.{ℕ, zero, suc, ◌+◌, ◌-◌, ◌≤◌, ◌≡◌, ◌∙◌, List, Option, Some, None, ap, sym, refl, add-one, arith}
use Rattle.std.proofs.KnownBytes.{Appends-trans, Appends-nil}
use Rattle.dasd_extract.specs.declared.stops.Stop.{Stop}
use Rattle.dasd_extract.specs.Written.{Written, nothing, behind, and_then, until_stop, Writes}

pub until_none : (of : ℕ → Written) → until_stop of 0 ≡ nothing
unfolding until_stop
until_none of = refl

pub until_one_more : (of : ℕ → Written) (n : ℕ) → until_stop of (n + 1) ≡ and_then (until_stop of n) (of n)
unfolding until_stop
until_one_more of n = rw add-one refl

-- nothing is written yet
pub begun : (of : ℕ → Written) (a : Option (List ℕ)) → Writes (until_stop of 0) a a None
begun of a = rw (until_none of) (record { bytes = Appends-nil a; stop = refl })

-- what has not ended is followed
pub and_then_none : (w next : Written) → w.stop ≡ None → and_then w next ≡ behind None w.bytes next
and_then_none w next is = ap (λ s. behind s w.bytes next) is

-- one, and then the next
pub next_written : (w next : Written) (a b c : Option (List ℕ)) (stop : Option Stop) → Writes w a b None → Writes next b c stop
    → Writes (and_then w next) a c stop
next_written w next a b c stop first second =
    rw (and_then_none w next (sym first.stop)) (record { bytes = Appends-trans a b c _ _ first.bytes second.bytes; stop = second.stop })

-- one more of them
pub one_more : (of : ℕ → Written) (n : ℕ) (a b c : Option (List ℕ)) (stop : Option Stop) → Writes (until_stop of n) a b None
    → Writes (of n) b c stop
    → Writes (until_stop of (n + 1)) a c stop
one_more of n a b c stop first second = rw (until_one_more of n) (next_written (until_stop of n) (of n) a b c stop first second)

-- what has ended stays
with_stop : List ℕ → Option Stop → Written
with_stop bytes stop = record { bytes = bytes; stop = stop }

pub ended_stays : (w next : Written) (s : Stop) → w.stop ≡ Some s → and_then w next ≡ w
unfolding with_stop
ended_stays w next s is = ap (λ o. behind o w.bytes next) is ∙ ap (with_stop w.bytes) (sym is)

pub stays_for : (of : ℕ → Written) (n k : ℕ) (s : Stop) → (until_stop of n).stop ≡ Some s → until_stop of (n + k) ≡ until_stop of n
stays_for of n zero s is = let e : n + 0 ≡ n = omega arith in ap (until_stop of) e
stays_for of n (suc k) s is =
    let before = stays_for of n k s is in
    let e : n + suc k ≡ (n + k) + 1 = omega arith in
    ap (until_stop of) e ∙ until_one_more of (n + k) ∙ ended_stays (until_stop of (n + k)) (of (n + k)) s
    (ap (λ (w : Written). w.stop) before ∙ is) ∙ before

-- what ended before so many is what is written of so many
pub stays : (of : ℕ → Written) (n most : ℕ) (a b : Option (List ℕ)) (s : Stop) → n ≤ most → Writes (until_stop of n) a b (Some s)
    → Writes (until_stop of most) a b (Some s)
stays of n most a b s within written =
    let e : n + (most - n) ≡ most = omega (arith, within) in
    let same = stays_for of n (most - n) s (sym written.stop) in
    rw (sym e, same) written

-- what has ended is not followed
pub ended : (w next : Written) (a b : Option (List ℕ)) (s : Stop) → Writes w a b (Some s) → Writes (and_then w next) a b (Some s)
ended w next a b s written = rw (ended_stays w next s (sym written.stop)) written

-- Something that is printed up to where it ends, or of which the first bytes are.
use Rattle.std.proofs.Common.{ℕ, zero, suc, ◌+◌, ◌-◌, ◌<◌, ◌≤◌, ◌≡◌, ◌∙◌, List, [], ◌++◌, Option, Some, None, Result, Ok, Err, ap, sym}
use Rattle.std.proofs.Common.{subst, refl, arith}
use Rattle.counted_io.specs.Streams.{Stream, Takes, TakesFront}
use Rattle.counted_io.proofs.Written.{takes_nothing, takes_more}
use Rattle.dasd_volumes.specs.declared.fault.VolumeFault.{VolumeFault}
use Rattle.dasd_volumes.proofs.Fronts.{Begins, begins_with_all, begins_before, front_of, front_more, front_behind}
use Rattle.dasd_extract.specs.declared.stops.Stop.{Stop}
use Rattle.dasd_extract.specs.Written.{Written, nothing, behind, and_then, until_stop, PrintsWritten}
use Rattle.dasd_extract.proofs.Endings.{until_none, until_one_more, and_then_none, stays_for, ended_stays}

-- this was printed, and it has ended so
abbrev pub Printed : Written → (before after : Stream) → Option Stop → Type 0
Printed w before after ended = Takes before after w.bytes × (ended ≡ w.stop)

pub none_printed : (a : Stream) (bytes : List ℕ) → TakesFront a a bytes
none_printed a bytes = record { front = []; rest = bytes; whole = refl; taken = takes_nothing a }

-- nothing is printed yet
pub begun : (of : ℕ → Written) (a : Stream) → Printed (until_stop of 0) a a None
begun of a = rw (until_none of) (takes_nothing a, refl)

-- one, and then the next
next_printed : (w next : Written) (a b c : Stream) (ended : Option Stop) → Printed w a b None → Printed next b c ended
    → Printed (and_then w next) a c ended
next_printed w next a b c ended first second =
    rw (and_then_none w next (sym first.1)) (takes_more a b c w.bytes next.bytes first.0 second.0, second.1)

-- one more of them
pub one_more : (of : ℕ → Written) (n : ℕ) (a b c : Stream) (ended : Option Stop) → Printed (until_stop of n) a b None
    → Printed (of n) b c ended
    → Printed (until_stop of (n + 1)) a c ended
one_more of n a b c ended first second = rw (until_one_more of n) (next_printed (until_stop of n) (of n) a b c ended first second)

-- what ended before so many is what is printed of so many
pub stays : (of : ℕ → Written) (n most : ℕ) (a b : Stream) (s : Stop) → n ≤ most → Printed (until_stop of n) a b (Some s)
    → Printed (until_stop of most) a b (Some s)
stays of n most a b s within printed =
    let e : n + (most - n) ≡ most = omega (arith, within) in
    let same = stays_for of n (most - n) s (sym printed.1) in
    rw (sym e, same) printed

-- what has ended is not followed
pub ended : (w next : Written) (a b : Stream) (s : Stop) → Printed w a b (Some s) → Printed (and_then w next) a b (Some s)
ended w next a b s printed = rw (ended_stays w next s (sym printed.1)) printed

-- what is printed begins with what was printed first
begins_behind : (s : Option Stop) (bytes : List ℕ) (next : Written) → Begins bytes (behind s bytes next).bytes
begins_behind None bytes next = begins_before bytes bytes next.bytes (begins_with_all bytes)
begins_behind (Some s) bytes next = begins_with_all bytes

pub begins_first : (w next : Written) → Begins w.bytes (and_then w next).bytes
begins_first w next = begins_behind w.stop w.bytes next

begins_further : (a b c : List ℕ) → Begins a b → Begins b c → Begins a c
begins_further a b c h k = subst (Begins a) (sym k.whole) (begins_before a b k.rest h)

begins_for : (of : ℕ → Written) (n k : ℕ) → Begins (until_stop of n).bytes (until_stop of (n + k)).bytes
begins_for of n zero = subst (λ m. Begins (until_stop of n).bytes (until_stop of m).bytes) {x = n} {y = n + 0} (omega arith)
    (begins_with_all (until_stop of n).bytes)
begins_for of n (suc k) =
    let e : (n + k) + 1 ≡ n + suc k = omega arith in
    subst (λ m. Begins (until_stop of n).bytes (until_stop of m).bytes) e
    (subst (λ (w : Written). Begins (until_stop of n).bytes w.bytes) (sym (until_one_more of (n + k)))
    (begins_further (until_stop of n).bytes (until_stop of (n + k)).bytes (and_then (until_stop of (n + k)) (of (n + k))).bytes
    (begins_for of n k) (begins_first (until_stop of (n + k)) (of (n + k)))))

begins_with : (of : ℕ → Written) (n most : ℕ) → n ≤ most → Begins (until_stop of n).bytes (until_stop of most).bytes
begins_with of n most within =
    let e : n + (most - n) ≡ most = omega (arith, within) in
    subst (λ m. Begins (until_stop of n).bytes (until_stop of m).bytes) e (begins_for of n (most - n))

-- so many are printed, and the first bytes of the next one
pub front_of_next : (of : ℕ → Written) (next : Written) (n most : ℕ) (a b c : Stream) → n < most → Printed (until_stop of n) a b None
    → TakesFront b c (of n).bytes
    → TakesFront a c (and_then (until_stop of most) next).bytes
front_of_next of next n most a b c inside first second =
    let here : (until_stop of (n + 1)).bytes ≡ (until_stop of n).bytes ++ (of n).bytes =
    ap (λ (w : Written). w.bytes) (until_one_more of n ∙ and_then_none (until_stop of n) (of n) (sym first.1)) in
    front_more a c (until_stop of most).bytes (and_then (until_stop of most) next).bytes (begins_first (until_stop of most) next)
    (front_more a c (until_stop of (n + 1)).bytes (until_stop of most).bytes (begins_with of (n + 1) most (omega (arith, inside)))
    (subst (TakesFront a c) (sym here) (front_behind a b c (until_stop of n).bytes (of n).bytes first.0 second)))

-- what was written into memory is printed, or its first bytes are
pub all_printed : (w : Written) (ended : Option Stop) (a b : Stream) (bytes : List ℕ) → bytes ≡ w.bytes → ended ≡ w.stop → Takes a b bytes
    → PrintsWritten w (Ok ended) a b
all_printed w ended a b bytes is stop taken = (subst (Takes a b) is taken, stop)

pub some_printed : (w : Written) (fault : VolumeFault) (a b : Stream) (bytes : List ℕ) → bytes ≡ w.bytes → TakesFront a b bytes
    → PrintsWritten w (Err fault) a b
some_printed w fault a b bytes is taken = subst (TakesFront a b) is taken

-- Bytes that are written piece by piece.
use Rattle.std.proofs.Common.{◌≡◌, ◌+◌, ◌-◌, ℕ, List, [], ◌++◌, Option, None, Some, Result, Ok, Err, take, drop, length, refl, sym, ap, ◌∙◌}
use Rattle.std.proofs.Common.{subst, append_assoc, append-nil, take-append-drop, length-drop, if◌then◌else◌, arith}
use Rattle.std.proofs.Math.Seq.{take-length}
use Rattle.std.proofs.lemmas.Bool.Decides.{nat_tests}
use Rattle.std.specs.Io.KnownBytes.{Appends, Keeps}
use Rattle.std.proofs.KnownBytes.{Appends-trans, Appends-nil, Appends-kept}
use Rattle.counted_io.specs.Calls.{takes_none}
use Rattle.counted_io.specs.Streams.{Stream, Takes, TakesFront, NoneFailed, WritesWhole}

-- the first bytes were taken, and these are left
pub record AreLeft (before after : Stream) (bytes rest : List ℕ) : Type 0 where
  pub front : List ℕ
  pub whole : bytes ≡ front ++ rest
  pub taken : Takes before after front

-- nothing was taken
pub takes_nothing : (a : Stream) → Takes a a []
takes_nothing a = record { known = Appends-nil a.known; passed = sym (append-nil a.passed) }

-- bytes, and then more
pub takes_more : (a b c : Stream) (bytes more : List ℕ) → Takes a b bytes → Takes b c more → Takes a c (bytes ++ more)
takes_more a b c bytes more h w = record {
  known = Appends-trans a.known b.known c.known bytes more h.known w.known;
  passed = w.passed ∙ ap (λ l. l ++ more) h.passed ∙ append_assoc a.passed bytes more;
}

-- bytes, and then a call that took none
pub takes_then_keeps : (a b c : Stream) (bytes : List ℕ) → Takes a b bytes → Keeps b.known c.known → c.passed ≡ b.passed → Takes a c bytes
takes_then_keeps a b c bytes h k same = record { known = Appends-kept a.known b.known c.known bytes h.known k; passed = same ∙ h.passed }

pub all_left : (a : Stream) (bytes : List ℕ) → AreLeft a a bytes bytes
all_left a bytes = record { front = []; whole = refl; taken = takes_nothing a }

-- a slice's end
pub slice_end : (rest : List ℕ) (n : ℕ) → take (length rest - n) (drop n rest) ≡ drop n rest
slice_end rest n = subst (λ k. take k (drop n rest) ≡ drop n rest) (length-drop n rest) (take-length (drop n rest))

pub fewer_left : (a b c : Stream) (bytes rest behind : List ℕ) (n : ℕ) → behind ≡ drop n rest → AreLeft a b bytes rest
    → Appends b.known c.known (take n rest)
    → c.passed ≡ b.passed ++ take n rest → AreLeft a c bytes behind
fewer_left a b c bytes rest behind n is h known passed = record {
  front = h.front ++ take n rest;
  whole = h.whole ∙ ap (λ l. h.front ++ l) (sym (take-append-drop n rest)) ∙ sym (append_assoc h.front (take n rest) (drop n rest))
      ∙ ap (λ l. (h.front ++ take n rest) ++ l) (sym is);
  taken = takes_more a b c h.front (take n rest) h.taken (record { known = known; passed = passed });
}

pub none_left : (a b : Stream) (bytes rest : List ℕ) → rest ≡ [] → AreLeft a b bytes rest → Takes a b bytes
none_left a b bytes rest e h = subst (Takes a b) (sym (h.whole ∙ ap (λ l. h.front ++ l) e ∙ append-nil h.front)) h.taken

-- a write that failed
pub stopped : (a b c : Stream) (bytes rest : List ℕ) → AreLeft a b bytes rest → Keeps b.known c.known → c.passed ≡ b.passed
    → TakesFront a c bytes
stopped a b c bytes rest h k same = record {
  front = h.front;
  rest = rest;
  whole = h.whole;
  taken =
      takes_then_keeps a b c h.front h.taken k same;
}

keeps_of_none : (b c : Option (List ℕ)) → Appends b c [] → Keeps b c
keeps_of_none None c h = tt
keeps_of_none (Some xs) None h = absurd h
keeps_of_none (Some xs) (Some ys) h = h ∙ append-nil xs

-- a write that took nothing
pub took_none : (a b c : Stream) (bytes rest : List ℕ) (n : ℕ) → n ≡ 0 → AreLeft a b bytes rest → Appends b.known c.known (take n rest)
    → c.passed ≡ b.passed ++ take n rest → TakesFront a c bytes
took_none a b c bytes rest n none h known passed =
    let nothing : take n rest ≡ [] = ap (λ k. take k rest) none in
    stopped a b c bytes rest h (keeps_of_none b.known c.known (subst (Appends b.known c.known) nothing known)) (passed
    ∙ ap (λ l. b.passed ++ l) nothing ∙ append-nil b.passed)

-- a write that took some is no failure
pub took_some : (before now count : ℕ) (bytes : List ℕ) → (count ≡ 0 → ⊥) → now ≡ (if takes_none count bytes then before + 1 else before)
    → now ≡ before
took_some before now count bytes some h = grind (arith, nat_tests)

-- a write that took none of some is one
pub took_none_of_some : (before now count : ℕ) (bytes : List ℕ) → count ≡ 0 → (length bytes ≡ 0 → ⊥)
    → now ≡ (if takes_none count bytes then before + 1 else before) → now ≡ before + 1
took_none_of_some before now count bytes none some h = grind (arith, nat_tests)

-- a flush that was answered, and one that failed, with the bytes that were written before it
pub flushed : (a b : Stream) → Keeps a.known b.known → b.passed ≡ a.passed → Takes a b []
flushed a b k same = takes_then_keeps a a b [] (takes_nothing a) k same

pub flush_failed : (a b : Stream) → Keeps a.known b.known → b.passed ≡ a.passed → TakesFront a b []
flush_failed a b k same = record { front = []; rest = []; whole = refl; taken = flushed a b k same }

-- bytes were written, and then none
pub written_then : {E : Type 0} (result : Result (Unit {0}) E) (a b c : Stream) (bytes : List ℕ) → Takes a b bytes × NoneFailed a b
    → WritesWhole result b c [] → WritesWhole result a c bytes
written_then (Ok done) a b c bytes h w = (subst (Takes a c) (append-nil bytes) (takes_more a b c bytes [] h.0 w.0), w.1 ∙ h.1)
written_then (Err fault) a b c bytes h w = (
  record {
    front = bytes ++ w.0.front;
    rest = w.0.rest;
    whole = sym (append-nil bytes) ∙ ap (λ l. bytes ++ l) w.0.whole ∙ sym (append_assoc bytes w.0.front w.0.rest);
    taken = takes_more a b c bytes w.0.front h.0 w.0.taken;
  },
  w.1 ∙ ap (λ n. n + 1) h.1,
)

-- no bytes more
pub none_more : (l : List ℕ) → l ++ [] ≡ l
none_more l = append-nil l

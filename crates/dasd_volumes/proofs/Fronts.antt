-- Texts of which the first bytes are written.
use Rattle.std.proofs.Common.{◌≡◌, ◌+◌, ◌-◌, ◌<◌, ◌≤◌, ℕ, zero, suc, List, [], ◌++◌, take, drop, get_or, length, sym, ap, subst, ◌∙◌}
use Rattle.std.proofs.Common.{append_assoc, append-nil, take-append-drop, arith, add-one, flat_map}
use Rattle.std.proofs.lemmas.List.{flat_map_more, take_more}
use Rattle.std.proofs.lemmas.List.Concat.{flat_map-append}
use Rattle.counted_io.specs.Streams.{Stream, Takes, TakesFront}
use Rattle.counted_io.proofs.Written.{takes_nothing, takes_more}
use Rattle.dasd_volumes.specs.Volumes.{of_each}
use Rattle.dasd_volumes.proofs.Appended.{of_none, of_one_more}

-- a text begins with these bytes
pub record Begins (front text : List ℕ) : Type 0 where
  pub rest : List ℕ
  pub whole : text ≡ front ++ rest

pub begins_with_all : (text : List ℕ) → Begins text text
begins_with_all text = record { rest = []; whole = sym (append-nil text) }

-- the same behind other bytes, and of a text that goes on
pub begins_behind : (before front text : List ℕ) → Begins front text → Begins (before ++ front) (before ++ text)
begins_behind before front text h = record { rest = h.rest; whole = ap (λ l. before ++ l) h.whole ∙ sym (append_assoc before front h.rest) }

pub begins_before : (front text more : List ℕ) → Begins front text → Begins front (text ++ more)
begins_before front text more h = record { rest = h.rest ++ more; whole = ap (λ l. l ++ more) h.whole ∙ append_assoc front h.rest more }

-- the texts of the first numbers
begins_with_each : (of : ℕ → List ℕ) (i k : ℕ) → Begins (of_each of i) (of_each of (i + k))
begins_with_each of i zero = subst (λ n. Begins (of_each of i) (of_each of n)) (omega arith) (begins_with_all (of_each of i))
begins_with_each of i (suc k) =
    subst (λ n. Begins (of_each of i) (of_each of n)) (omega arith)
    (subst (Begins (of_each of i)) (sym (of_one_more of (i + k))) (begins_before (of_each of i) (of_each of (i + k)) (of (i + k))
    (begins_with_each of i k)))

pub begins_with_some : (of : ℕ → List ℕ) (i n : ℕ) → i ≤ n → Begins (of_each of i) (of_each of n)
begins_with_some of i n h = subst (λ m. Begins (of_each of i) (of_each of m)) (omega (arith, h)) (begins_with_each of i (n - i))

pub begins_with_more : (of : ℕ → List ℕ) (i n : ℕ) → i < n → Begins (of_each of i ++ of i) (of_each of n)
begins_with_more of i n h = subst (λ l. Begins l (of_each of n)) (of_one_more of i) (begins_with_some of (i + 1) n (omega (arith, h)))

-- the texts of the first elements
pub begins_with_element : {X : Type 0} (text : X → List ℕ) (xs : List X) (i : ℕ) (d : X) → i < length xs
    → Begins (flat_map text (take i xs) ++ text (get_or xs i d)) (flat_map text xs)
begins_with_element text xs i d inside = record {
  rest = flat_map text (drop (i + 1) xs);
  whole =
      ap (flat_map text) (sym (take-append-drop (i + 1) xs)) ∙ flat_map-append text (take (i + 1) xs) (drop (i + 1) xs)
      ∙ ap (λ l. flat_map text l ++ flat_map text (drop (i + 1) xs)) (take_more xs i d inside)
      ∙ ap (λ l. l ++ flat_map text (drop (i + 1) xs)) (sym (flat_map_more text [] (take i xs) (get_or xs i d)));
}

-- the first bytes were written
pub front_of : (a b : Stream) (front text : List ℕ) → Begins front text → Takes a b front → TakesFront a b text
front_of a b front text h w = record { front = front; rest = h.rest; whole = h.whole; taken = w }

pub front_more : (a b : Stream) (front text : List ℕ) → Begins front text → TakesFront a b front → TakesFront a b text
front_more a b front text h w = record {
  front = w.front;
  rest = w.rest ++ h.rest;
  whole = h.whole ∙ ap (λ l. l ++ h.rest) w.whole ∙ append_assoc w.front w.rest h.rest;
  taken = w.taken;
}

pub front_behind : (a b c : Stream) (bytes front : List ℕ) → Takes a b bytes → TakesFront b c front → TakesFront a c (bytes ++ front)
front_behind a b c bytes front first second = record {
  front = bytes ++ second.front;
  rest = second.rest;
  whole = ap (λ l. bytes ++ l) second.whole ∙ sym (append_assoc bytes second.front second.rest);
  taken = takes_more a b c bytes second.front first second.taken;
}

-- so many texts are written, and the first bytes of the next one
pub front_of_next : (a b c : Stream) (before : List ℕ) (of : ℕ → List ℕ) (i n : ℕ) → i < n
    → Takes a b (before ++ of_each of i) → TakesFront b c (of i) → TakesFront a c (before ++ of_each of n)
front_of_next a b c before of i n inside first second =
    front_more a c ((before ++ of_each of i) ++ of i) (before ++ of_each of n)
    (subst (λ l. Begins l (before ++ of_each of n)) (sym (append_assoc before (of_each of i) (of i)))
    (begins_behind before (of_each of i ++ of i) (of_each of n) (begins_with_more of i n inside)))
    (front_behind a b c (before ++ of_each of i) (of i) first second)

-- so many texts are written, and no more
pub front_so_far : (a b : Stream) (before : List ℕ) (of : ℕ → List ℕ) (i n : ℕ) → i ≤ n → Takes a b (before ++ of_each of i)
    → TakesFront a b (before ++ of_each of n)
front_so_far a b before of i n h w = front_of a b (before ++ of_each of i) (before ++ of_each of n) (begins_behind before (of_each of i)
    (of_each of n) (begins_with_some of i n h)) w

-- none, and one more
pub begun : (a b : Stream) (before : List ℕ) (of : ℕ → List ℕ) → Takes a b before → Takes a b (before ++ of_each of 0)
begun a b before of w = subst (Takes a b) (sym (append-nil before) ∙ ap (λ l. before ++ l) (sym (of_none of))) w

pub one_more : (a b c : Stream) (before : List ℕ) (of : ℕ → List ℕ) (n : ℕ) → Takes a b (before ++ of_each of n) → Takes b c (of n)
    → Takes a c (before ++ of_each of (n + 1))
one_more a b c before of n first next =
    subst (Takes a c) (append_assoc before (of_each of n) (of n) ∙ ap (λ l. before ++ l) (sym (of_one_more of n)))
    (takes_more a b c (before ++ of_each of n) (of n) first next)

-- the text of one more element; and the first bytes of the next
pub one_more_text : {X : Type 0} (a b c : Stream) (text : X → List ℕ) (before : List ℕ) (xs : List X) (i : ℕ) (d : X) → i < length xs
    → Takes a b (before ++ flat_map text (take i xs)) → Takes b c (text (get_or xs i d))
    → Takes a c (before ++ flat_map text (take (i + 1) xs))
one_more_text a b c text before xs i d inside first next =
    subst (Takes a c) (flat_map_more text before (take i xs) (get_or xs i d)
    ∙ ap (λ l. before ++ flat_map text l) (sym (take_more xs i d inside)))
    (takes_more a b c _ _ first next)

pub front_of_text : {X : Type 0} (a b c : Stream) (text : X → List ℕ) (before : List ℕ) (xs : List X) (i : ℕ) (d : X) → i < length xs
    → Takes a b (before ++ flat_map text (take i xs)) → TakesFront b c (text (get_or xs i d)) → TakesFront a c (before ++ flat_map text xs)
front_of_text a b c text before xs i d inside first second =
    front_more a c ((before ++ flat_map text (take i xs)) ++ text (get_or xs i d)) (before ++ flat_map text xs)
    (subst (λ l. Begins l (before ++ flat_map text xs)) (sym (append_assoc before (flat_map text (take i xs)) (text (get_or xs i d))))
    (begins_behind before (flat_map text (take i xs) ++ text (get_or xs i d)) (flat_map text xs) (begins_with_element text xs i d inside)))
    (front_behind a b c (before ++ flat_map text (take i xs)) (text (get_or xs i d)) first second)

-- a text is written, and then the first bytes of none
pub front_then_none : (a b c : Stream) (text : List ℕ) → Takes a b text → TakesFront b c [] → TakesFront a c text
front_then_none a b c text first second = subst (TakesFront a c) (append-nil text) (front_behind a b c text [] first second)

-- the findings of none, and of one more; and the first bytes of theirs
module _ {X : Type 0} (line : X → List ℕ) (of : ℕ → List X) where
  abbrev lines_of : ℕ → List ℕ
  lines_of n = flat_map line (of n)

  each_line : (n : ℕ) → flat_map line (of_each of n) ≡ of_each lines_of n
  unfolding of_each
  each_line zero = ap (flat_map line) (of_none of) ∙ sym (of_none lines_of)
  each_line (suc n) =
      ap (λ k. flat_map line (of_each of k)) (sym (add-one n)) ∙ ap (flat_map line) (of_one_more of n)
      ∙ flat_map-append line (of_each of n) (of n)
      ∙ ap (λ l. l ++ flat_map line (of n)) (each_line n) ∙ sym (of_one_more lines_of n) ∙ ap (of_each lines_of) (add-one n)

  pub no_lines : (a : Stream) → Takes a a (flat_map line (of_each of 0))
  no_lines a = subst (Takes a a) (sym (ap (flat_map line) (of_none of))) (takes_nothing a)

  pub more_lines : (a b c : Stream) (n : ℕ) → Takes a b (flat_map line (of_each of n)) → Takes b c (flat_map line (of n))
      → Takes a c (flat_map line (of_each of (n + 1)))
  more_lines a b c n first next =
      subst (Takes a c) (sym (ap (flat_map line) (of_one_more of n) ∙ flat_map-append line (of_each of n) (of n)))
      (takes_more a b c _ _ first next)

  pub front_of_lines : (a b c : Stream) (i n : ℕ) → i < n → Takes a b (flat_map line (of_each of i)) → TakesFront b c (flat_map line (of i))
      → TakesFront a c (flat_map line (of_each of n))
  front_of_lines a b c i n inside first second =
      subst (TakesFront a c) (sym (each_line n)) (front_of_next a b c [] lines_of i n inside (subst (Takes a b) (each_line i) first) second)

  pub lines_so_far : (a b : Stream) (i n : ℕ) → i ≤ n → Takes a b (flat_map line (of_each of i))
      → TakesFront a b (flat_map line (of_each of n))
  lines_so_far a b i n h w = subst (TakesFront a b) (sym (each_line n)) (front_so_far a b [] lines_of i n h
      (subst (Takes a b) (each_line i) w))

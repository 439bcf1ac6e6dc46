-- A search that fails, and the transfer in channel back to it.
use Rattle.std.proofs.Common.{◌≡◌, ℕ, zero, suc, ◌+◌, ◌-◌, ◌<◌, ◌≤◌, refl, sym, ap, ◌∙◌, arith, true, false, Bool, not, ◌&&◌, ◌||◌, List}
use Rattle.std.proofs.Common.{[], ◌∷◌, ◌++◌, None, nat_lt, length, take, drop, length-append, length-drop, length-take-le}
use Rattle.std.specs.Prelude.{if◌then◌else◌, ◌==◌, is_some, slice_get}
use Rattle.std.proofs.lemmas.Bool.Decides.{nat_tests}
use Rattle.std.proofs.lemmas.List.{replicate-append-replicate}
use Rattle.std.proofs.lemmas.Option.{slice_get-get_or}
use Rattle.s360_words.specs.Storage.{Storage}
use Rattle.s360_words.specs.declared.words.Ccw.{Ccw}
use Rattle.ckd_command.specs.Commands.{ending_status}
use Rattle.ckd_command.specs.Drive.{AfterLook, AfterBegin, State, Open, Closed, close, gives, length_of}
use Rattle.s360_laws.specs.Commands.{Point, completed, length_status}
use Rattle.s360_laws.specs.Laws.{MayMove}
use Rattle.s360_laws.specs.Places.{Place, past_ccw, past_transfer}
use Rattle.s360_laws.specs.Rounds.{PassesBy, LeadsBack, RoundIsUnits}
use Rattle.s360_laws.specs.Scripts.{Script, units, OneUnit}
use Rattle.s360_laws.specs.Status.{no_channel_status}
use Rattle.s360_laws.specs.Transfers.{Request, Transfer, Moves, Completes, first_transfer, transfer_unit, after_bytes, next_bytes}
use Rattle.s360_laws.specs.Transfers.{is_incorrect_length}
use Rattle.s360_laws.specs.Units.{Between, Looking, Moving, Next, GoesOn, StandsIn, on_next, next_fetched, next_begun, next_looked}
use Rattle.s360_laws.specs.Units.{next_moved, next_chosen, unit, walk}
use Rattle.s360_laws.proofs.AtOnce.{at_once}

-- Bytes that a command takes.

some_below : (xs : List ℕ) (i : ℕ) → i < length xs → is_some (slice_get xs i) ≡ true
some_below xs i h = ap is_some (slice_get-get_or xs i 0 h)

counted : (xs : List ℕ) (at m : ℕ) → at + m ≤ length xs → length (take m (drop at xs)) ≡ m
counted xs at m h = omega (arith, length-take-le m (drop at xs) (omega (arith, length-drop at xs)))

-- as many may move as are left of the count, where the command wants as many and storage has them
may_take : (m key : ℕ) (o : Open) (t : Transfer) (L : ℕ) → gives o ≡ false → ((b : List ℕ) → length_of o b ≡ L) → t.place.residual ≡ m
    → length t.bytes + m ≡ L → t.address + m ≤ length t.storage.bytes → MayMove m key o t
may_take zero key o t L g wants r l h = tt
may_take (suc m) key o t L g wants r l h = (moves, one, may_take m key o (after_bytes 1 o t) L g wants less long (rw g (omega arith)))
  where
    positive : (n : ℕ) → n ≡ suc m → (n == 0) ≡ false
    positive n e = grind (arith, nat_tests)

    wanted : (n b k : ℕ) → n ≡ suc m → b + suc m ≡ k → (nat_lt 0 n && nat_lt b k) ≡ true
    wanted n b k e f = grind (arith, nat_tests)

    moves : transfer_unit key o t ≡ Moves (after_bytes 1 o t)
    moves = rw (
      positive t.place.residual r,
      wanted t.place.residual (length t.bytes) (length_of o t.bytes) r (l ∙ sym (wants t.bytes)),
      g,
      some_below t.storage.bytes t.address (omega arith),
    ) refl

    one : length (next_bytes 1 o t) ≡ 1
    one = rw g (counted t.storage.bytes t.address 1 (omega arith))

    less : t.place.residual - 1 ≡ m
    less = omega (arith, r)

    long : length (t.bytes ++ next_bytes 1 o t) + m ≡ L
    long = omega (arith, length-append t.bytes (next_bytes 1 o t), one, l)

-- A round.

-- lengths that are the same are told by nothing
same_length : (b : Bool) (m L r : ℕ) → r ≡ 0 → m ≡ L → (b && ((m == L && nat_lt 0 r) || (r == 0 && nat_lt m L))) ≡ false
same_length b m L r e f = grind (arith, nat_tests)

or_false : (a b : Bool) → b ≡ false → (a || b) ≡ a
or_false true b e = refl
or_false false b e = e

module _ (key : ℕ) (s : Storage) (p : Place) (ccw : Ccw) (before after : State) (l : LeadsBack s p ccw)
    (d : PassesBy ccw.code (take ccw.count (drop ccw.address s.bytes)) before after) where
  abbrev point : Place → State → Point
  point q state = record { storage = s; place = q; state = state }

  abbrev request : Request
  request = record { storage = s; ccw = ccw; place = past_ccw p ccw }

  abbrev first : Transfer
  first = first_transfer request

  abbrev last : Transfer
  last = after_bytes ccw.count d.found first

  -- the place once the search is over
  abbrev behind : Place
  behind = record (past_ccw p ccw) { residual = 0 }

  closed : Closed
  closed = record { state = after; unit = record { 0 = ending_status }; motion = false }

  begins : unit None key (Between (point p before)) ≡ GoesOn (Looking d.asked request)
  begins = ap (next_fetched None key (point p before)) l.fetched ∙ ap (next_begun None key request) d.begins

  looks : (n : ℕ) (rest : Script) → 0 < n → walk (units n ++ rest) key (Looking d.asked request) ≡ walk (units n ++ rest) key
      (Moving d.found first)
  looks zero rest h = absurd (omega arith)
  looks (suc n) rest h = ap (λ (x : AfterLook). on_next (units n ++ rest) (next_looked None key request x) (walk (units n ++ rest) key))
      d.finds

  size : length (take ccw.count (drop ccw.address s.bytes)) ≡ ccw.count
  size = counted s.bytes ccw.address ccw.count l.inside

  may : MayMove ccw.count key d.found first
  may = let whole : 0 + ccw.count ≡ ccw.count = omega arith in may_take ccw.count key d.found first ccw.count d.takes (λ b. d.wants b
      ∙ size) refl whole l.inside

  none : ccw.count - ccw.count ≡ 0
  none = omega arith

  complete : transfer_unit key d.found last ≡ Completes
  complete = rw (none, l.unchained) refl

  all : last.bytes ≡ take ccw.count (drop ccw.address s.bytes)
  all = rw d.takes refl

  correct : is_incorrect_length (length_of d.found last.bytes) last ≡ false
  correct = same_length _ (length last.bytes) (length_of d.found last.bytes) (ccw.count - ccw.count) none (ap length all
      ∙ sym (d.wants last.bytes))

  ends : unit None key (Moving d.found last) ≡ GoesOn (Between (point behind after))
  ends = ap (next_moved None key d.found last) complete
      ∙ ap (λ (c : Closed). next_chosen (completed None key last d.found c)) (ap (close None d.found) all ∙ d.ends)
      ∙ rw (correct, l.chains, none, d.takes) refl

  place_is : past_transfer behind p.next ≡ p
  place_is = let i = or_false p.interruption _ l.silent in rw (i, ← l.transferred, ← l.last, ← l.spent) refl

  returns : unit None key (Between (point behind after)) ≡ GoesOn (Between (point p after))
  returns = ap (next_fetched None key (point behind after)) l.back ∙ ap (λ q. GoesOn (Between (point q after))) place_is

  goes : walk (units (ccw.count + 3)) key (Between (point p before)) ≡ StandsIn (Between (point p after))
  goes =
      let rest = units (ccw.count + 2) in
      ap (λ n. walk (units n) key (Between (point p before))) more
      ∙ ap (λ n. on_next rest n (walk rest key)) begins
      ∙ ap (λ u. walk u key (Looking d.asked request)) (sym (replicate-append-replicate ccw.count 2 (OneUnit None)))
      ∙ looks ccw.count (units 2) l.some
      ∙ at_once ccw.count key (units 2) d.found first may
      ∙ ap (λ n. on_next (units 1) n (walk (units 1) key)) ends
      ∙ ap (λ n. on_next [] n (walk [] key)) returns
    where
      more : ccw.count + 3 ≡ suc (ccw.count + 2)
      more = omega arith

pub round_is_units : RoundIsUnits
round_is_units key s p ccw before after l d = goes key s p ccw before after l d

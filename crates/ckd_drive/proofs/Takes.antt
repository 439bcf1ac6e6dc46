-- Bytes that are taken.
use Rattle.std.proofs.Common.{rules, ◌≡◌, ◌∙◌, ap, sym, refl, ℕ, ◌+◌, ◌-◌, ◌≤◌, List, [], ◌∷◌, ◌++◌, length, take, drop, slice_range}
use Rattle.std.proofs.Common.{length-append, length-take, append_assoc, arith, Bool, true, false, ◌==◌, nat_lt, None, bytes_eq}
use Rattle.std.specs.Ordering.{nat_cmp, ordering_then}
use Rattle.std.specs.declared.cmp.Ordering.{Ordering}
use Rattle.std.specs.declared.cmp.Ordering.TheVariants as order
use Rattle.std.specs.Cmp.Lexicographic.{slice_cmp}
use Rattle.std.proofs.lemmas.List.{take_at}
use Rattle.std.proofs.Math.Seq.{take-add}
use Rattle.ckd_track.specs.Track.{track_of}
use Rattle.ckd_track.specs.Changes.{overwritten}
use Rattle.ckd_command.specs.declared.tables.Action.TheVariants as action
use Rattle.ckd_command.specs.Answers.{Found}
use Rattle.ckd_slot.specs.declared.windows.Window.{Window}
use Rattle.ckd_drive.specs.declared.transfer.Transfer.TheVariants.{Field, Search}
use Rattle.ckd_command.specs.Commands.{Closing, sight, close_by, length_for, own_home_address, new_record_fits, write_home_address, format}
use Rattle.ckd_command.specs.Commands.{whole_field, at_end}
use Rattle.ckd_drive.specs.Invariant.{HalfDone, own_slot, action_now, area_in, HasField, order_of, field_size, at_work, IsField}
use Rattle.ckd_drive.specs.Passing.{MayTake, Absorbs}
use Rattle.ckd_command.proofs.Closings.{closing_by}
use Rattle.ckd_command.proofs.Lengths.{length_by}
use Rattle.ckd_drive.proofs.Moving.{window_moves, absorbs_plain}
use Rattle.std.proofs.lemmas.Bool.{cond_both}
use Rattle.std.proofs.lemmas.Bool.Decides.{nat_tests}
use Rattle.ckd_track.specs.declared.geometries.Geometry.{Geometry}
use Rattle.ckd_position.specs.Contents.{Sighted}
use Rattle.ckd_command.specs.declared.registers.Registers.{Registers}
use Rattle.ckd_command.specs.declared.tables.Action.{Action}
use Rattle.ckd_command.specs.declared.begin.Opened.{Opened}

-- Comparing.

then_assoc : (a b c : Ordering) → ordering_then (ordering_then a b) c ≡ ordering_then a (ordering_then b c)
then_assoc order.Equal b c = refl
then_assoc _ b c = refl

compare_more : (x a : List ℕ) (y b : List ℕ) → length x ≡ length a → ordering_then (slice_cmp nat_cmp x a) (slice_cmp nat_cmp y b)
    ≡ slice_cmp nat_cmp (x ++ y) (a ++ b)
compare_more [] [] y b e = refl
compare_more (x ∷ xs) (a ∷ bs) y b e = then_assoc (nat_cmp x a) (slice_cmp nat_cmp xs bs) (slice_cmp nat_cmp y b)
    ∙ ap (λ (o : Ordering). ordering_then (nat_cmp x a) o) (compare_more xs bs y b (omega (arith, e)))
compare_more _ _ y b e = absurd (omega (arith, e))

order_more : (area passed more : List ℕ) → length passed + length more ≤ length area
    → ordering_then (order_of area passed) (slice_cmp nat_cmp (take (length more) (drop (length passed) area)) more) ≡ order_of area
    (passed ++ more)
order_more area passed more le =
    let m = length passed in
    let long : length (take m area) ≡ length passed = omega (arith, length-take m area, le) in
    compare_more (take m area) passed (take (length more) (drop m area)) more long
    ∙ ap (λ (x : List ℕ). slice_cmp nat_cmp x (passed ++ more)) (sym (take-add m (length more) area)
    ∙ ap (λ (n : ℕ). take n area) (sym (length-append passed more)))

-- by the slot and the order as the code has them
pub search_absorbs : (half : HalfDone) (more slot : List ℕ) (w : Window) (so_far now : Ordering)
    → MayTake half more → half.progress.place ≡ Search w so_far → slot ≡ own_slot half
    → now ≡ ordering_then so_far (slice_cmp nat_cmp (slice_range slot w.start (w.start + length more)) more)
    → Absorbs half more half.cache half.before (Search (record { start = w.start + length more; len = w.len - length more }) now)
search_absorbs half more slot w so_far now may at slot_is now_is =
    let x = may.works in
    let left : half.progress.left ≤ w.len = rw at at x.goes.left in
    let placed = rw at at x.goes.placed in
    let h = placed.0 in
    let m = window_moves half more w x.volume h.lies h.room h.begins (omega (arith, left, may.room)) in
    let compared = now_is ∙ rw (h.compared, slot_is, m.first) (order_more (area_in (at_work half)) half.passed more
    (omega (arith, m.room, length-append half.passed more))) in
    absorbs_plain half more (Search (record { start = w.start + length more; len = w.len - length more }) now) x (rw at refl) refl
    (rw at refl) (rw at refl) (
      record { is_search = h.is_search; at_hand = h.at_hand; lies = m.lies; room = m.room; begins = m.begins; compared = compared },
      record { again = placed.1.again; len = length_by action.Search _ _ half.opened half.registers _ h.is_search ∙ m.len },
    )
    m.small

-- Fields: how many bytes they want, and that they write nothing until they are whole.

-- what a field that came so far does to the track: nothing, unless it came whole
abbrev pub ChangesNothing : Action → Geometry → Sighted → Opened → Registers → List ℕ → Type 0
ChangesNothing action.WriteHomeAddress g t o r b = (length b ≡ 5) → bytes_eq b (own_home_address r) ≡ false
ChangesNothing action.Format g t o r b = (length b ≡ 8) → new_record_fits g t o b ≡ false
ChangesNothing a g t o r b = Unit {0}

-- a field that must come whole writes nothing, unless it is whole and what it then closes to writes
unwritten_field : (r : Registers) (b : List ℕ) (size : ℕ) (c : Closing) → length b ≤ size → (length b ≡ size → c.written ≡ None)
    → (whole_field r b size c).written ≡ None
unwritten_field r b size c le h =
    let P : Closing → Type 0 = λ k. k.written ≡ None in
    cond_both (length b == 0) _ _ P (λ _. refl) (λ _. cond_both (nat_lt (length b) size) _ _ P (λ _. refl)
    (λ long. h (grind (arith, nat_tests))))

format_wants : (g : Geometry) (t : Sighted) (o : Opened) (r : Registers) (b : List ℕ) (short : Bool) → nat_lt (length b) 8 ≡ short
    → length b ≤ 8 → ChangesNothing action.Format g t o r b → length_for action.Format g t o r b ≡ 8
format_wants g t o r b true e le n = rw e refl
format_wants g t o r b false e le n = (let own = n (grind (arith, nat_tests)) in rw (e, own) refl)

pub field_unwritten : (a : Action) (g : Geometry) (t : Sighted) (o : Opened) (r : Registers) (b : List ℕ) → IsField a
    → length b ≤ field_size a → ChangesNothing a g t o r b → (close_by a g t o r b).written ≡ None
field_unwritten action.SeekCylinderAndHead g t o r b f le n =
    unwritten_field r b 6 _ le (λ _. cond_both _ _ _ (λ (k : Closing). k.written ≡ None) (λ _. refl) (λ _. refl))
field_unwritten action.SeekHead g t o r b f le n = unwritten_field r b 6 _ le (λ _. cond_both _ _ _ (λ (k : Closing). k.written ≡ None)
    (λ _. refl) (λ _. refl))
field_unwritten action.SetFileMask g t o r [] f le n = refl
field_unwritten action.SetFileMask g t o r (x ∷ b) f le n = refl
field_unwritten action.WriteHomeAddress g t o r b f le n = unwritten_field (at_end o r) b 5 (write_home_address o r b) le
    (λ five. (let own = n five in rw own refl))
field_unwritten action.Format g t o r b f le n = unwritten_field r b 8 (format g t o r b) le (λ eight. (let none = n eight in rw none refl))
field_unwritten _ g t o r b f le n = absurd f

pub field_wants : (a : Action) (g : Geometry) (t : Sighted) (o : Opened) (r : Registers) (b : List ℕ) → IsField a → length b ≤ field_size a
    → ChangesNothing a g t o r b → length_for a g t o r b ≡ field_size a
field_wants action.Format g t o r b f le n = format_wants g t o r b (nat_lt (length b) 8) refl le n
field_wants _ g t o r b f le n = search rules

pub field_small : (a : Action) → field_size a ≤ 8
field_small action.Format = omega arith
field_small _ = omega arith

-- no byte of it changes nothing
pub no_byte : (a : Action) (g : Geometry) (t : Sighted) (o : Opened) (r : Registers) → ChangesNothing a g t o r []
no_byte action.WriteHomeAddress g t o r = λ e. absurd (omega (arith, e))
no_byte action.Format g t o r = λ e. absurd (omega (arith, e))
no_byte _ g t o r = tt

-- More bytes of one.

collected_more : (f passed more : List ℕ) → take (length passed) f ≡ passed
    → take (length (passed ++ more)) (overwritten f (length passed) more) ≡ passed ++ more
collected_more f passed more e =
    let m = length passed in
    let is : overwritten f m more ≡ (passed ++ more) ++ drop (m + length more) f =
    ap (λ (z : List ℕ). z ++ (more ++ drop (m + length more) f)) e ∙ sym (append_assoc passed more (drop (m + length more) f)) in
    rw is (take_at (passed ++ more) (drop (m + length more) f) (length (passed ++ more)) refl)

-- a field is collected, and is this with more bytes
pub record Collects (half : HalfDone) (more f field : List ℕ) : Type 0 where
  pub may : MayTake half more
  pub placed : half.progress.place ≡ Field f
  pub is : field ≡ overwritten f half.progress.moved more

-- what is known of it then
pub record FieldGoes (half : HalfDone) (more f field : List ℕ) : Type 0 where
  pub has : HasField (at_work half) f
  pub again : sight half.cache.image.geometry (track_of (own_slot half)) half.opened half.registers ≡ Found half.opened
  pub long : length (half.passed ++ more) ≡ length half.passed + length more
  pub moved : half.progress.moved + length more ≡ length (half.passed ++ more)
  pub room : length (half.passed ++ more) ≤ field_size (action_now half)
  pub left : half.progress.left - length more ≤ field_size (action_now half) - length (half.passed ++ more)
  pub collected : take (length (half.passed ++ more)) field ≡ half.passed ++ more

pub field_goes : {half : HalfDone} {more f field : List ℕ} → Collects half more f field → FieldGoes half more f field
field_goes {half} {more} {f} {field} x =
    let goes = x.may.works.goes in
    let left : half.progress.left ≤ field_size (action_now half) - length half.passed = rw x.placed at goes.left in
    let placed = rw x.placed at goes.placed in
    let h = placed.0 in
    let far = length-append half.passed more in
    record {
      has = h;
      again = placed.1.again;
      long = far;
      moved = omega (arith, goes.moved, far);
      room = omega (arith, far, left, x.may.room, h.room);
      left = omega (arith, far, left);
      collected = rw (x.is, ← goes.moved) (collected_more f half.passed more h.collected);
    }

pub field_absorbs : {half : HalfDone} {more f field : List ℕ} → Collects half more f field
    → ChangesNothing (action_now half) half.cache.image.geometry (track_of (own_slot half)) half.opened half.registers (half.passed ++ more)
    → Absorbs half more half.cache half.before (Field field)
field_absorbs {half} {more} {f} {field} x nothing =
    let r = half.registers in
    let g = half.cache.image.geometry in
    let a = action_now half in
    let t = track_of (own_slot half) in
    let at = x.placed in
    let k = field_goes x in
    let wants = length_by a g t half.opened r (half.passed ++ more) refl
    ∙ field_wants a g t half.opened r (half.passed ++ more) k.has.is_field k.room nothing in
    absorbs_plain half more (Field field) x.may.works (rw at refl) refl (rw at refl) (rw at (let far = k.long in omega (arith, far))) (
      record { is_field = k.has.is_field; room = k.room; collected = k.collected; at_hand = k.has.at_hand },
      record { again = k.again; len = (let room = k.room in omega (arith, wants, room)) },
      ap (λ (y : Closing). y.written) (closing_by a g t half.opened r (half.passed ++ more) refl)
          ∙ field_unwritten a g t half.opened r (half.passed ++ more) k.has.is_field k.room nothing,
    )
    (omega (arith, k.room, k.long, field_small a))

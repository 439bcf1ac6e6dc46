-- The line of an entry, written and read back.
use Rattle.std.proofs.Common.{ℕ, ◌+◌, ◌-◌, ◌*◌, ◌%◌, ◌<◌, ◌≤◌, ◌≡◌, ◌==◌, ◌∙◌, List, [], ◌∷◌, ◌++◌, Bool, true, false, ◌&&◌, nat_lt, nat_le}
use Rattle.std.proofs.Common.{nat_eq, Option, Some, None, option_map, option_and_then, Ok, IfSome, codes, append_assoc, append-nil}
use Rattle.std.proofs.Common.{length-append, length, take, map, get_or, ap, ap₂, refl, sym, lit<, lit≤, arith, eq-eqb, ne_eqb, subst}
use Rattle.std.specs.List.{All, list_all}
use Rattle.std.specs.Fmt.{decimal}
use Rattle.std.specs.Str.{all_ascii_digits}
use Rattle.std.specs.Char.{is_ascii_digit}
use Rattle.std.proofs.Math.Bool.{and-false}
use Rattle.std.proofs.Math.Seq.{take-append_seam}
use Rattle.std.proofs.lemmas.Bool.{le-ltb, lt-ltb, le-leb, lt-leb, and_parts}
use Rattle.std.proofs.lemmas.List.{get_or-append_right}
use Rattle.std.proofs.lemmas.List.Concat.{flat_map-append}
use Rattle.std.proofs.lemmas.List.Elements.{All-head, All-tail}
use Rattle.counted_io.specs.Text.{hexadecimal, bytes_text}
use Rattle.volume_labels.specs.Names.{safe_name_of}
use Rattle.set_forms.specs.declared.forms.EntryForm.{EntryForm}
use Rattle.set_forms.specs.declared.forms.Note.{Note}
use Rattle.set_forms.specs.declared.forms.Note.TheVariants.{Block, Address}
use Rattle.set_forms.specs.declared.forms.FormLine.TheVariants.{Entry}
use Rattle.set_forms.specs.Numbers.{byte_of}
use Rattle.set_forms.specs.Forms.{spaced, note_text, user_words, user_data_text, named_entry_line, form_line}
use Rattle.set_forms.specs.Parsing.{is_note, note_of, note_at, added, entry_behind, entry_of, an_entry}
use Rattle.set_forms.specs.Laws.{AreBytes, IsNote, IsEntryForm}
use Rattle.set_forms.proofs.Split.{is_inner, IsWord, AreWords, both_words}
use Rattle.set_forms.proofs.Digits.{number_back, number_word, number_digits, inner_both, pair_of_byte, bytes_back, bytes_inner}
use Rattle.set_forms.proofs.Digits.{length_of_bytes, bytes_are_no_note}
use Rattle.set_forms.proofs.Spelling.{name_back, name_word}
use Rattle.set_forms.proofs.SetsBack.{IsLine, closed_is}

-- A note.

record IsNoteOf (word front : List ℕ) (b : ℕ) : Type 0 where
  is : is_note word ≡ true
  of : note_of word ≡ note_at front b

module _ (front : List ℕ) (high low b : ℕ) (byte : byte_of high low ≡ Some b) where
  whole : List ℕ
  whole = front ++ 47 ∷ high ∷ low ∷ []

  size : length whole ≡ length front + 3
  unfolding whole
  size = length-append front (47 ∷ high ∷ low ∷ [])

  at : (k : ℕ) → get_or whole (length front + k) 0 ≡ get_or (47 ∷ high ∷ low ∷ []) k 0
  unfolding whole
  at k =
      let left : length front + k - length front ≡ k = omega arith in
      cc (get_or-append_right front (47 ∷ high ∷ low ∷ []) (length front) (length front + k) 0 refl (omega arith))

  place : (back k : ℕ) → back + k ≡ 3 → get_or whole (length whole - back) 0 ≡ get_or (47 ∷ high ∷ low ∷ []) k 0
  place back k is = let left : length whole - back ≡ length front + k = omega (arith, size, is) in cc (at k)

  front_is : take (length front) whole ≡ front
  unfolding whole
  front_is = take-append_seam front (47 ∷ high ∷ low ∷ [])

  of_front : IsNoteOf whole front b
  of_front =
      let long : nat_le 3 (length whole) ≡ true = le-leb 3 (length whole) (omega (arith, size)) in
      let left : length whole - 3 ≡ length front = omega (arith, size) in record {
        is = ap₂ (λ (p q : Bool). p && q) long (ap (λ c. c == 47) (place 3 0 refl));
        of = ap₂ (λ (f : List ℕ) (o : Option ℕ). option_and_then (note_at f) o) (ap (λ n. take n whole) left ∙ front_is)
            (ap₂ byte_of (place 2 1 refl) (place 1 2 refl) ∙ byte);
      }

is_one : (front : List ℕ) (high low b : ℕ) → byte_of high low ≡ Some b → is_note (front ++ 47 ∷ high ∷ low ∷ []) ≡ true
unfolding whole
is_one front high low b byte = (of_front front high low b byte).is

one_of : (front : List ℕ) (high low b : ℕ) → byte_of high low ≡ Some b → note_of (front ++ 47 ∷ high ∷ low ∷ []) ≡ note_at front b
unfolding whole
one_of front high low b byte = (of_front front high low b byte).of

-- a number has no @ before it
no_at : (word : List ℕ) → all_ascii_digits word ≡ true → (get_or word 0 0 == 64) ≡ false
no_at [] all = refl
no_at (c ∷ word) all = ne_eqb c 64 (λ e. is_no_digit c e (and_parts (is_ascii_digit c) (all_ascii_digits word) all).0)
  where
    is_no_digit : (c : ℕ) → c ≡ 64 → is_ascii_digit c ≡ true → ⊥
    is_no_digit c e is = absurd (let h = rw e at is in cc)

block_at : (number b : ℕ) → 0 < number → number < 4294967296 → note_at (decimal number) b ≡ Some (Block number b)
block_at number b some small =
    let none : (nat_lt 0 (length (decimal number)) && (get_or (decimal number) 0 0 == 64)) ≡ false =
    cc (no_at (decimal number) (number_digits number small), and-false (nat_lt 0 (length (decimal number)))) in
    let above : nat_eq number 0 ≡ false = ne_eqb number 0 (λ e. omega arith) in
    rw (none, number_back 4294967295 number (omega arith) small, above) refl

address_at : (address : List ℕ) (b : ℕ) → AreBytes 3 address → note_at (64 ∷ bytes_text address) b ≡ Some (Address address b)
address_at address b is =
    let some : nat_lt 0 (length (64 ∷ bytes_text address)) ≡ true = lt-ltb 0 (length (64 ∷ bytes_text address)) (omega arith) in
    let six : nat_eq (length (bytes_text address)) 6 ≡ true =
    eq-eqb (length (bytes_text address)) 6 (omega (arith, length_of_bytes address is.small, is.many)) in
    rw (some, six, bytes_back address is.small) refl

-- how a word of a note is read back
record IsRead (word : List ℕ) (note : Note) : Type 0 where
  is : is_note word ≡ true
  of : note_of word ≡ Some note
  is_word : IsWord word

of_parts : (note : Note) (front : List ℕ) (b : ℕ) → b < 256 → note_text note ≡ front ++ (47 ∷ (hexadecimal 2 b ++ []))
    → note_at front b ≡ Some note → list_all is_inner front ≡ true → IsRead (note_text note) note
of_parts note front b small are at inner =
    let p = pair_of_byte b small in
    let whole : note_text note ≡ front ++ 47 ∷ p.high ∷ p.low ∷ [] = cc in
    let word : IsWord (front ++ 47 ∷ p.high ∷ p.low ∷ []) = record {
      some = omega (arith, length-append front (47 ∷ p.high ∷ p.low ∷ []));
      inner = inner_both front (47 ∷ p.high ∷ p.low ∷ []) inner (rw (p.inner_high, p.inner_low) refl);
    } in subst (λ (l : List ℕ). IsRead l note) (sym whole)
    (record { is = is_note_of p.high p.low p.is; of = of_note_of p.high p.low p.is; is_word = word })
  where
    is_note_of : (high low : ℕ) → byte_of high low ≡ Some b → is_note (front ++ 47 ∷ high ∷ low ∷ []) ≡ true
    is_note_of high low byte = is_one front high low b byte

    of_note_of : (high low : ℕ) → byte_of high low ≡ Some b → note_of (front ++ 47 ∷ high ∷ low ∷ []) ≡ Some note
    of_note_of high low byte = one_of front high low b byte ∙ at

note_back : (note : Note) → IsNote note → IsRead (note_text note) note
note_back (Block number byte) is =
    of_parts (Block number byte) (decimal number) byte is.2 refl (block_at number byte is.0 is.1) (number_word number is.1).inner
note_back (Address address byte) is =
    of_parts (Address address byte) (64 ∷ bytes_text address) byte is.1 refl (address_at address byte is.0) (bytes_inner address is.0.small)

-- User data.

record AreUser (notes : ℕ) (user : List ℕ) : Type 0 where
  small : All (λ b. b < 256) user
  halfwords : length user % 2 ≡ 0
  room : 4 * notes + length user ≤ 62

abbrev entry : (name : List ℕ) → (member : Option (List ℕ)) → (notes : List Note) → (user : List ℕ) → EntryForm
entry name member notes user = record { name = name; member = member; notes = record { items = notes }; user = record { items = user } }

module _ (name : List ℕ) (member : Option (List ℕ)) where
  user_added_back : (notes : List Note) (user : List ℕ) → AreUser (length notes) user
      → added (entry name member notes []) (bytes_text user) ≡ Ok (entry name member notes user)
  user_added_back notes user u =
      let short : nat_lt 124 (length (bytes_text user)) ≡ false =
      le-ltb 124 (length (bytes_text user)) (omega (arith, length_of_bytes user u.small)) in
      let even : nat_eq (length user % 2) 0 ≡ true = eq-eqb (length user % 2) 0 u.halfwords in
      let room : nat_lt 62 (4 * length notes + length user) ≡ false = le-ltb 62 (4 * length notes + length user) u.room in
      rw (bytes_are_no_note user u.small, short, bytes_back user u.small, even, room) refl

  user_back : (notes : List Note) (user : List ℕ) → AreUser (length notes) user
      → entry_behind (entry name member notes []) (user_words user) ≡ Ok (entry name member notes user)
  user_back notes [] u = refl
  user_back notes (b ∷ user) u =
      let some : nat_eq (length (b ∷ user)) 0 ≡ false = ne_eqb (length (b ∷ user)) 0 (λ e. omega arith) in
      rw (some, user_added_back notes (b ∷ user) u) refl

  notes_back : (before after : List Note) (user : List ℕ) → length before + length after ≤ 3 → All IsNote after
      → AreUser (length (before ++ after)) user
      → entry_behind (entry name member before []) (map note_text after ++ user_words user) ≡ Ok (entry name member (before ++ after) user)
  notes_back before [] user few are u = rw append-nil (user_back before user (rw append-nil at u))
  notes_back before (note ∷ after) user few are u =
      let n = note_back note (All-head IsNote note after are) in
      let room : nat_le 3 (length before) ≡ false = lt-leb 3 (length before) (omega arith) in
      let same : (before ++ note ∷ []) ++ after ≡ before ++ note ∷ after = append_assoc before (note ∷ []) after in
      let behind = notes_back (before ++ note ∷ []) after user (simp length-append (omega arith)) (All-tail IsNote note after are)
      (subst (λ l. AreUser (length l) user) (sym same) u) in rw (n.is, n.of, room) (cc (behind))

user_are : (user : List ℕ) → All (λ b. b < 256) user → AreWords (user_words user)
user_are [] small = tt
user_are (b ∷ user) small =
    let some : nat_eq (length (b ∷ user)) 0 ≡ false = ne_eqb (length (b ∷ user)) 0 (λ e. omega arith) in
    rw some (record { some = omega (arith, length_of_bytes (b ∷ user) small); inner = bytes_inner (b ∷ user) small }, tt)

notes_are : (notes : List Note) → All IsNote notes → AreWords (map note_text notes)
notes_are [] are = tt
notes_are (note ∷ notes) are = ((note_back note (All-head IsNote note notes are)).is_word, notes_are notes (All-tail IsNote note notes are))

-- the words of an entry's line
line_is : (kind : List ℕ) (names : List (List ℕ)) (notes : List Note) (user : List ℕ)
    → (kind ++ (spaced names ++ [])) ++ user_data_text notes user
    ≡ (kind ++ spaced (names ++ (map note_text notes ++ user_words user))) ++ 10 ∷ []
unfolding user_data_text
line_is kind names notes user = rw (closed_is (user_words user), append-nil (spaced names)) (simp (append_assoc, flat_map-append))

module _ (e : EntryForm) (is : IsEntryForm e) where
  behind : List (List ℕ)
  behind = map note_text e.notes.items ++ user_words e.user.items

  behind_are : AreWords behind
  unfolding behind
  behind_are = both_words (map note_text e.notes.items) (user_words e.user.items) (notes_are e.notes.items is.notes)
      (user_are e.user.items is.user)

  read_behind : (member : Option (List ℕ)) → entry_behind (entry_of e.name member) behind
      ≡ Ok (entry e.name member e.notes.items e.user.items)
  unfolding behind
  read_behind member = notes_back e.name member [] e.notes.items e.user.items (omega (arith, is.few)) is.notes
      (record { small = is.user; halfwords = is.halfwords; room = is.room })

  this : (member : Option (List ℕ)) → e.member ≡ member → entry_behind (entry_of e.name member) behind ≡ Ok e
  this member are = read_behind member ∙ ap (λ o. Ok (entry e.name o e.notes.items e.user.items)) (sym are)

  by_member : (member : Option (List ℕ)) → e.member ≡ member → IfSome member (AreBytes 8) → IsLine (Entry e)
  unfolding behind form_line
  by_member None are m = record {
    first = codes "member";
    words = safe_name_of e.name ∷ behind;
    are = cc (line_is (codes "member") (safe_name_of e.name ∷ []) e.notes.items e.user.items);
    is_word = record { some = lit< tt; inner = refl };
    are_words = (name_word 8 e.name is.name, behind_are);
    read = rw (name_back 8 e.name is.name (lit< tt) (lit≤ tt)) (ap an_entry (this None are));
  }
  by_member (Some member) are m = record {
    first = codes "alias";
    words = safe_name_of e.name ∷ safe_name_of member ∷ behind;
    are = cc (line_is (codes "alias") (safe_name_of e.name ∷ safe_name_of member ∷ []) e.notes.items e.user.items);
    is_word = record { some = lit< tt; inner = refl };
    are_words = (name_word 8 e.name is.name, (name_word 8 member m, behind_are));
    read = rw (name_back 8 e.name is.name (lit< tt) (lit≤ tt), name_back 8 member m (lit< tt) (lit≤ tt)) (ap an_entry (this
        (Some member) are));
  }

pub entry_is_line : (e : EntryForm) → IsEntryForm e → IsLine (Entry e)
entry_is_line e is = by_member e is e.member refl is.member

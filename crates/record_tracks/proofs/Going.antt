-- The entries of a directory, one behind another.
use Rattle.std.proofs.Common.{◌≡◌, ◌∙◌, ap, subst, ℕ, ◌+◌, ◌≤◌, ◌<◌, List, [], ◌∷◌, length, map, get_or, arith, All, length-append, refl}
use Rattle.std.proofs.Common.{zero, suc, ◌++◌, take, drop, nat_le, true, false, inl, inr, append-nil, drop-drop}
use Rattle.std.proofs.lemmas.List.{get_or_append_left, get_or_push, get_or-map, length-map, drop_more, drop_all, take_more}
use Rattle.std.proofs.lemmas.List.Elements.{All-nil, All-cons, All-head, All-tail, All-get_or}
use Rattle.std.proofs.lemmas.{Bool.cases_lt, Bool.Decides.nat_tests, List.Folds.concat-append}
use Rattle.record_tracks.specs.Entries.{EntryContents, contents_of, all_contents, entry_bytes, entry_front, all_entries, last_entry}
use Rattle.record_tracks.specs.{declared.entries.NewEntry.NewEntry, Entries.IsEntry}
use Rattle.record_tracks.specs.Directory.{going_in, used_by, behind_block, left_behind}
use Rattle.std.specs.List.{concat}

pub length-all : (entries : List EntryContents) → length (all_entries entries) ≡ length entries + 1
length-all entries = omega (arith, length-append (map entry_bytes entries) (last_entry ∷ []), length-map entries entry_bytes)

pub length-entries : (entries : List NewEntry) → length (all_entries (all_contents entries)) ≡ length entries + 1
length-entries entries = omega (arith, length-all (all_contents entries), length-map entries contents_of)

pub entry_in : (entries : List EntryContents) (k : ℕ) (d : EntryContents) → k < length entries
    → get_or (all_entries entries) k [] ≡ entry_bytes (get_or entries k d)
entry_in entries k d there =
    get_or_append_left (map entry_bytes entries) (last_entry ∷ []) [] k (omega (arith, length-map entries entry_bytes))
    ∙ get_or-map entry_bytes entries k d [] there

-- an entry of the list
pub entry_at : (entries : List NewEntry) (k : ℕ) (d : NewEntry) → k < length entries
    → get_or (all_entries (all_contents entries)) k [] ≡ entry_bytes (contents_of (get_or entries k d))
entry_at entries k d there =
    let one = entry_in (all_contents entries) k (contents_of d) (omega (arith, length-map entries contents_of)) in
    cc (get_or-map contents_of entries k d (contents_of d) there)

pub is_at : (entries : List NewEntry) (k : ℕ) (d : NewEntry) → All IsEntry (all_contents entries) → k < length entries
    → IsEntry (contents_of (get_or entries k d))
is_at entries k d each there = subst IsEntry (get_or-map contents_of entries k d (contents_of d) there)
    (All-get_or IsEntry (all_contents entries) k (contents_of d) (omega (arith, length-map entries contents_of)) each)

pub last_in : (entries : List EntryContents) → get_or (all_entries entries) (length entries) [] ≡ last_entry
last_in entries = get_or_push (map entry_bytes entries) last_entry [] (length entries) (length-map entries entry_bytes)

pub length-front : (e : EntryContents) → IsEntry e → length (entry_front e) ≡ 12
length-front e is = omega (arith, length-append {A = ℕ})

pub length-entry : (e : EntryContents) → IsEntry e → length (entry_bytes e) ≡ 12 + length e.user_data
length-entry e is = omega (arith, length-front e is, length-append (entry_front e) e.user_data)

-- an entry takes at least 12 and at most 74 bytes
pub record IsShort (e : List ℕ) : Type 0 where
  pub least : 12 ≤ length e
  pub most : length e ≤ 74

pub entries_short : (entries : List EntryContents) → All IsEntry entries → All IsShort (all_entries entries)
entries_short [] each = All-cons IsShort last_entry [] (record { least = omega arith; most = omega arith }) (All-nil IsShort)
entries_short (e ∷ others) each =
    let is = All-head IsEntry e others each in
    let size = length-entry e is in
    All-cons IsShort (entry_bytes e) (all_entries others) (record { least = omega arith; most = omega arith })
    (entries_short others (All-tail IsEntry e others each))

module _ (used : ℕ) (e : List ℕ) (others : List (List ℕ)) where
  pub one_goes : used + length e ≤ 256 → going_in used (e ∷ others) ≡ suc (going_in (used + length e) others)
  unfolding going_in
  one_goes fits = let is : nat_le (used + length e) 256 ≡ true = grind (arith, nat_tests) in rw is refl

  pub is_full : 256 < used + length e → going_in used (e ∷ others) ≡ 0
  unfolding going_in
  is_full over = let is : nat_le (used + length e) 256 ≡ false = grind (arith, nat_tests) in rw is refl

-- as many as there are at most, and no more bytes than a block has
pub record GoesIn (used : ℕ) (entries : List (List ℕ)) (n : ℕ) : Type 0 where
  pub within : n ≤ length entries
  pub room : used ≤ 256 → used + length (concat (take n entries)) ≤ 256

pub goes_in : (used : ℕ) (entries : List (List ℕ)) → GoesIn used entries (going_in used entries)
unfolding going_in
goes_in used [] = record { within = omega arith; room = λ h. omega arith }
goes_in used (e ∷ others) = let more = goes_in (used + length e) others in elim (cases_lt 256 (used + length e)) [
  | inl over ↦ rw (is_full used e others over) (record { within = omega arith; room = λ h. omega arith })
  | inr fits ↦ rw (one_goes used e others fits) (record {
    within = omega (arith, more.within);
    room = λ _. omega (arith, more.room fits, length-append e (concat (take (going_in (used + length e) others) others)));
  })
]

-- A loop over entries that has passed so many, with so many bytes of the block used by them.
module _ (left : List (List ℕ)) (k used : ℕ) (so_far : going_in 2 left ≡ k + going_in used (drop k left)) where
  next_is : k < length left → going_in 2 left ≡ k + going_in used (get_or left k [] ∷ drop (k + 1) left)
  next_is there = cc (drop_more left k [] there)

  pub stops : k < length left → 256 < used + length (get_or left k []) → k ≡ going_in 2 left
  stops there over = omega (arith, next_is there, is_full used (get_or left k []) (drop (k + 1) left) over)

  pub goes_on : k < length left → used + length (get_or left k []) ≤ 256
      → going_in 2 left ≡ k + 1 + going_in (used + length (get_or left k [])) (drop (k + 1) left)
  goes_on there fits = omega (arith, next_is there, one_goes used (get_or left k []) (drop (k + 1) left) fits)

  pub ends : length left ≤ k → k ≡ going_in 2 left
  unfolding going_in
  ends all = let none : going_in used (drop k left) ≡ 0 = cc (drop_all k left all) in omega (arith, so_far)

-- the bytes of one entry more
pub concat_more : (left : List (List ℕ)) (k : ℕ) → k < length left → concat (take (k + 1) left) ≡ concat (take k left) ++ get_or left k []
concat_more left k there = let e = get_or left k [] in cc (take_more left k [] there, concat-append (take k left) (e ∷ []), append-nil e)

-- fewer entries have no more bytes
pub concat_fewer : (k n : ℕ) (left : List (List ℕ)) → k ≤ n → length (concat (take k left)) ≤ length (concat (take n left))
concat_fewer zero n left within = omega arith
concat_fewer (suc k) zero left within = absurd (omega (arith, within))
concat_fewer (suc k) (suc n) [] within = omega arith
concat_fewer (suc k) (suc n) (e ∷ others) within =
    omega (arith, length-append e (concat (take k others)), length-append e (concat (take n others)), concat_fewer k n others (omega arith))

-- one entry more uses its bytes
pub more_used : (left : List (List ℕ)) (k : ℕ) → k < length left
    → used_by (take (k + 1) left) ≡ used_by (take k left) + length (get_or left k [])
more_used left k there = omega (arith, ap length (concat_more left k there), length-append (concat (take k left)) (get_or left k []))

-- one at least goes into an empty block
pub some_goes : (e : List ℕ) (others : List (List ℕ)) → length e ≤ 254 → 1 ≤ going_in 2 (e ∷ others)
some_goes e others short = omega (arith, one_goes 2 e others (omega arith))

pub all_left : (entries : List (List ℕ)) → left_behind entries 0 ≡ entries
unfolding left_behind
all_left entries = refl

pub one_behind : (entries : List (List ℕ)) (n : ℕ) → left_behind entries (suc n) ≡ left_behind (behind_block entries) n
unfolding left_behind
one_behind entries n = refl

pub none_left : (n : ℕ) → left_behind [] n ≡ []
unfolding going_in left_behind
none_left zero = refl
none_left (suc n) = none_left n

module _ (all : List (List ℕ)) (next : ℕ) where
  -- a block takes one at least
  pub some_fit : All IsShort all → next < length all → 1 ≤ going_in 2 (drop next all)
  some_fit each there =
      let e = get_or all next [] in
      let short = (All-get_or IsShort all next [] there each).most in
      let some = some_goes e (drop (next + 1) all) (omega arith) in omega (arith, ap (going_in 2) (drop_more all next [] there))

  -- what is left behind one block more
  pub one_more : (blocks : ℕ) → ((n : ℕ) → left_behind all (blocks + n) ≡ left_behind (drop next all) n)
      → (n : ℕ) → left_behind all (blocks + 1 + n) ≡ left_behind (drop (next + going_in 2 (drop next all)) all) n
  one_more blocks left n =
      let far : blocks + 1 + n ≡ blocks + suc n = omega arith in
      cc (left (suc n), one_behind (drop next all) n, drop-drop (going_in 2 (drop next all)) next all)

  -- nothing is left behind all of them
  pub then_none : (blocks : ℕ) → ((n : ℕ) → left_behind all (blocks + n) ≡ left_behind (drop next all) n) → length all ≤ next
      → (n : ℕ) → left_behind all (blocks + n) ≡ []
  then_none blocks left past n = cc (left n, drop_all next all past, none_left n)

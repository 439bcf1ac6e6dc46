-- The data of one block, where it stands among others.
use Rattle.std.proofs.Common.{◌≡◌, ◌∙◌, ap, refl, ℕ, ◌+◌, ◌-◌, ◌*◌, ◌/◌, ◌%◌, ◌≤◌, ◌<◌, List, [], ◌∷◌, ◌++◌, length, drop, get_or, arith}
use Rattle.std.proofs.Common.{replicate, All, length-append, append_assoc, slice_index, sym, zero, suc, map, take, ⊎_elim, inl, inr}
use Rattle.std.proofs.Common.{length-drop, zero-add, append-nil}
use Rattle.std.specs.List.{concat}
use Rattle.std.proofs.lemmas.List.{get_or-append-add, get_or-take, drop_at, length-take, length-take-le, length-replicate, take-append-le}
use Rattle.std.proofs.lemmas.List.{drop-append-le, take-map, drop-map, take-append-drop, take_all, length-map, Folds.concat-append}
use Rattle.std.proofs.lemmas.List.Elements.{All-get_or, All-head, All-tail, All-take, All-drop}
use Rattle.std.proofs.lemmas.Bool.{cases_lt}
use Rattle.record_tracks.specs.Directory.{going_in, in_block, used_by, key_of, block_front, block_of, behind_block, left_behind, blocks_of}
use Rattle.record_tracks.specs.{Directory.data_of, Filled.filled, DirectoryReadBack.these_entries, DirectoryReadBack.IsReadBack}
use Rattle.record_tracks.specs.Entries.{EntryContents, entry_bytes, entry_read, all_entries, last_entry, IsEntry}
use Rattle.record_tracks.proofs.Going.{IsShort, goes_in, some_fit, length-all, length-entry, entries_short, all_left, one_behind}
use Rattle.record_tracks.proofs.Steps.{HasBlock, one_step, begins, passes, enters, entry_stands, last_stands}
use Rattle.volume_labels.specs.declared.directories.{DirectoryEntry.DirectoryEntry, DirectoryStep.DirectoryStep}
use Rattle.volume_labels.specs.declared.directories.DirectoryStep.TheVariants.{Entry, End}
use Rattle.volume_labels.specs.Directories.{step_at, entries_from, from_step, Found, and_more}

pub block_made : (left : List (List ℕ)) → 1 ≤ length left → block_of left ≡ filled 264 (block_front (in_block left))
block_made [] some = absurd (omega (arith, some))
block_made (e ∷ others) some = refl

module _ (left : List (List ℕ)) (short : All IsShort left) (some : 1 ≤ length left) where
  abbrev pub used : ℕ
  used = used_by (in_block left)

  pub used_most : used ≤ 256
  used_most = (goes_in 2 left).room (omega arith)

  pub some_in : 1 ≤ going_in 2 left
  some_in = some_fit left 0 short some

  count_is : length (in_block left) ≡ going_in 2 left
  count_is = length-take-le (going_in 2 left) left (goes_in 2 left).within

  pub length-key : length (key_of (in_block left)) ≡ 8
  length-key =
      let last = length (in_block left) - 1 in
      let there : last < going_in 2 left = omega (arith, count_is, some_in) in
      let here : last < length left = omega (arith, (goes_in 2 left).within) in
      let long = (All-get_or IsShort left last [] here short).least in
      let same = ap length (get_or-take (going_in 2 left) left last [] there) in
      omega (arith, length-take 8 (get_or (in_block left) last []))

  -- behind its key: the number of its used bytes, its entries, and zeros
  pub data_is : drop 8 (block_of left) ≡ (used / 256 ∷ used % 256 ∷ concat (in_block left)) ++ replicate (256 - used) 0
  data_is =
      let key = key_of (in_block left) in
      let body = used / 256 ∷ used % 256 ∷ concat (in_block left) in
      let size : 264 - length (key ++ body) ≡ 256 - used = omega (arith, length-append key body, length-key, length-append {A = ℕ}) in
      let one = drop_at key (body ++ replicate (264 - length (key ++ body)) 0) 8 length-key in
      cc (block_made left some, append_assoc key body (replicate (264 - length (key ++ body)) 0), size)

  pub length-data : length (drop 8 (block_of left)) ≡ 256
  length-data =
      let body = used / 256 ∷ used % 256 ∷ concat (in_block left) in
      omega (arith, ap length data_is, length-append body (replicate (256 - used) 0), length-replicate {A = ℕ} (256 - used) 0, used_most)

  -- It stands behind so many other blocks.
  module _ (front rest : List ℕ) (k : ℕ) (blocks : length front ≡ 256 * k) where
    abbrev pub standing : List ℕ
    standing = front ++ (drop 8 (block_of left) ++ rest)

    pub spread : standing ≡ (front ++ (used / 256 ∷ used % 256 ∷ [])) ++ (concat (in_block left) ++ (replicate (256 - used) 0 ++ rest))
    spread = ap (λ (xs : List ℕ). front ++ (xs ++ rest)) data_is ∙ simp append_assoc

    number_byte : (i : ℕ) → get_or standing (256 * k + i) 0
        ≡ get_or (used / 256 ∷ used % 256 ∷ (concat (in_block left) ++ (replicate (256 - used) 0 ++ rest))) i 0
    number_byte i =
        let more = concat (in_block left) ++ (replicate (256 - used) 0 ++ rest) in
        let far : 256 * k + i ≡ length front + i = omega arith in
        cc (spread, append_assoc front (used / 256 ∷ used % 256 ∷ []) more, get_or-append-add front (used / 256 ∷ used % 256 ∷ more) i 0)

    pub has_block : HasBlock standing k used
    has_block = record {
      there = omega (arith, length-append front (drop 8 (block_of left) ++ rest), length-append (drop 8 (block_of left)) rest, length-data);
      number = (let none : 256 * k ≡ 256 * k + 0 = omega arith in
          let high : slice_index standing (256 * k) ≡ used / 256 = rw none (number_byte 0) in
          let low = number_byte 1 in omega arith);
      least = omega arith;
      most = used_most;
    }

-- entries before those that are found further on
all_more : List DirectoryEntry → Found → Found
all_more [] f = f
all_more (e ∷ others) f = and_more e (all_more others f)

-- the bytes of entries
abbrev bytes_of : List EntryContents → List ℕ
bytes_of ps = concat (map entry_bytes ps)

-- Entries that stand within a block are passed, each by one step.
module _ (bytes : List ℕ) (k used : ℕ) (has : HasBlock bytes k used) where
  through : (ps : List EntryContents) (front rest : List ℕ) (at most : ℕ) → All IsEntry ps → length front ≡ at
      → bytes ≡ front ++ (bytes_of ps ++ rest) → 256 * k + 2 ≤ at → at + length (bytes_of ps) ≤ 256 * k + used
      → entries_from (length ps + most) bytes at ≡ all_more (map entry_read ps) (entries_from most bytes (at + length (bytes_of ps)))
  unfolding all_more
  through [] front rest at most each is_at is from to =
      let end : at ≡ at + 0 = omega arith in ap (λ (m : ℕ). entries_from m bytes at) (zero-add most) ∙ ap (entries_from most bytes) end
  through (p ∷ ps) front rest at most each is_at is from to =
      let one = All-head IsEntry p ps each in
      let size = length-entry p one in
      let both = length-append (entry_bytes p) (bytes_of ps) in
      let next = at + length (entry_bytes p) in
      let more : suc (length ps) + most ≡ suc (length ps + most) = omega arith in
      let here : bytes ≡ front ++ (entry_bytes p ++ (bytes_of ps ++ rest)) = cc (append_assoc (entry_bytes p) (bytes_of ps) rest) in
      let step : step_at bytes at ≡ Entry (entry_read p) next =
      cc (
        enters bytes k used at has (omega arith) (omega arith) (omega arith) (omega arith),
        entry_stands p one front (bytes_of ps ++ rest) at is_at (256 * k + used) (omega arith),
      ) in
      let far : next + length (bytes_of ps) ≡ at + length (bytes_of (p ∷ ps)) = omega arith in cc (
        one_step bytes (length ps + most) at,
        through ps (front ++ entry_bytes p) rest next most (All-tail IsEntry p ps each) (omega (arith, length-append front (entry_bytes p)))
            (here ∙ sym (append_assoc front (entry_bytes p) (bytes_of ps ++ rest))) (omega arith) (omega arith),
      )

-- behind its last entry a block is passed by one step more, where it is not full
passed : (bytes : List ℕ) (k used most more : ℕ) → HasBlock bytes k used → more + 1 ≤ most
    → (m : ℕ) × (more ≤ m) × (entries_from most bytes (256 * k + used) ≡ entries_from m bytes (256 * (k + 1)))
passed bytes k used most more has fuel = elim (cases_lt used 256) [
  | inl short ↦
      let n : most ≡ suc (most - 1) = omega arith in
      let next : 256 * k + 256 ≡ 256 * (k + 1) = omega arith in
      let over = passes bytes k used (256 * k + used) has (omega arith) (omega arith) (omega arith) (omega arith) in
      (most - 1, omega arith, cc (one_step bytes (most - 1) (256 * k + used)))
  | inr full ↦ let next : 256 * k + used ≡ 256 * (k + 1) = omega arith in (most, omega arith, ap (entries_from most bytes) next)
]

-- The entries of a directory, from the block that begins with the first of them on.
abbrev Reads : (blocks : ℕ) → Type 0
Reads blocks = (k : ℕ) (es : List EntryContents) (front behind : List ℕ) (most : ℕ) → All IsEntry es → length front ≡ 256 * k
    → left_behind (all_entries es) blocks ≡ [] → 256 * blocks ≤ most
    → entries_from most (front ++ (data_of (blocks_of (all_entries es) blocks) ++ behind)) (256 * k) ≡ these_entries es

-- all entries of those that are left, where some of them go into a block
module _ (es : List EntryContents) (g : ℕ) (within : g ≤ length es) where
  first_ones : take g (all_entries es) ≡ map entry_bytes (take g es)
  first_ones =
      take-append-le g (map entry_bytes es) (last_entry ∷ []) (omega (arith, length-map es entry_bytes)) ∙ take-map entry_bytes g es

  other_ones : drop g (all_entries es) ≡ all_entries (drop g es)
  other_ones =
      cc (drop-append-le g (map entry_bytes es) (last_entry ∷ []) (omega (arith, length-map es entry_bytes)), drop-map entry_bytes g es)

more_entries : (xs ys : List EntryContents) → all_more (map entry_read xs) (these_entries ys) ≡ these_entries (xs ++ ys)
unfolding all_more
more_entries [] ys = refl
more_entries (x ∷ xs) ys = ap (and_more (entry_read x)) (more_entries xs ys)

-- each entry takes 12 bytes at least
many_bytes : (ps : List EntryContents) → All IsEntry ps → 12 * length ps ≤ length (bytes_of ps)
many_bytes [] each = omega arith
many_bytes (p ∷ ps) each =
    let others = many_bytes ps (All-tail IsEntry p ps each) in
    omega (arith, length-entry p (All-head IsEntry p ps each), length-append (entry_bytes p) (bytes_of ps))

-- One block, and those behind it.
module _ (n : ℕ) (later : Reads n) (k : ℕ) (es : List EntryContents) (front behind : List ℕ) (most : ℕ) (each : All IsEntry es)
    (is_at : length front ≡ 256 * k) (all : left_behind (all_entries es) (suc n) ≡ []) (fuel : 256 * suc n ≤ most) where
  abbrev left : List (List ℕ)
  left = all_entries es

  abbrev g : ℕ
  g = going_in 2 left

  some : 1 ≤ length left
  some = omega (arith, length-all es)

  abbrev rest : List ℕ
  rest = data_of (blocks_of (behind_block left) n) ++ behind

  abbrev bytes : List ℕ
  bytes = standing left (entries_short es each) some front rest k is_at

  bytes_is : front ++ (data_of (blocks_of left (suc n)) ++ behind) ≡ bytes
  unfolding blocks_of
  bytes_is = cc (append_assoc (drop 8 (block_of left)) (data_of (blocks_of (behind_block left) n)) behind)

  abbrev size : ℕ
  size = used_by (in_block left)

  has : HasBlock bytes k size
  has = has_block left (entries_short es each) some front rest k is_at

  abbrev head : List ℕ
  head = front ++ (size / 256 ∷ size % 256 ∷ [])

  length-head : length head ≡ 256 * k + 2
  length-head = omega (arith, length-append front (size / 256 ∷ size % 256 ∷ []))

  begun : (m : ℕ) → most ≡ suc m → entries_from most bytes (256 * k) ≡ entries_from m bytes (256 * k + 2)
  begun m is = rw (is, one_step bytes m (256 * k), begins bytes k size (256 * k) has (omega arith) (omega arith) refl) refl

  -- Entries that begin the block, and what stands behind them in it.
  walked : (ps : List EntryContents) (end : List ℕ) (m : ℕ) → All IsEntry ps → concat (in_block left) ≡ bytes_of ps ++ end
      → most ≡ suc (length ps + m)
      → entries_from most bytes (256 * k) ≡ all_more (map entry_read ps) (entries_from m bytes (256 * k + 2 + length (bytes_of ps)))
  walked ps end m are is enough =
      let zeros : List ℕ = replicate (256 - size) 0 in
      let one = spread left (entries_short es each) some front rest k is_at in
      let here : bytes ≡ head ++ (bytes_of ps ++ (end ++ (zeros ++ rest))) = cc (append_assoc (bytes_of ps) end (zeros ++ rest)) in
      begun (length ps + m) enough
      ∙ through bytes k size has ps head (end ++ (zeros ++ rest)) (256 * k + 2) m are length-head here (omega arith)
      (omega (arith, ap length is, length-append (bytes_of ps) end))

  -- some of the entries go into the block
  part_in : g ≤ length es → entries_from most bytes (256 * k) ≡ these_entries es
  part_in within =
      let ps = take g es in
      let are = All-take IsEntry g es each in
      let others = drop g es in
      let m = most - 1 - g in
      let count : length ps ≡ g = length-take-le g es within in
      let is : concat (in_block left) ≡ bytes_of ps = ap concat (first_ones es g within) in
      let few = many_bytes ps are in
      let full = used_most left (entries_short es each) some in
      let enough : most ≡ suc (length ps + m) = omega (arith, ap length is) in
      let at_end : 256 * k + 2 + length (bytes_of ps) ≡ 256 * k + size = omega (arith, ap length is) in
      let over = passed bytes k size m (256 * n) has (omega (arith, ap length is)) in
      let d = drop 8 (block_of left) in
      let two = append_assoc front d rest in
      let there : bytes ≡ (front ++ d) ++ (data_of (blocks_of (all_entries others) n) ++ behind) = cc (other_ones es g within) in
      let none : left_behind (all_entries others) n ≡ [] = cc (other_ones es g within, one_behind left n) in
      let long : length (front ++ d) ≡ 256 * (k + 1) =
      omega (arith, length-append front d, length-data left (entries_short es each) some) in
      let three = later (k + 1) others (front ++ d) behind over.0 (All-drop IsEntry g es each) long none over.1 in
      cc (walked ps [] m are (is ∙ sym (append-nil (bytes_of ps))) enough, more_entries ps others, take-append-drop g es)

  -- all of them do, and the last one behind them
  all_in : length es < g → entries_from most bytes (256 * k) ≡ these_entries es
  all_in over =
      let g_is : g ≡ length es + 1 = omega (arith, (goes_in 2 left).within, length-all es) in
      let m = most - 1 - length es in
      let is : concat (in_block left) ≡ bytes_of es ++ last_entry = ap concat (take_all g left (omega (arith, length-all es)))
      ∙ concat-append (map entry_bytes es) (last_entry ∷ []) in
      let few = many_bytes es each in
      let full = used_most left (entries_short es each) some in
      let sizes = ap length is ∙ length-append (bytes_of es) last_entry in
      let enough : most ≡ suc (length es + m) = omega arith in
      let one : m ≡ suc (m - 1) = omega arith in
      let at = 256 * k + 2 + length (bytes_of es) in
      let before = head ++ bytes_of es in
      let behind_it = replicate (256 - size) 0 ++ rest in
      let four = spread left (entries_short es each) some front rest k is_at in
      let five = append_assoc head (bytes_of es) (last_entry ++ behind_it) in
      let here : bytes ≡ before ++ (last_entry ++ behind_it) = cc (append_assoc (bytes_of es) last_entry behind_it) in
      let end : step_at bytes at ≡ End =
      cc (
        enters bytes k size at has (omega arith) (omega arith) (omega arith) (omega arith),
        last_stands before behind_it at (256 * k + size) (omega (arith, length-append head (bytes_of es), length-head)) (omega arith),
      ) in
      walked es last_entry m each is enough ∙ ap (all_more (map entry_read es)) (ap (λ (j : ℕ). entries_from j bytes at) one
      ∙ one_step bytes (m - 1) at ∙ ap (λ (s : DirectoryStep). from_step s (entries_from (m - 1) bytes)) end)
      ∙ more_entries es [] ∙ ap these_entries (append-nil es)

  next_block : entries_from most (front ++ (data_of (blocks_of left (suc n)) ++ behind)) (256 * k) ≡ these_entries es
  next_block = cc (bytes_is, ⊎_elim all_in part_in (cases_lt (length es) g))

reads : (blocks : ℕ) → Reads blocks
reads zero k es front behind most each is_at all fuel =
    absurd (omega (arith, ap length (sym (all_left (all_entries es)) ∙ all), length-all es))
reads (suc n) k es front behind most each is_at all fuel = next_block n (reads n) k es front behind most each is_at all fuel

length-each : (left : List (List ℕ)) → All IsShort left → length (drop 8 (block_of left)) ≡ 256
length-each [] short = refl
length-each (e ∷ others) short = length-data (e ∷ others) short (omega arith)

pub length-block : (left : List (List ℕ)) → All IsShort left → length (block_of left) ≡ 264
length-block left short = omega (arith, length-each left short, length-drop 8 (block_of left))

length-data_of : (left : List (List ℕ)) (n : ℕ) → All IsShort left → length (data_of (blocks_of left n)) ≡ 256 * n
unfolding blocks_of
length-data_of left zero short = refl
length-data_of left (suc n) short =
    let later = length-data_of (behind_block left) n (All-drop IsShort (going_in 2 left) left short) in
    omega (arith, length-append (drop 8 (block_of left)) (data_of (blocks_of (behind_block left) n)), length-each left short)

pub read_back : (entries : List EntryContents) (blocks : ℕ) → All IsEntry entries → left_behind (all_entries entries) blocks ≡ []
    → IsReadBack entries blocks
read_back entries blocks each all behind =
    let made = data_of (blocks_of (all_entries entries) blocks) in
    let size = length-data_of (all_entries entries) blocks (entries_short entries each) in
    reads blocks 0 entries [] behind (length (made ++ behind)) each refl all (omega (arith, size, length-append made behind))

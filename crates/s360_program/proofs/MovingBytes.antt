-- Bytes that may move one after another.
use Rattle.std.proofs.Common.{◌≡◌, ◌⊎◌, inl, inr, ℕ, zero, suc, ◌+◌, ◌-◌, ◌<◌, ◌≤◌, refl, sym, ap, subst, ◌∙◌, arith, true, false, Bool}
use Rattle.std.proofs.Common.{not, ◌&&◌, List, ◌++◌, nat_lt, length, take, drop, length-append, length-drop, length-take-le}
use Rattle.std.specs.Prelude.{if◌then◌else◌, ◌==◌, is_some, slice_get, slice_range, Ok, Err, IsTrue}
use Rattle.std.proofs.lemmas.Bool.Decides.{nat_tests}
use Rattle.std.proofs.lemmas.Option.{slice_get_past, slice_get-get_or}
use Rattle.std.proofs.lemmas.List.{take-take}
use Rattle.s360_words.specs.Storage.{Storage, stored, admits, key_at, may_store}
use Rattle.s360_words.specs.Words.{skips}
use Rattle.s360_words.specs.declared.words.Ccw.{Ccw}
use Rattle.s360_words.specs.declared.flags.TheConstants.ChannelStatus.{PROGRAM_CHECK, PROTECTION_CHECK}
use Rattle.s360_words.proofs.Overwriting.{length-overwritten, overwritten-none}
use Rattle.ckd_command.specs.Drive.{State, Open, gives, given, length_of}
use Rattle.ckd_command.specs.Tables.{is_giving, action_of}
use Rattle.ckd_command.proofs.Lengths.{length_grows, gives_length}
use Rattle.s360_laws.specs.Laws.{MayMove}
use Rattle.s360_laws.specs.Status.{no_channel_status, is_clear}
use Rattle.s360_laws.specs.Transfers.{Transfer, Moves, transfer_unit, check_of, after_bytes, next_bytes}
use Rattle.ckd_drive.specs.Work.{DriveState, Work, Idle, Over, Looking, Passing, takes_now, gives_now, given_now, passed_of, left_of}
use Rattle.ckd_drive.specs.Work.{moved_on}
use Rattle.s360_program.specs.Steps.{MovesBy, MovesBytesBy, transfer_by, status_of, refused}
use Rattle.s360_program.specs.declared.moving.StorageArea.{StorageArea}

-- so many bytes from a place on, as they are taken
pub ranged : (xs : List ℕ) (at m : ℕ) → slice_range xs at (at + m) ≡ take m (drop at xs)
ranged xs at m = let span : at + m - at ≡ m = omega arith in ap (λ n. take n (drop at xs)) span

counted : (xs : List ℕ) (at m : ℕ) → at + m ≤ length xs → length (take m (drop at xs)) ≡ m
counted xs at m h = omega (arith, length-take-le m (drop at xs) (omega (arith, length-drop at xs)))

some_below : (xs : List ℕ) (i : ℕ) → i < length xs → is_some (slice_get xs i) ≡ true
some_below xs i h = ap is_some (slice_get-get_or xs i 0 h)

-- Units in which bytes move.

-- that this many bytes may still move, and that the next one may, stays so from byte to byte
abbrev pub IsKept : (key : ℕ) → Open → (ℕ → Transfer → Type 0) → Type 0
IsKept key o Free = (m : ℕ) (t : Transfer) → Free (suc m) t → (check_of key o t ≡ no_channel_status) × (length (next_bytes 1 o t) ≡ 1)
    × Free m (after_bytes 1 o t)

may_move : (m key : ℕ) (o : Open) (Free : ℕ → Transfer → Type 0) (t : Transfer) → IsKept key o Free → Free m t → m ≤ t.place.residual
    → length t.bytes + m ≤ length_of o t.bytes → MayMove m key o t
may_move zero key o Free t keeps free r l = tt
may_move (suc m) key o Free t keeps free r l =
    (moves, k.1, may_move m key o Free (after_bytes 1 o t) keeps k.2 (fewer t.place.residual r) long)
  where
    k : (check_of key o t ≡ no_channel_status) × (length (next_bytes 1 o t) ≡ 1) × Free m (after_bytes 1 o t)
    k = keeps m t free

    positive : (r : ℕ) → suc m ≤ r → (r == 0) ≡ false
    positive r h = grind (arith, nat_tests)

    wanted : (r b L : ℕ) → suc m ≤ r → b + suc m ≤ L → (nat_lt 0 r && nat_lt b L) ≡ true
    wanted r b L h k = grind (arith, nat_tests)

    moves : transfer_unit key o t ≡ Moves (after_bytes 1 o t)
    moves = rw (positive t.place.residual r, wanted t.place.residual (length t.bytes) (length_of o t.bytes) r l, k.0)

    fewer : (r : ℕ) → suc m ≤ r → m ≤ r - 1
    fewer r h = omega arith

    long : length (t.bytes ++ next_bytes 1 o t) + m ≤ length_of o (t.bytes ++ next_bytes 1 o t)
    long =
        let grown : length_of o t.bytes ≤ length_of o (t.bytes ++ next_bytes 1 o t) = length_grows o t.bytes (next_bytes 1 o t) in
        omega (arith, length-append t.bytes (next_bytes 1 o t), k.1, grown, l)

-- A command that takes bytes.

may_take : (m key : ℕ) (o : Open) (t : Transfer) → gives o ≡ false → m ≤ t.place.residual → length t.bytes + m ≤ length_of o t.bytes
    → t.address + m ≤ length t.storage.bytes → MayMove m key o t
may_take m key o t g r l h = may_move m key o (λ m t. t.address + m ≤ length t.storage.bytes) t keeps h r l
  where
    keeps : IsKept key o (λ m t. t.address + m ≤ length t.storage.bytes)
    keeps m t h = rw g (
      rw (some_below t.storage.bytes t.address (omega arith)),
      counted t.storage.bytes t.address 1 (omega arith),
      omega arith,
    )

-- A command that gives bytes.

-- the byte may be stored, or is skipped
abbrev pub IsFree : (key : ℕ) → Ccw → Storage → (at : ℕ) → Type 0
IsFree key ccw s at = (skips ccw ≡ true) ⊎ ((at < length s.bytes) × (admits (key_at s at) key ≡ true))

-- and so are so many of them, which the drive has
abbrev pub AreFree : (key : ℕ) → Open → ℕ → Transfer → Type 0
AreFree key o m t = (length t.bytes + m ≤ length (given o)) × ((i : ℕ) → i < m → IsFree key t.ccw t.storage (t.address + i))

free_checked : (key : ℕ) (ccw : Ccw) (s : Storage) (at : ℕ) → IsFree key ccw s at
    → (if skips ccw then no_channel_status else (if not (is_some (slice_get s.bytes at)) then PROGRAM_CHECK else (if not
    (admits (key_at s at) key) then PROTECTION_CHECK else no_channel_status))) ≡ no_channel_status
free_checked key ccw s at (inl k) = rw k
free_checked key ccw s at (inr k) = rw (some_below s.bytes at k.0, k.1) (either (skips ccw))
  where
    either : (k : Bool) → (if k then no_channel_status else no_channel_status) ≡ no_channel_status
    either true = refl
    either false = refl

free_behind : (key : ℕ) (ccw : Ccw) (s : Storage) (a at : ℕ) (new : List ℕ) (w : Bool) → IsFree key ccw s at
    → IsFree key ccw (if w then stored s a new else s) at
free_behind key ccw s a at new true (inl k) = inl k
free_behind key ccw s a at new true (inr k) = inr (rw (length-overwritten s.bytes a new) k.0, k.1)
free_behind key ccw s a at new false k = k

may_give : (m key : ℕ) (o : Open) (t : Transfer) → gives o ≡ true → m ≤ t.place.residual → AreFree key o m t → MayMove m key o t
may_give m key o t g r free = may_move m key o (AreFree key o) t keeps free r (subst (λ n. length t.bytes + m ≤ n)
    (sym (gives_length o t.bytes g)) free.0)
  where
    first : (a : ℕ) → a + 0 ≡ a
    first a = omega arith

    next : (a i : ℕ) → a + suc i ≡ a + 1 + i
    next a i = omega arith

    keeps : IsKept key o (AreFree key o)
    keeps m t free =
        let one : length (take 1 (drop (length t.bytes) (given o))) ≡ 1 = counted (given o) (length t.bytes) 1 (omega arith) in
        rw g (
          free_checked key t.ccw t.storage t.address (subst (IsFree key t.ccw t.storage) (first t.address) (free.1 0 (omega arith))),
          one,
          (
            omega (arith, length-append t.bytes (take 1 (drop (length t.bytes) (given o))), one, free.0),
            λ i h. free_behind key t.ccw t.storage t.address (t.address + 1 + i) (take 1 (drop (length t.bytes) (given o)))
                (not (skips t.ccw))
                (subst (IsFree key t.ccw t.storage) (next t.address i) (free.1 (suc i) (omega arith))),
          ),
        )

-- What moves.

-- so many bytes of a segment pass at once, and the drive has them
pub record MayPass (m : ℕ) (seg : StorageArea) (s : State) (w : Work) : Type 0 where
  pub moving : MovesBy s w
  pub some : 0 < m
  pub few : m ≤ seg.count
  pub left : seg.count ≤ left_of w

within : (b left m most L : ℕ) → b + left ≤ L → m ≤ most → most ≤ left → b + m ≤ L
within b left m most L x y z = omega arith

-- so many bytes are taken; the work is named apart from the drive, since it goes by its cases, and what the code has at
-- hand of them is a premise each
pub takes_so : (m : ℕ) (seg : StorageArea) (s : Storage) (d d2 : DriveState) (w : Work) → MayPass m seg d.state w → takes_now w ≡ true
    → seg.address + m ≤ length s.bytes
    → d2 ≡ record d { work = moved_on (slice_range s.bytes seg.address (seg.address + m)) w } → MovesBytesBy seg (Ok m) s s d d2 w
takes_so m seg s d d2 Idle h t inside e = absurd h.moving
takes_so m seg s d d2 (Over x) h t inside e = absurd h.moving
takes_so m seg s d d2 (Looking o) h t inside e = absurd h.moving
takes_so m seg s d d2 (Passing o b left) h t inside e = (
  h.some,
  h.few,
  λ place r. record {
    may = may_take m seg.key O (transfer_by seg s place (Passing o b left)) g r (within (length b) left m seg.count
        (length_of O b) h.moving h.few h.left) inside;
    count = rw g (counted s.bytes seg.address m inside);
    storage = rw g;
    drive = rw g (rw (ranged s.bytes seg.address m) at e);
  },
)
  where
    O : Open
    O = record { opened = o; state = d.state }

    g : gives (record { opened = o; state = d.state }) ≡ false
    g = not_true (is_giving (action_of o.command)) t
      where
        not_true : (b : Bool) → not b ≡ true → b ≡ false
        not_true true h = cc
        not_true false h = refl

-- so many bytes are given; its premises are many, since a read that skips, one that stores and one of a whole area come
-- here
pub gives_so : (m : ℕ) (seg : StorageArea) (s s2 : Storage) (d d2 : DriveState) (w : Work) → MayPass m seg d.state w → gives_now w ≡ true
    → ((i : ℕ) → i < m → IsFree seg.key seg.ccw s (seg.address + i))
    → d2 ≡ record d { work = moved_on (slice_range (given_now d w) (length (passed_of w)) (length (passed_of w) + m)) w }
    → s2 ≡ (if not (skips seg.ccw) then stored s seg.address (slice_range (given_now d w) (length (passed_of w)) (length (passed_of w) + m))
    else s)
    → MovesBytesBy seg (Ok m) s s2 d d2 w
gives_so m seg s s2 d d2 Idle h g free e es = absurd h.moving
gives_so m seg s s2 d d2 (Over x) h g free e es = absurd h.moving
gives_so m seg s s2 d d2 (Looking o) h g free e es = absurd h.moving
gives_so m seg s s2 d d2 (Passing o b left) h g free e es = (
  h.some,
  h.few,
  λ place r. record {
    may = may_give m seg.key O (transfer_by seg s place (Passing o b left)) g r (long, free);
    count = rw g (counted (given O) (length b) m long);
    storage = rw g (rw (ranged (given O) (length b) m) at es);
    drive = rw g (rw (ranged (given O) (length b) m) at e);
  },
)
  where
    O : Open
    O = record { opened = o; state = d.state }

    long : length b + m ≤ length (given (record { opened = o; state = d.state }))
    long = subst (λ n. length b + m ≤ n) (gives_length (record { opened = o; state = d.state }) b g) (within (length b) left m seg.count
        (length_of (record { opened = o; state = d.state }) b) h.moving h.few h.left)

-- Why the first byte may not move.

refuses : (s : Storage) (key at : ℕ) (t : Bool) → nat_lt at (length s.bytes) ≡ t → (t && admits (key_at s at) key) ≡ false
    → (is_clear (status_of (refused t)) ≡ false)
    × ((if not (is_some (slice_get s.bytes at)) then PROGRAM_CHECK else (if not (admits (key_at s at) key) then PROTECTION_CHECK
    else no_channel_status)) ≡ status_of (refused t))
refuses s key at true e m = (refl, rw (some_below s.bytes at (grind (arith, nat_tests)), m))
refuses s key at false e m = (refl, rw (slice_get_past s.bytes at (grind (arith, nat_tests))))

pub gives_not : (seg : StorageArea) (s : Storage) (d : DriveState) (w : Work) → MovesBy d.state w → gives_now w ≡ true
    → skips seg.ccw ≡ false
    → may_store s seg.key seg.address ≡ false
    → MovesBytesBy seg (Err (refused (nat_lt seg.address (length s.bytes)))) s s d d w
gives_not seg s d Idle f g k m = absurd f
gives_not seg s d (Over x) f g k m = absurd f
gives_not seg s d (Looking o) f g k m = absurd f
gives_not seg s d (Passing o b left) f g k m = let why = refuses s seg.key seg.address (nat_lt seg.address (length s.bytes)) refl m in
    (refl, refl, why.0, λ p. rw (g, k) why.1)

-- what may be stored lies in storage, and its block's key admits it
pub may_be : (s : Storage) (key at : ℕ) → IsTrue (may_store s key at) → (at < length s.bytes) × (admits (key_at s at) key ≡ true)
may_be s key at h = both (nat_lt at (length s.bytes)) (admits (key_at s at) key) refl h
  where
    both : (b c : Bool) → nat_lt at (length s.bytes) ≡ b → IsTrue (b && c) → (at < length s.bytes) × (c ≡ true)
    both true true e h = (grind (arith, nat_tests), refl)
    both true false e h = absurd (grind (arith, nat_tests))
    both false c e h = absurd (grind (arith, nat_tests))

-- The bytes that a drive lends: of as many as are left, the first ones.

given_size : (d : DriveState) (w : Work) (m : ℕ) → MovesBy d.state w → gives_now w ≡ true → m ≤ left_of w
    → length (passed_of w) + m ≤ length (given_now d w)
given_size d Idle m f g le = absurd f
given_size d (Over x) m f g le = absurd f
given_size d (Looking o) m f g le = absurd f
given_size d (Passing o b left) m f g le =
    let O : Open = record { opened = o; state = d.state } in
    subst (λ n. length b + m ≤ n) (gives_length O b g) (within (length b) left m m (length_of O b) f (omega arith) le)

module _ (d : DriveState) (w : Work) (f : MovesBy d.state w) (g : gives_now w ≡ true) (next : List ℕ)
    (is : next ≡ slice_range (given_now d w) (length (passed_of w)) (length (passed_of w) + left_of w)) where
  first_lent : (m : ℕ) → m ≤ left_of w → take m next ≡ take m (drop (length (passed_of w)) (given_now d w))
  first_lent m le = ap (take m) (is ∙ ranged (given_now d w) (length (passed_of w)) (left_of w))
      ∙ take-take m (left_of w) (drop (length (passed_of w)) (given_now d w)) le

  pub lent_size : (m : ℕ) → m ≤ left_of w → length (take m next) ≡ m
  lent_size m le = ap length (first_lent m le) ∙ counted (given_now d w) (length (passed_of w)) m (given_size d w m f g le)

  -- and of those the first ones again
  pub lends_first : (most n : ℕ) → most ≤ left_of w → n ≤ most → take n (take most next) ≡ slice_range (given_now d w)
      (length (passed_of w)) (length (passed_of w) + n)
  lends_first most n le few = take-take n most next few ∙ first_lent n (omega arith) ∙ sym (ranged (given_now d w) (length (passed_of w)) n)

-- where no byte may be stored, storage stays
pub stores_none : (s s2 : Storage) (at n : ℕ) (bytes : List ℕ) → n ≡ 0 → s2 ≡ stored s at (take n bytes) → s2 ≡ s
stores_none s s2 at n bytes e is =
    is ∙ ap (λ b. record s { bytes = b }) (overwritten-none s.bytes at (take n bytes) (ap (λ n. length (take n bytes)) e))

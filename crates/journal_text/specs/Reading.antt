-- Reading from left to right, with the first fault that is met.
use Rattle.std.specs.Prelude.{◌≡◌, ℕ, zero, suc, List, [], ◌∷◌, length, get_or, take, drop, Result, Ok, Err, nat_lt, nat_le, ◌==◌, not}
use Rattle.std.specs.Prelude.{◌||◌, bytes_eq, if◌then◌else◌}
use Rattle.std.specs.Int.{w64, from_be_bytes}
use Rattle.sha2.specs.Sha256.{sha256}
use Rattle.atomic_save.specs.Changes.{Note}
use Rattle.journal_text.specs.declared.faults.JournalFault.{JournalFault}
use Rattle.journal_text.specs.declared.faults.JournalFault.TheVariants.{OutOfMemory, Foreign, Later, Truncated, Damaged}
use Rattle.journal_text.specs.Spelling.{Named, Said, tag, version}

infixl 10 ◌>>=◌
abbrev pub ◌>>=◌ : {A B : Type 0} → Result A JournalFault → (A → Result B JournalFault) → Result B JournalFault
(Ok x) >>= f = f x
(Err e) >>= f = Err e

-- What a function returned, seen by view, is what reading gives, unless memory ran out.
abbrev pub Fails : {Y : Type 0} → JournalFault → Result Y JournalFault → Type 0
Fails OutOfMemory read = Unit {0}
Fails e read = read ≡ Err e

abbrev pub Gives : {X Y : Type 0} → (X → Y) → Result X JournalFault → Result Y JournalFault → Type 0
Gives view (Ok x) read = read ≡ Ok (view x)
Gives view (Err e) read = Fails e read

-- A field is a value and the bytes after it.
abbrev pub number_at : List ℕ → Result (ℕ × List ℕ) JournalFault
number_at bytes = if nat_lt (length bytes) 8 then Err Damaged else Ok (from_be_bytes w64 (take 8 bytes), drop 8 bytes)

unfoldable pub string_at : List ℕ → Result (List ℕ × List ℕ) JournalFault
string_at bytes = do
  n ← number_at bytes
  if nat_lt (length n.1) n.0 then Err Damaged else Ok (take n.0 n.1, drop n.0 n.1)

unfoldable pub file_at : List ℕ → Result (Named × List ℕ) JournalFault
file_at bytes = do
  name ← string_at bytes
  device ← number_at name.1
  inode ← number_at device.1
  birth ← number_at inode.1
  size ← number_at birth.1
  Ok (record { name = name.0; id = record { device = device.0; inode = inode.0; birth = birth.0; size = size.0 } }, size.1)

unfoldable pub change_at : List ℕ → Result (Note × List ℕ) JournalFault
change_at bytes = do
  file ← number_at bytes
  at ← number_at file.1
  text ← string_at at.1
  Ok (record { file = file.0; at = at.0; bytes = text.0 }, text.1)

-- so many of them, one after the other
unfoldable pub items_at : {X : Type 0} → (List ℕ → Result (X × List ℕ) JournalFault) → ℕ → List ℕ → Result (List X × List ℕ) JournalFault
items_at item_at zero bytes = Ok ([], bytes)
items_at item_at (suc n) bytes = do
  first ← item_at bytes
  others ← items_at item_at n first.1
  Ok (first.0 ∷ others.0, others.1)

-- their number, and they
unfoldable pub list_at : {X : Type 0} → (List ℕ → Result (X × List ℕ) JournalFault) → List ℕ → Result (List X × List ℕ) JournalFault
list_at item_at bytes = do
  n ← number_at bytes
  items_at item_at n.0 n.1

-- all bytes of the body
unfoldable pub body_at : List ℕ → Result Said JournalFault
body_at bytes = do
  files ← list_at file_at bytes
  changes ← list_at change_at files.1
  more ← string_at changes.1
  if length more.1 == 0 then Ok (record { files = files.0; changes = changes.0; more = more.0 }) else Err Damaged

-- the bytes of a body of this length and with this digest, if they are those that were written
unfoldable pub content_of : ℕ → List ℕ → List ℕ → Result (List ℕ) JournalFault
content_of len digest bytes =
    if nat_lt (length bytes) len then Err Truncated
    else if not (length bytes == len) then Err Damaged
    else if not (bytes_eq digest (sha256 bytes)) then Err Damaged
    else Ok bytes

-- the length, the digest and the body
unfoldable pub rest_of : List ℕ → Result (List ℕ) JournalFault
rest_of bytes = do
  len ← number_at bytes
  content_of len.0 (take 32 len.1) (drop 32 len.1)

-- the bytes of the body after the head
unfoldable pub body_in : List ℕ → Result (List ℕ) JournalFault
body_in text =
    if not (bytes_eq (take 7 text) tag) then Err Foreign
    else if nat_lt (length text) 8 then Err Truncated
    else if not (get_or text 7 0 == version) then Err Later
    else if nat_lt (length text) 48 then Err Truncated
    else rest_of (drop 8 text)

unfoldable pub journal_at : List ℕ → Result Said JournalFault
journal_at text = do
  bytes ← body_in text
  body_at bytes

-- What is held of a volume's file in memory.
use Rattle.std.specs.Prelude.{◌≡◌, ◌≢◌, ℕ, ◌+◌, ◌-◌, ◌*◌, ◌^◌, ◌<◌, ◌≤◌, ◌==◌, ◌++◌, ◌||◌, List, length, slice_index_or, nat_lt, Bool, false, not, nat_le, if◌then◌else◌}
use Rattle.std.specs.Prelude.{Option, Some, None, IfSome, option_map}
use Rattle.ckd_image.specs.Store.{overwritten}
use Rattle.dasd_files.specs.Parts.{PartsState, IsUnwritten, marked, may_differ, numbered}

-- the bytes as they are and as the file was made, how many calls failed, and a number that moves on with each change
pub record FileState : Type 0 where
  pub content : List ℕ
  pub origin : List ℕ
  pub failures : ℕ
  pub changes : ℕ
  -- what the content was at each number up to this one, one behind the other; of a number that came back, what it was then last
  pub past : List ℕ
  -- when its parts were written last, if that is kept
  pub parts : Option PartsState

-- a file as it was made
abbrev pub file_of : List ℕ → FileState
file_of bytes = record { content = bytes; origin = bytes; failures = 0; changes = 0; past = bytes; parts = None }

-- a byte of the file as it was when the number was this one
abbrev pub byte_then : FileState → (number byte : ℕ) → ℕ
byte_then f number byte = slice_index_or f.past (number * length f.content + byte) 0

-- and as it is now
abbrev pub byte_now : FileState → (byte : ℕ) → ℕ
byte_now f byte = slice_index_or f.content byte 0

-- a byte lies in a part that was not written since this number
abbrev pub IsUnwrittenIn : Option PartsState → (number byte : ℕ) → Type 0
IsUnwrittenIn None number byte = ⊥
IsUnwrittenIn (Some p) number byte = IsUnwritten p number byte

-- What is true of each file: the bytes are those that it was made of, as long as the number is 0; its parts have bytes; what the content
-- was at each number is there, as the file was made at the first, and as it is at the last; and a byte of a part that was not written
-- since a number is what it was then.
pub record IsFile (f : FileState) : Type 0 where
  pub as_made : f.changes ≡ 0 → f.content ≡ f.origin
  pub size : length f.origin ≡ length f.content
  pub some : IfSome f.parts (λ p. 0 < p.size)
  pub count : length f.past ≡ (f.changes + 1) * length f.content
  pub first : (byte : ℕ) → byte < length f.content → byte_then f 0 byte ≡ slice_index_or f.origin byte 0
  pub last : (byte : ℕ) → byte < length f.content → byte_then f f.changes byte ≡ byte_now f byte
  pub unwritten : (number byte : ℕ) → number ≤ f.changes → byte < length f.content → IsUnwrittenIn f.parts number byte
      → byte_now f byte ≡ byte_then f number byte

-- whether these bytes, from a place on, end within the file
abbrev pub has_room_in : FileState → (at : ℕ) → List ℕ → Bool
has_room_in f at bytes = nat_le (at + length bytes) (length f.content)

-- the content behind a write: these bytes stand over the old ones, or nothing has changed where they would pass the end
abbrev pub content_behind : FileState → (at : ℕ) → List ℕ → List ℕ
content_behind f at bytes = if has_room_in f at bytes then overwritten f.content at bytes else f.content

abbrev pub failures_behind : FileState → (at : ℕ) → List ℕ → ℕ
failures_behind f at bytes = if has_room_in f at bytes then f.failures else f.failures + 1

-- the last number of 64 bits, behind which they begin again with 1
abbrev pub last_number : ℕ
last_number = 2 ^ 64 - 1

-- the number behind a change: the next one, and 1 behind the last of 64 bits
abbrev pub next_number : ℕ → ℕ
next_number n = if n == last_number then 1 else n + 1

-- what was held at each number, with what is held at the next one; where they begin again, at 0 that is what the file was made of
abbrev pub past_behind : (origin past : List ℕ) → (number : ℕ) → (content : List ℕ) → List ℕ
past_behind origin past number content = if number == last_number then origin ++ content else past ++ content

-- the parts behind a write that moved this number on; where the numbers begin again, all of them were written
abbrev pub parts_behind : (number at len : ℕ) → PartsState → PartsState
parts_behind number at len p =
    if number == last_number then record p { numbers = numbered p.numbers 0 (length p.numbers) 1 }
    else marked p at len (number + 1)

-- A write of these bytes from a place on. Where a byte was changed the number is the next one; where the write was
-- refused it is the same, and where the bytes stood there already it may be either.
pub record Writes (at : ℕ) (bytes : List ℕ) (old new : FileState) : Type 0 where
  pub content : new.content ≡ content_behind old at bytes
  pub same : new.origin ≡ old.origin
  pub failures : new.failures ≡ failures_behind old at bytes
  pub moves_on : new.content ≢ old.content → new.changes ≢ old.changes
  pub next : new.changes ≢ old.changes → new.changes ≡ next_number old.changes
  pub stays : has_room_in old at bytes ≡ false → new.changes ≡ old.changes
  pub past : new.changes ≢ old.changes → new.past ≡ past_behind old.origin old.past old.changes new.content
  pub parts : new.changes ≢ old.changes → new.parts ≡ option_map (parts_behind old.changes at (length bytes)) old.parts
  pub kept : new.changes ≡ old.changes → (new.past ≡ old.past) × (new.parts ≡ old.parts)

-- whether so many bytes from a place on may differ from what they were when the number was this one: a number that is above the one now was
-- seen before the numbers began again; where nothing is kept of parts, only the number now shows that nothing was written
abbrev pub may_differ_in : Option PartsState → (changes number at len : ℕ) → Bool
may_differ_in None changes number at len = not (number == changes)
may_differ_in (Some p) changes number at len = nat_lt changes number || may_differ p number at len

abbrev pub may_have_changed : FileState → (number at len : ℕ) → Bool
may_have_changed f number at len = may_differ_in f.parts f.changes number at len

-- so many bytes from a place on are what they were when the number was this one
abbrev pub AreAsThen : FileState → (number at len : ℕ) → Type 0
AreAsThen f number at len = (byte : ℕ) → at ≤ byte → byte < at + len → byte_now f byte ≡ byte_then f number byte

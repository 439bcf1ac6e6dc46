-- What a store holds, and how a call of it counts.
use Rattle.std.specs.Prelude.{◌≡◌, ℕ, ◌+◌, Bool, nat_le, if◌then◌else◌, List, ◌++◌, length, take, drop, Result, Ok, Err}
use Rattle.ckd_image.specs.declared.store.StoreFault.{StoreFault}

-- the content once these bytes stand at this place; behind the end they extend it
abbrev pub overwritten : List ℕ → ℕ → List ℕ → List ℕ
overwritten old at bytes = take at old ++ bytes ++ drop (at + length bytes) old

-- only these bytes of the content may differ, as many from `at` on as are given
pub record Torn (old new : List ℕ) (at count : ℕ) : Type 0 where
  pub before : take at new ≡ take at old
  pub behind : drop (at + count) new ≡ drop (at + count) old
  pub same_length : length new ≡ length old

-- the number of failures rises by one where the call answers an error, and else stays
abbrev pub Counts : {T : Type 0} → ℕ → ℕ → Result T StoreFault → Type 0
Counts before now (Ok _) = now ≡ before
Counts before now (Err _) = now ≡ before + 1

-- what a store in memory holds, what it held when it was made, and how many of its calls failed
pub record Stored : Type 0 where
  pub content : List ℕ
  pub origin : List ℕ
  pub failures : ℕ

-- a store as it is made of these bytes
abbrev pub store_of : List ℕ → Stored
store_of bytes = record { content = bytes; origin = bytes; failures = 0 }

-- a store in memory has room for the bytes of a write only within its content
abbrev pub has_room : Stored → ℕ → List ℕ → Bool
has_room s at bytes = nat_le (at + length bytes) (length s.content)

-- a store in memory after a write
abbrev pub after_write : Stored → ℕ → List ℕ → Stored
after_write s at bytes =
    if has_room s at bytes then record s { content = overwritten s.content at bytes }
    else record s { failures = s.failures + 1 }

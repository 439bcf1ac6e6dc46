-- When the parts of a file were written last: a part has a number, to which the file's number of changes moved on at that write.
use Rattle.std.specs.Prelude.{ℕ, ◌+◌, ◌-◌, ◌/◌, ◌%◌, ◌<◌, ◌≤◌, ◌==◌, ◌&&◌, nat_lt, min, List, length, replicate, slice_index_or, Bool, true, if◌then◌else◌}
use Rattle.ckd_image.specs.Store.{overwritten}

-- parts of so many bytes each, the first one of as many fewer as `lead` says, and the number of each
pub record PartsState : Type 0 where
  pub lead : ℕ
  pub size : ℕ
  pub numbers : List ℕ

-- the part in which a byte lies
abbrev pub part_of : PartsState → (byte : ℕ) → ℕ
part_of p byte = (byte + p.lead) / p.size

-- how many parts there are up to the one in which the last byte lies of so many
abbrev pub parts_to : (lead size bytes : ℕ) → ℕ
parts_to lead size bytes = (bytes + lead + (size - 1)) / size

-- the parts of so many bytes, all of one number
abbrev pub parts_of : (lead size bytes number : ℕ) → PartsState
parts_of lead size bytes number = record { lead = lead; size = size; numbers = replicate (parts_to lead size bytes) number }

-- the numbers of the parts from one place to before another, as far as there are parts, are this one
abbrev pub numbered : List ℕ → (from to number : ℕ) → List ℕ
numbered numbers from to number = overwritten numbers from (replicate (to - from) number)

-- so many bytes from a place on were written, as the number moved on to this one
abbrev pub marked : PartsState → (at len number : ℕ) → PartsState
marked p at len number =
    let to = min (parts_to p.lead p.size (at + len)) (length p.numbers) in
    record p { numbers = numbered p.numbers (min (part_of p at) to) to number }

-- so many bytes from a place on are a part
abbrev pub is_part : PartsState → (at len : ℕ) → Bool
is_part p at len = ((at + p.lead) % p.size == 0) && (len == p.size) && nat_lt (part_of p at) (length p.numbers)

-- they may have been written since this number; those that are no part count as written
abbrev pub may_differ : PartsState → (number at len : ℕ) → Bool
may_differ p number at len = if is_part p at len then nat_lt number (slice_index_or p.numbers (part_of p at) 0) else true

-- a byte lies in a part that was not written since this number
pub record IsUnwritten (p : PartsState) (number byte : ℕ) : Type 0 where
  pub there : part_of p byte < length p.numbers
  pub before : slice_index_or p.numbers (part_of p byte) 0 ≤ number

-- A store whose calls fail where that is asked for.
use Rattle.std.specs.Prelude.{ℕ, ◌+◌, ◌-◌, ◌^◌, min, Bool, not, ◌&&◌, ◌||◌, ◌==◌, nat_lt, List, length, take, if◌then◌else◌}
use Rattle.ckd_image.specs.Store.{Stored, overwritten, after_write}

-- a store in memory, and which of its calls fail
pub record Failing : Type 0 where
  -- the store within
  pub store : Stored
  -- reads and writes so far; the count stays at the greatest u64
  pub calls : ℕ
  -- the number of the call that fails, from 1 on; 0: none
  pub fails_at : ℕ
  -- each later call fails too
  pub for_good : Bool
  -- calls that failed so
  pub made_to_fail : ℕ

-- the number of the call that comes next
abbrev pub next_call : Failing → ℕ
next_call f = min (f.calls + 1) (2 ^ 64 - 1)

-- the call that comes next is made to fail
abbrev pub fails_next : Failing → Bool
fails_next f = not (f.fails_at == 0) && ((next_call f == f.fails_at) || (f.for_good && nat_lt f.fails_at (next_call f)))

-- once a call was counted
abbrev pub after_call : Failing → Failing
after_call f = record f { calls = next_call f; made_to_fail = f.made_to_fail + (if fails_next f then 1 else 0) }

-- what a write that is made to fail leaves: its first 60 bytes, as far as they lie within the
-- content
abbrev pub after_torn_write : Stored → ℕ → List ℕ → Stored
after_torn_write s at bytes = record s {
  content = overwritten s.content at (take (min 60 (length s.content - at)) bytes);
}

-- the store after a write
abbrev pub after_counted_write : Failing → ℕ → List ℕ → Failing
after_counted_write f at bytes = record (after_call f) {
  store = if fails_next f then after_torn_write f.store at bytes else after_write f.store at bytes;
}

-- What is counted of a reader or writer; what one call counts, and which bytes pass by it.
use Rattle.std.specs.Prelude.{◌≡◌, ℕ, ◌+◌, ◌==◌, ◌&&◌, not, Bool, if◌then◌else◌, List, ◌++◌, length, take, Result, Ok, Err}

-- a reader or writer, the bytes that passed, those that had when it was flushed last, and how many of its calls failed
pub record CountedState (T : Type 0) : Type 0 where
  pub inner : T
  pub passed : List ℕ
  pub flushed : List ℕ
  pub failures : ℕ

-- the count rises by one where the call answers an error, and else stays
abbrev pub CountsCall : {T E : Type 0} → (before now : ℕ) → Result T E → Type 0
CountsCall before now (Ok _) = now ≡ before
CountsCall before now (Err _) = now ≡ before + 1

-- a write took no byte of some
abbrev pub takes_none : (count : ℕ) (bytes : List ℕ) → Bool
takes_none count bytes = count == 0 && not (length bytes == 0)

-- the count rises by one where a write answers an error or takes no byte of some, and else stays
abbrev pub CountsWrite : {E : Type 0} → (before now : ℕ) → Result ℕ E → (bytes : List ℕ) → Type 0
CountsWrite before now (Ok count) bytes = now ≡ (if takes_none count bytes then before + 1 else before)
CountsWrite before now (Err _) bytes = now ≡ before + 1

-- as many bytes pass as the call answers, and none where it answers an error
abbrev pub PassesTaken : {E : Type 0} → (before now : List ℕ) → Result ℕ E → (bytes : List ℕ) → Type 0
PassesTaken before now (Ok count) bytes = now ≡ before ++ take count bytes
PassesTaken before now (Err _) bytes = now ≡ before

-- all bytes that passed are flushed where the call answers no error, and else none more
abbrev pub FlushesTaken : {T E : Type 0} → (before now : List ℕ) → Result T E → (passed : List ℕ) → Type 0
FlushesTaken before now (Ok _) passed = now ≡ passed
FlushesTaken before now (Err _) passed = now ≡ before

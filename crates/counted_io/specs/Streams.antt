-- A counted reader or writer as a contract sees it.
use Rattle.std.specs.Prelude.{◌≡◌, ℕ, ◌+◌, List, ◌++◌, Option, Result, Ok, Err}
use Rattle.std.specs.Io.KnownBytes.{Appends, Consumes}
use Rattle.counted_io.specs.declared.counted.Counted.{Counted}

-- What is known of its bytes, those that a reader has left or that a writer holds; the bytes that passed; those that had when it was
-- flushed last; how many calls failed.
pub record Stream : Type 0 where
  pub known : Option (List ℕ)
  pub passed : List ℕ
  pub flushed : List ℕ
  pub failures : ℕ

-- a counted reader or writer, by what is known of the bytes of the one within it
abbrev pub seen_by : {T : Type 0} → (T → Option (List ℕ)) → Counted T → Stream
seen_by known c = record { known = known c.inner; passed = c.passed; flushed = c.flushed; failures = c.failures }

-- these bytes were given, and are left no more
pub record Gives (before after : Stream) (bytes : List ℕ) : Type 0 where
  pub known : Consumes before.known after.known bytes
  pub passed : after.passed ≡ before.passed ++ bytes

-- these bytes were taken
pub record Takes (before after : Stream) (bytes : List ℕ) : Type 0 where
  pub known : Appends before.known after.known bytes
  pub passed : after.passed ≡ before.passed ++ bytes

-- only the first bytes of these were taken, perhaps none, perhaps all
pub record TakesFront (before after : Stream) (bytes : List ℕ) : Type 0 where
  pub front : List ℕ
  pub rest : List ℕ
  pub whole : bytes ≡ front ++ rest
  pub taken : Takes before after front

-- nothing that was taken is held back: it was flushed since
abbrev pub IsFlushed : Stream → Type 0
IsFlushed s = s.flushed ≡ s.passed

-- no call failed; one did
abbrev pub NoneFailed : (before after : Stream) → Type 0
NoneFailed before after = after.failures ≡ before.failures

abbrev pub OneFailed : (before after : Stream) → Type 0
OneFailed before after = after.failures ≡ before.failures + 1

-- What a whole write leaves: all bytes were taken and no call failed; or one failed, and the first bytes may be taken.
abbrev pub WritesWhole : {E : Type 0} → Result (Unit {0}) E → (before after : Stream) → (bytes : List ℕ) → Type 0
WritesWhole (Ok done) before after bytes = Takes before after bytes × NoneFailed before after
WritesWhole (Err fault) before after bytes = TakesFront before after bytes × OneFailed before after

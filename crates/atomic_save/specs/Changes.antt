-- Changes of files, and what a crash leaves of files and journal.
use Rattle.std.specs.Prelude.{ℕ, ◌+◌, ◌-◌, List, [], ◌∷◌, length, get_or, Bool, false, ◌&&◌, ◌||◌, ◌==◌, nat_le, nat_lt, cond, Option, Some}
use Rattle.std.specs.Prelude.{None}
use Rattle.atomic_save.specs.declared.changes.Change.{Change}

-- a run of bytes for a place of a file
pub record Note : Type 0 where
  pub file : ℕ
  pub at : ℕ
  pub bytes : List ℕ

abbrev pub note_of : Change → Note
note_of c = record { file = c.file; at = c.at; bytes = c.bytes.items }

abbrev pub notes : List Change → List Note
notes [] = []
notes (c ∷ cs) = note_of c ∷ notes cs

-- the changes of a journal, where there is one
abbrev pub or_none : Option (List Note) → List Note
or_none None = []
or_none (Some ns) = ns

-- What may be found later: each file's byte at each place, and the changes of the journal, where one has its name.
pub record State : Type 0 where
  pub held : ℕ → ℕ → ℕ
  pub journal : Option (List Note)

-- whether a change has a byte for this place of this file
abbrev pub covers : Note → ℕ → ℕ → Bool
covers n file k = (n.file == file) && (nat_le n.at k && nat_lt k (n.at + length n.bytes))

-- the byte that is there after it, where b was
abbrev pub byte_of : Note → ℕ → ℕ → ℕ → ℕ
byte_of n file k b = cond (covers n file k) (get_or n.bytes (k - n.at) 0) b

-- whether one of these changes has a byte for it
abbrev pub touches : List Note → ℕ → ℕ → Bool
touches [] file k = false
touches (n ∷ ns) file k = covers n file k || touches ns file k

-- the byte that is there after all of them, one after the other, where b was
abbrev pub byte_after : List Note → ℕ → ℕ → ℕ → ℕ
byte_after [] file k b = b
byte_after (n ∷ ns) file k b = byte_after ns file k (byte_of n file k b)

-- what a journal makes of a byte
abbrev pub read_by : Option (List Note) → ℕ → ℕ → ℕ → ℕ
read_by None file k b = b
read_by (Some ns) file k b = byte_after ns file k b

-- What a reader gives for a byte of a file: the journal's where it has one.
abbrev pub opened : State → ℕ → ℕ → ℕ
opened s file k = read_by s.journal file k (s.held file k)

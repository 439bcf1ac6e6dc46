-- Bytes that are put behind others, if there are such.
use Rattle.std.specs.Prelude.{◌≡◌, ℕ, Bool, true, false, List, ◌++◌, Option, Some, None, Result, Ok, Err}
use Rattle.record_tracks.specs.declared.text_faults.TextLineFault.{TextLineFault}

-- the bytes of characters were put behind others; or there are none
abbrev pub PutsCodes : (codes : Option (List ℕ)) → (before now : List ℕ) → Bool → Type 0
PutsCodes codes before now true = (bytes : List ℕ) × (codes ≡ Some bytes) × (now ≡ before ++ bytes)
PutsCodes codes before now false = codes ≡ None

-- a record was put behind others; or this is why there is none
abbrev pub PutsRecord : (wanted : Result (List ℕ) TextLineFault) → (before now : List ℕ) → Option TextLineFault → Type 0
PutsRecord wanted before now None = (bytes : List ℕ) × (wanted ≡ Ok bytes) × (now ≡ before ++ bytes)
PutsRecord wanted before now (Some fault) = wanted ≡ Err fault

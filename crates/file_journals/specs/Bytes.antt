-- The bytes of a journal beside those of its file.
use Rattle.std.specs.Prelude.{◌≡◌, ◌⊎◌, ◌<◌, ℕ, List, length, slice_index_or, bit_xor}

-- a byte is the one that is saved, or the one that differs from it by these bits
abbrev pub IsEither : (saved difference held : ℕ) → Type 0
IsEither saved difference held = (held ≡ saved) ⊎ (held ≡ bit_xor saved difference)

-- so is each byte at its place
abbrev pub AreEither : (saved differing held : List ℕ) → Type 0
AreEither saved differing held =
    (k : ℕ) → k < length held → IsEither (slice_index_or saved k 0) (slice_index_or differing k 0) (slice_index_or held k 0)

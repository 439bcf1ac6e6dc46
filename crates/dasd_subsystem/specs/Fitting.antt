-- The main storage that channels own, if they own one.
use Rattle.std.specs.Prelude.{◌≡◌, ℕ, length, Option, Some, None}
use Rattle.s360_words.specs.Storage.{Storage}
use Rattle.s360_channels.specs.Selectors.{SelectorsState}

-- its size, or that of the storage that they are lent
abbrev pub storage_size : Option Storage → (lent : ℕ) → ℕ
storage_size None lent = lent
storage_size (Some s) lent = length s.bytes

-- it is of their size
abbrev pub Fits : Option Storage → SelectorsState → Type 0
Fits storage cs = storage_size storage cs.size ≡ cs.size

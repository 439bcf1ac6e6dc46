-- What is written is read.
use Rattle.std.specs.Prelude.{◌≡◌, List, [], ◌∷◌, length, Option, Some, None, Ok}
use Rattle.s360_channel.specs.declared.saving.SavedChannel.{SavedChannel}
use Rattle.saved_state.specs.Bytes.{bytes_of}
use Rattle.saved_state.specs.Reading.{read}

-- each channel that was saved has eight places for drives
abbrev pub AreWhole : List (Option SavedChannel) → Type 0
AreWhole [] = Unit {0}
AreWhole (None ∷ cs) = AreWhole cs
AreWhole (Some c ∷ cs) = (length c.drives ≡ 8) × AreWhole cs

-- whatever was saved of seven channels is read off its bytes, and nothing else
abbrev pub WhatIsWrittenIsRead : Type 0
WhatIsWrittenIsRead = (saved : List (Option SavedChannel)) → length saved ≡ 7 → AreWhole saved → read (bytes_of saved) ≡ Ok saved

-- What is told of saves that did not come to their end.
use Rattle.std.specs.Prelude.{◌≡◌, ℕ, List, Some, Result, Ok, Err, ⊤}
use Rattle.atomic_save.specs.declared.changes.Change.{Change}
use Rattle.atomic_save.specs.declared.faults.SaveFault as atomic
use Rattle.atomic_save.specs.declared.faults.SaveFault.TheVariants as ended
use Rattle.atomic_save.specs.Changes.{notes}
use Rattle.atomic_save.specs.Calls.{Event, shown}
use Rattle.atomic_save.specs.Saves.{Untouched, SavedFor}
use Rattle.file_journals.specs.declared.saves.SaveFault.{SaveFault}
use Rattle.file_journals.specs.declared.saves.SaveFault.TheVariants.{Kept, Begun, Saved}

-- nothing was done
abbrev pub IsKept : SaveFault → Type 0
IsKept (Kept fault) = ⊤
IsKept (Begun fault) = ⊥
IsKept (Saved fault) = ⊥

-- the journal may be there, and the files are to be written by it
abbrev pub IsBegun : SaveFault → Type 0
IsBegun (Kept fault) = ⊥
IsBegun (Begun fault) = ⊤
IsBegun (Saved fault) = ⊥

-- the files are saved
abbrev pub IsSaved : SaveFault → Type 0
IsSaved (Kept fault) = ⊥
IsSaved (Begun fault) = ⊥
IsSaved (Saved fault) = ⊤

-- a fault of `atomic_save` is told as one of the same kind; a journal that does not fit leaves all as it was
abbrev pub IsToldAs : atomic.SaveFault → SaveFault → Type 0
IsToldAs (ended.Other i) told = IsKept told
IsToldAs (ended.Outside i) told = IsKept told
IsToldAs (ended.Kept fault) told = IsKept told
IsToldAs (ended.Begun fault) told = IsBegun told
IsToldAs (ended.Saved fault) told = IsSaved told

-- what a save came to is told
abbrev pub TellsOf : Result ⊤ atomic.SaveFault → Result ⊤ (ℕ × SaveFault) → Type 0
TellsOf (Ok done) (Ok said) = ⊤
TellsOf (Ok done) (Err it) = ⊥
TellsOf (Err fault) (Ok said) = ⊥
TellsOf (Err fault) (Err it) = IsToldAs fault it.1

-- Each fault says how it left the files and the journal.
abbrev pub Tells : List Change → (old new : List Event) → SaveFault → Type 0
Tells cs old new (Kept fault) = Untouched old new
Tells cs old new (Begun fault) = shown new ≡ Some (notes cs)
Tells cs old new (Saved fault) = SavedFor (notes cs) old new

-- What is left after a save is cleared away: a save that is done may still fail in that, and is told as saved; what else was told stays.
abbrev pub Settles : Result ⊤ (ℕ × SaveFault) → Result ⊤ (ℕ × SaveFault) → Type 0
Settles (Ok done) (Ok said) = ⊤
Settles (Ok done) (Err it) = IsSaved it.1
Settles (Err it) result = result ≡ Err it

-- What is taken of the host, for files and a folder of a local file system, as a function of what was asked of it and what it answered.
use Rattle.std.specs.Prelude.{◌≡◌, ℕ, ◌-◌, List, [], ◌∷◌, length, slice_get, Bool, true, false, ◌&&◌, nat_le, Option, Some, None, ◌⊎◌}
use Rattle.atomic_save.specs.declared.changes.FileId.{FileId}
use Rattle.atomic_save.specs.Changes.{Note, State, covers, byte_of}

-- A call and its answer. A draft, a rename or an unlink that failed did nothing, and is none.
pub data Event : Type 0 where
  Opened : (files : List FileId) (journal : Option (List Note)) → Event  -- the files were opened, and the journal was read
  Drafted : (ns : List Note) → Event  -- a draft was made, written and synced
  Committed : Event  -- the draft was renamed to the journal
  Retired : Event  -- the journal was unlinked
  NamesSynced : (done : Bool) → Event  -- sync of the folder
  Wrote : (n : Note) (done : Bool) → Event  -- write over bytes of a file, until all are written
  Synced : (file : ℕ) (done : Bool) → Event  -- sync of a file

-- Of lists of events the newest is first.

-- the files that are open
abbrev pub files_of : List Event → List FileId
files_of [] = []
files_of (Opened files journal ∷ es) = files
files_of (Drafted ns ∷ es) = files_of es
files_of (Committed ∷ es) = files_of es
files_of (Retired ∷ es) = files_of es
files_of (NamesSynced done ∷ es) = files_of es
files_of (Wrote n done ∷ es) = files_of es
files_of (Synced file done ∷ es) = files_of es

-- the changes in the draft
abbrev pub drafted : List Event → Option (List Note)
drafted [] = None
drafted (Opened files journal ∷ es) = None
drafted (Drafted ns ∷ es) = Some ns
drafted (Committed ∷ es) = drafted es
drafted (Retired ∷ es) = drafted es
drafted (NamesSynced done ∷ es) = drafted es
drafted (Wrote n done ∷ es) = drafted es
drafted (Synced file done ∷ es) = drafted es

-- the journal that its name leads to, for programs that run now
abbrev pub shown : List Event → Option (List Note)
shown [] = None
shown (Opened files journal ∷ es) = journal
shown (Drafted ns ∷ es) = shown es
shown (Committed ∷ es) = drafted es
shown (Retired ∷ es) = None
shown (NamesSynced done ∷ es) = shown es
shown (Wrote n done ∷ es) = shown es
shown (Synced file done ∷ es) = shown es

-- A name counts from its rename or unlink on, up to a sync of the folder that fails.
abbrev pub LedTo : List Event → Option (List Note) → Type 0
LedTo [] j = ⊥
LedTo (Opened files journal ∷ es) j = ⊥
LedTo (Drafted ns ∷ es) j = LedTo es j
LedTo (Committed ∷ es) j = j ≡ drafted es
LedTo (Retired ∷ es) j = j ≡ None
LedTo (NamesSynced done ∷ es) j = (done ≡ true) × LedTo es j
LedTo (Wrote n done ∷ es) j = LedTo es j
LedTo (Synced file done ∷ es) j = LedTo es j

-- A byte counts from its write on, up to a sync of the file that fails.
abbrev pub Due : List Event → ℕ → ℕ → ℕ → Type 0
Due [] f k b = ⊥
Due (Opened files journal ∷ es) f k b = ⊥
Due (Drafted ns ∷ es) f k b = Due es f k b
Due (Committed ∷ es) f k b = Due es f k b
Due (Retired ∷ es) f k b = Due es f k b
Due (NamesSynced done ∷ es) f k b = Due es f k b
Due (Wrote n done ∷ es) f k b = (done ≡ true) × ((a : ℕ) × (covers n f k ≡ false → Due es f k a) × (b ≡ byte_of n f k a))
Due (Synced file done ∷ es) f k b = (done ≡ true) × Due es f k b

-- after a write that a crash cuts short: any bytes at the change's places, the same elsewhere
pub record Torn (n : Note) (old new : State) : Type 0 where
  pub journal : new.journal ≡ old.journal
  pub elsewhere : (file k : ℕ) → covers n file k ≡ false → new.held file k ≡ old.held file k

-- the journal's name leads to what it led to, or to this
pub record Renamed (journal : Option (List Note)) (old new : State) : Type 0 where
  pub held : new.held ≡ old.held
  pub name : (new.journal ≡ old.journal) ⊎ (new.journal ≡ journal)

-- What a crash may leave after these calls, where that was on the disk before the first.
abbrev pub MayLeave : State → List Event → State → Type 0
MayLeave disk [] c = c ≡ disk
MayLeave disk (Opened files journal ∷ es) c = MayLeave disk es c
MayLeave disk (Drafted ns ∷ es) c = MayLeave disk es c
MayLeave disk (Committed ∷ es) c = (d : State) × MayLeave disk es d × Renamed (drafted es) d c
MayLeave disk (Retired ∷ es) c = (d : State) × MayLeave disk es d × Renamed None d c
MayLeave disk (NamesSynced done ∷ es) c = MayLeave disk es c × (done ≡ true → (j : Option (List Note)) → LedTo es j → c.journal ≡ j)
MayLeave disk (Wrote n done ∷ es) c = (d : State) × MayLeave disk es d × Torn n d c
MayLeave disk (Synced file done ∷ es) c = MayLeave disk es c × (done ≡ true → (k b : ℕ) → Due es file k b → c.held file k ≡ b)

-- What programs that run now find: all that was asked for.
abbrev pub seen : State → List Event → State
seen disk [] = disk
seen disk (Opened files journal ∷ es) = seen disk es
seen disk (Drafted ns ∷ es) = seen disk es
seen disk (Committed ∷ es) = record { held = (seen disk es).held; journal = drafted es }
seen disk (Retired ∷ es) = record { held = (seen disk es).held; journal = None }
seen disk (NamesSynced done ∷ es) = seen disk es
seen disk (Wrote n done ∷ es) = record { held = λ f k. byte_of n f k ((seen disk es).held f k); journal = (seen disk es).journal }
seen disk (Synced file done ∷ es) = seen disk es

-- whether a change lies within a file
abbrev pub lies_in : Note → Option FileId → Bool
lies_in n None = false
lies_in n (Some file) = nat_le n.at file.size && nat_le (length n.bytes) (file.size - n.at)

-- a change lies within its file
abbrev pub Lies : List FileId → Note → Type 0
Lies files n = lies_in n (slice_get files n.file) ≡ true

-- The theorem's words: what may be found after a stretch of calls, and at each moment of it.
use Rattle.std.specs.Prelude.{◌≡◌, ◌⊎◌, ◌≤◌, ◌<◌, ℕ, List, [], ◌∷◌, map, slice_get, position, Bool, true, false, not, Some, None, Result}
use Rattle.std.specs.Prelude.{IsErr, IfErr, ⊤}
use Rattle.atomic_save.specs.declared.changes.Change.{Change}
use Rattle.atomic_save.specs.declared.changes.FileId.{FileId}
use Rattle.atomic_save.specs.declared.changes.Journal.{Journal}
use Rattle.atomic_save.specs.declared.changes.JournalFile.{JournalFile}
use Rattle.atomic_save.specs.declared.faults.HostFault.{HostFault}
use Rattle.atomic_save.specs.declared.faults.SaveFault.{SaveFault}
use Rattle.atomic_save.specs.declared.faults.SaveFault.TheVariants.{Other, Outside, Kept, Begun, Saved}
use Rattle.atomic_save.specs.Changes.{Note, State, note_of, notes, byte_after, touches, opened}
use Rattle.atomic_save.specs.Calls.{Event, files_of, shown, Due, MayLeave, lies_in, Lies}

-- an error of a call is told only where the host has refused something since
pub record HasCause (before now : ℕ) (result : Result ⊤ HostFault) : Type 0 where
  pub later : before ≤ now
  pub refused : IsErr result → before < now

-- what may be found after some calls is what might be found before them, after a step
abbrev pub Follows : (State → State → Type 0) → (State → Type 0) → (State → Type 0) → Type 0
Follows step old new = (c : State) → new c → (d : State) × old d × step d c

-- a reader gives these bytes
abbrev pub Reads : (ℕ → ℕ → ℕ) → State → Type 0
Reads bytes c = (file k : ℕ) → opened c file k ≡ bytes file k

-- the bytes after changes
abbrev pub after : List Note → (ℕ → ℕ → ℕ) → ℕ → ℕ → ℕ
after ns bytes file k = byte_after ns file k (bytes file k)

-- a reader gives what it gave before, or that with all the changes
abbrev pub OldOrNew : List Note → State → State → Type 0
OldOrNew ns old new = Reads (opened old) new ⊎ Reads (after ns (opened old)) new

-- a reader gives what it gave before
abbrev pub SameRead : State → State → Type 0
SameRead old new = Reads (opened old) new

-- a journal that is there changes nothing
abbrev pub Idle : State → Type 0
Idle c = (file k : ℕ) → opened c file k ≡ c.held file k

-- the journal on the disk changes nothing, or it is the one that is shown
abbrev pub Fits : State → List Event → Type 0
Fits disk es = (c : State) → MayLeave disk es c → Idle c ⊎ (c.journal ≡ shown es)

-- this holds at each moment from earlier calls on, which these calls go on from
abbrev pub EachMoment : (List Event → Type 0) → List Event → List Event → Type 0
EachMoment holds before [] = (before ≡ []) × holds []
EachMoment holds before (e ∷ es) = holds (e ∷ es) × ((before ≡ e ∷ es) ⊎ EachMoment holds before es)

-- At this moment a crash leaves the old bytes of all files, or the new ones of all; and whoever comes next may go on from the journal
-- that is shown.
pub record Safe (disk : State) (ns : List Note) (before now : List Event) : Type 0 where
  pub old_or_new : Follows (OldOrNew ns) (MayLeave disk before) (MayLeave disk now)
  pub fits : Fits disk now

-- each moment of these calls is safe, whatever is on the disk
abbrev pub SafeThroughout : List Note → List Event → List Event → Type 0
SafeThroughout ns old new = (disk : State) → Fits disk old → EachMoment (Safe disk ns old) old new

-- the files themselves have all the changes, and no journal changes more
pub record New (ns : List Note) (old new : State) : Type 0 where
  pub files : (file k : ℕ) → new.held file k ≡ after ns (opened old) file k
  pub idle : Idle new

-- whatever a crash leaves has the changes in its files
abbrev pub SavedFor : List Note → List Event → List Event → Type 0
SavedFor ns old new = (disk : State) → Fits disk old → Follows (New ns) (MayLeave disk old) (MayLeave disk new)

-- no journal is there, and none comes back
pub record NoJournal (es : List Event) : Type 0 where
  pub now : shown es ≡ None
  pub later : (disk c : State) → MayLeave disk es c → c.journal ≡ None

-- each moment leaves a reader what it had, if the journal that is shown is the one on the disk
abbrev pub SameThroughout : List Event → List Event → Type 0
SameThroughout old new =
    (disk : State) → ((c : State) → MayLeave disk old c → c.journal ≡ shown old)
    → EachMoment (λ es. Follows SameRead (MayLeave disk old) (MayLeave disk es)) old new

-- nothing has happened to the files and the journal
pub record Untouched (old new : List Event) : Type 0 where
  pub shown : shown new ≡ shown old
  pub left : (disk c : State) → MayLeave disk new c → MayLeave disk old c

-- whether a change lies in none of the files
abbrev pub is_outside : List FileId → Change → Bool
is_outside files c = not (lies_in (note_of c) (slice_get files c.file))

abbrev pub ids_of : List JournalFile → List FileId
ids_of fs = map (λ (f : JournalFile). f.id) fs

-- What each fault of a save says of it: what was wrong, and how it left the files and the journal.
abbrev pub Tells : List Change → List Event → List Event → SaveFault → Type 0
Tells cs old new (Other i) = ⊥
Tells cs old new (Outside i) = (new ≡ old) × (position (is_outside (files_of old)) cs ≡ Some i)
Tells cs old new (Kept fault) = Untouched old new
Tells cs old new (Begun fault) = shown new ≡ Some (notes cs)
Tells cs old new (Saved fault) = SavedFor (notes cs) old new

-- the same of a journal that is finished, which may be of another file
abbrev pub FinishTells : Journal → List Event → List Event → SaveFault → Type 0
FinishTells j old new (Other i) = (new ≡ old) × (slice_get (ids_of j.files.items) i ≡ slice_get (files_of old) i → ⊥)
FinishTells j old new e = Tells j.changes.items old new e

-- whether a fault is the host's
abbrev pub is_refusal : SaveFault → Bool
is_refusal (Other i) = false
is_refusal (Outside i) = false
is_refusal e = true

-- such a fault is told only where the host has refused something since
pub record HasSaveCause (before now : ℕ) (result : Result ⊤ SaveFault) : Type 0 where
  pub later : before ≤ now
  pub refused : IfErr result (λ e. is_refusal e ≡ true → before < now)

-- ---- the stages of a save

-- a journal that is there changes nothing, or it is the one that is saved
abbrev pub Calm : List Note → State → Type 0
Calm ns d = Idle d ⊎ (d.journal ≡ Some ns)

abbrev pub CalmBefore : State → List Note → List Event → Type 0
CalmBefore disk ns before = (d : State) → MayLeave disk before d → Calm ns d

-- while files are written: the journal is there, and what it does not change is as it was
pub record Writing (ns : List Note) (old new : State) : Type 0 where
  pub journal : new.journal ≡ Some ns
  pub elsewhere : (file k : ℕ) → touches ns file k ≡ false → new.held file k ≡ old.held file k

-- once all are written and synced
pub record Written (ns : List Note) (old new : State) : Type 0 where
  pub journal : new.journal ≡ Some ns
  pub files : (file k : ℕ) → new.held file k ≡ byte_after ns file k (old.held file k)

-- each moment so far was safe, and this stage is reached
pub record Reached (disk : State) (ns : List Note) (before : List Event) (stage : State → State → Type 0) (now : List Event) : Type 0 where
  pub safe : EachMoment (Safe disk ns before) before now
  pub left : Follows stage (MayLeave disk before) (MayLeave disk now)

-- calls from a stage on keep each moment safe
abbrev pub KeepsSafe : List Note → (State → State → Type 0) → List Event → List Event → Type 0
KeepsSafe ns stage old new =
    (disk : State) (before : List Event) → CalmBefore disk ns before → Reached disk ns before stage old
    → EachMoment (Safe disk ns before) before new

-- calls lead from one stage to another
abbrev pub Leads : List Note → (State → State → Type 0) → (State → State → Type 0) → List Event → List Event → Type 0
Leads ns stage next old new =
    (disk : State) (before : List Event) → CalmBefore disk ns before → Reached disk ns before stage old
    → Follows next (MayLeave disk before) (MayLeave disk new)

-- all bytes of these changes were handed over
abbrev pub AllHanded : List Note → List Event → Type 0
AllHanded ns es = (file k b : ℕ) → touches ns file k ≡ true → Due es file k (byte_after ns file k b)

-- the changes are all within their files
abbrev pub AllLie : List FileId → List Note → Type 0
AllLie files [] = Unit {0}
AllLie files (n ∷ ns) = Lies files n × AllLie files ns

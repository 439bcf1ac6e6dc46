-- A command half done, as the drive holds it.
use Rattle.std.specs.Prelude.{◌≡◌, ℕ, ◌+◌, ◌-◌, ◌≤◌, ◌<◌, List, [], ◌++◌, Bool, true, false, ◌||◌, Option, Some, None, length, take, drop, slice_index_or}
use Rattle.std.specs.Prelude.{slice_set}
use Rattle.ckd_track.specs.Track.{Track, track_of, track_in, slot_of}
use Rattle.ckd_track.specs.declared.geometries.Geometry.{Geometry}
use Rattle.ckd_track.specs.Geometry.{track_at}
use Rattle.ckd_command.specs.declared.registers.Registers.{Registers}
use Rattle.ckd_command.specs.declared.registers.Credit.{Credit}
use Rattle.ckd_command.specs.declared.registers.Mark.{Mark}
use Rattle.ckd_command.specs.declared.tables.Action.{Action}
use Rattle.ckd_command.specs.declared.tables.Action.TheVariants as action
use Rattle.ckd_position.specs.declared.areas.Area.{Area}
use Rattle.ckd_position.specs.declared.extents.AreaBytes.{AreaBytes}
use Rattle.ckd_command.specs.declared.tables.Aim.{Aim}
use Rattle.ckd_command.specs.declared.tables.Aim.TheVariants.{Next, Credited}
use Rattle.ckd_command.specs.declared.begin.Opened.{Opened}
use Rattle.ckd_command.specs.Answers.{CommandEnd, Beginning, Sight, Found}
use Rattle.ckd_position.specs.declared.areas.Kind.TheVariants as kind
use Rattle.ckd_command.specs.Answers as answer
use Rattle.ckd_slot.specs.declared.windows.Window.{Window}
use Rattle.std.specs.Ordering.{nat_cmp}
use Rattle.std.specs.declared.cmp.Ordering.{Ordering}
use Rattle.std.specs.declared.cmp.Ordering.TheVariants as order
use Rattle.std.specs.Cmp.Lexicographic.{slice_cmp}
use Rattle.ckd_drive.specs.declared.transfer.Transfer.{Transfer}
use Rattle.ckd_drive.specs.declared.transfer.Transfer.TheVariants.{Sense, Field, Read, Search, Fill, Due, Filled}
use Rattle.ckd_drive.specs.declared.transfer.WrittenArea.{WrittenArea as WrittenBy}
use Rattle.ckd_drive.specs.declared.transfer.WrittenArea.TheVariants as written
use Rattle.ckd_drive.specs.declared.transfer.OpenTransfer.{OpenTransfer}
use Rattle.ckd_drive.specs.declared.answers.DriveStage.{DriveStage}
use Rattle.ckd_drive.specs.declared.answers.DriveStage.TheVariants as stage
use Rattle.ckd_command.specs.Tables.{action_of, extent_of, aim, is_giving}
use Rattle.ckd_sense.specs.SenseBytes.{sense_bytes}
use Rattle.ckd_position.specs.Contents.{Sighted, is_readable, padded}
use Rattle.ckd_command.specs.Commands.{Closing, IsAtTrack, sight as sight_on, area_bytes, bytes_at, area_ends, end_of_area, length_after, closing, command_end}
use Rattle.ckd_command.specs.Commands.{home_address_ends, format_ends}
use Rattle.ckd_slot.specs.Buffer.{Lies, HasBytes, IsPlaceOf, FitsSlot, HasFormatted, lengths_on}
use Rattle.ckd_slot.specs.Cache.{CacheState, IsVolume, slot_held, after_format}
use Rattle.ckd_command.specs.Drive.{is_written_by}
use Rattle.ckd_drive.specs.Work.{Work, Idle, Over, Looking, Passing, DriveState, immediate_ending, failed_ending}

-- the order of an area's first bytes to those that were given
abbrev pub order_of : List ℕ → List ℕ → Ordering
order_of area given = slice_cmp nat_cmp (take (length given) area) given

-- how many bytes a field has that must come whole
abbrev pub field_size : Action → ℕ
field_size action.SeekCylinderAndHead = 6
field_size action.SeekHead = 6
field_size action.SetFileMask = 1
field_size action.WriteHomeAddress = 5
field_size action.Format = 8
field_size _ = 0

-- how many bytes are left, as far as is known
abbrev pub remaining : Action → Transfer → (moved : ℕ) → ℕ
remaining a (Sense b) moved = 6 - moved
remaining a (Field f) moved = field_size a - moved
remaining a (Read w no_data) moved = w.len
remaining a (Search w so_far) moved = w.len
remaining a (Fill w no_data) moved = w.len
remaining a (Due w number count) moved = w.len
remaining a (Filled w what) moved = w.len

-- how a command closes that has written
abbrev pub closes_by : Registers → Opened → WrittenBy → CommandEnd
closes_by r o written.HomeAddress = command_end (home_address_ends o r)
closes_by r o (written.Record number) = command_end (format_ends r number)
closes_by r o (written.Area no_data) = command_end (area_ends o r no_data)

-- the number of the track under the arm
abbrev pub track_under : Geometry → Registers → ℕ
track_under g r = track_at g r.cylinder r.head

-- the slot of track n; no byte where there is none
abbrev pub slot_at : List (List ℕ) → ℕ → List ℕ
slot_at slots n = slice_index_or slots n []

-- The slots as the definitions see them: where a command has changed the track, its slot is as it was before.
abbrev pub seen_by : List (List ℕ) → (n : ℕ) → (before : List ℕ) → Transfer → List (List ℕ)
seen_by slots n before (Filled w what) = slice_set slots n before
seen_by slots n before _ = slots

-- A command half done, whatever the mark is: what was opened, how far it is, the slot under the arm as it was before the
-- command wrote to it, and the bytes that passed.
pub record HalfDone : Type 0 where
  pub cache : CacheState
  pub registers : Registers
  pub opened : Opened
  pub progress : OpenTransfer
  pub before : List ℕ
  pub passed : List ℕ

-- What a drive is made of: what it works with, the mark of the track under the arm, and what it does.
pub record Parts : Type 0 where
  pub job : HalfDone
  pub mark : Mark
  pub stage : DriveStage

-- a drive made of these
abbrev pub parts_of : HalfDone → Mark → DriveStage → Parts
parts_of h m s = record { job = h; mark = m; stage = s }

-- A command whose area is found: over what, the slot under the arm as it was before it wrote, and the bytes that passed.
pub record AtWork : Type 0 where
  pub cache : CacheState
  pub registers : Registers
  pub opened : Opened
  pub before : List ℕ
  pub passed : List ℕ

-- the geometry that it works on
abbrev pub geometry_in : AtWork → Geometry
geometry_in job = job.cache.image.geometry

-- the number of the track under the arm
abbrev pub number_in : AtWork → ℕ
number_in job = track_under (geometry_in job) job.registers

-- the slot under the arm, as it now is
abbrev pub slot_in : AtWork → List ℕ
slot_in job = slot_at job.cache.slots (number_in job)

-- what the command does with its bytes
abbrev pub action_in : AtWork → Action
action_in job = action_of job.opened.command

-- the bytes of its area
abbrev pub area_in : AtWork → List ℕ
area_in job = area_bytes (track_of (slot_in job)) job.opened job.registers

-- how it closes by the bytes that passed, over a track
abbrev pub closing_in : AtWork → Sighted → Closing
closing_in job t = closing (geometry_in job) t job.opened job.registers job.passed

-- a command half done, without how far it is
abbrev pub at_work : HalfDone → AtWork
at_work h = record { cache = h.cache; registers = h.registers; opened = h.opened; before = h.before; passed = h.passed }

-- the number of the track under its arm
abbrev pub own_track : HalfDone → ℕ
own_track h = number_in (at_work h)

-- the slot under its arm
abbrev pub own_slot : HalfDone → List ℕ
own_slot h = slot_in (at_work h)

-- what it does with its bytes
abbrev pub action_now : HalfDone → Action
action_now h = action_in (at_work h)

-- the slots as the definitions see them, with this place of the rest, and this slot before the command wrote
abbrev pub seen_with : HalfDone → (before : List ℕ) → Transfer → List (List ℕ)
seen_with h before place = seen_by h.cache.slots (own_track h) before place

-- the slots as the definitions see them, by what the drive does
abbrev pub seen : DriveStage → HalfDone → List (List ℕ)
seen stage.Passing h = seen_with h h.before h.progress.place
seen _ h = h.cache.slots

-- how far the drive is, as those see it who call
abbrev pub work_of : DriveStage → HalfDone → Work
work_of stage.Idle h = Idle
work_of stage.Ended h = Over (immediate_ending false)
work_of stage.InMotion h = Over (immediate_ending true)
work_of stage.Failed h = Over failed_ending
work_of stage.Looking h = Looking h.opened
work_of stage.Passing h = Passing h.opened h.passed h.progress.left

-- the drive as those see it who call, by what it is made of
abbrev pub state_of : Parts → DriveState
state_of d = record {
  image = d.job.cache.image;
  state = record {
    volume = record { geometry = d.job.cache.image.geometry; slots = seen d.stage d.job };
    registers = d.job.registers;
    mark = d.mark;
  };
  work = work_of d.stage d.job;
}

-- The track under the arm is at hand, and reads whole.
pub record AtHand (c : CacheState) (n : ℕ) : Type 0 where
  pub held : c.held ≡ Some n
  pub readable : is_readable (track_of (slot_at c.slots n)) ≡ true

-- a further look finds its area again, and this many bytes are wanted in all
pub record IsFound (job : AtWork) (t : Sighted) (p : Transfer) : Type 0 where
  pub again : sight_on (geometry_in job) t job.opened job.registers ≡ Found job.opened
  pub len : length_after (geometry_in job) t job.opened job.registers job.passed
      ≡ length job.passed + remaining (action_in job) p (length job.passed)

-- how it closes that passed its area
abbrev pub area_end : AtWork → (no_data : Bool) → CommandEnd
area_end job no_data = command_end (area_ends job.opened job.registers no_data)

-- it closes so, and writes nothing
pub record ClosesUnwritten (job : AtWork) (t : Sighted) (u : CommandEnd) : Type 0 where
  pub so : command_end (closing_in job t) ≡ u
  pub unwritten : (closing_in job t).written ≡ None

-- it closes so, and leaves this track, of which the slot is these bytes
pub record ClosesWritten (size : ℕ) (lengths : List (ℕ × ℕ)) (c : Closing) (u : CommandEnd)
    (slot : List ℕ) : Type 0 where
  pub track : Track
  pub so : command_end c ≡ u
  pub written : c.written ≡ Some track
  pub fits : FitsSlot size track
  pub lengths_stay : lengths_on track ≡ lengths
  pub slot_is : slot_of size track ≡ slot

-- a track that is being written, whose slot is now this: whatever bytes come, they stand in the window, with zeros behind them
pub record IsFilled (job : AtWork) (now : List ℕ) (w : Window) (u : CommandEnd) : Type 0 where
  pub head : List ℕ
  pub tail : List ℕ
  pub lead : ℕ
  pub room : ℕ
  pub begins : lead ≤ length job.passed
  pub lead_small : lead ≤ 8
  pub within : w.start + w.len ≤ (geometry_in job).track_size
  pub start : length head + (length job.passed - lead) ≡ w.start
  pub rest : w.len + (length job.passed - lead) ≡ room
  pub closes : (more : List ℕ) → length more ≤ w.len
      → ClosesWritten (geometry_in job).track_size (lengths_on (track_in now))
      (closing (geometry_in job) (track_of job.before) job.opened job.registers (job.passed ++ more)) u
      (head ++ (padded (drop lead (job.passed ++ more)) room ++ tail))
  pub wants : (more : List ℕ) → length more ≤ w.len
      → length_after (geometry_in job) (track_of job.before) job.opened job.registers (job.passed ++ more) ≡ lead + room

-- the commands whose bytes are a field, collected before anything is done with them
abbrev pub IsField : Action → Type 0
IsField action.SeekCylinderAndHead = Unit {0}
IsField action.SeekHead = Unit {0}
IsField action.SetFileMask = Unit {0}
IsField action.WriteHomeAddress = Unit {0}
IsField action.Format = Unit {0}
IsField _ = ⊥

-- whether a track must be at hand, and read whole, while its field is collected
abbrev pub FieldAtHand : Action → CacheState → ℕ → Type 0
FieldAtHand action.WriteHomeAddress c n = c.held ≡ Some n
FieldAtHand action.Format c n = AtHand c n
FieldAtHand _ c n = Unit {0}

-- the bytes of a field that came, as far as they came
pub record HasField (job : AtWork) (f : List ℕ) : Type 0 where
  pub is_field : IsField (action_in job)
  pub room : length job.passed ≤ field_size (action_in job)
  pub collected : take (length job.passed) f ≡ job.passed
  pub at_hand : FieldAtHand (action_in job) job.cache (number_in job)

-- the sense bytes are given
pub record HasSense (job : AtWork) (bytes : List ℕ) : Type 0 where
  pub is_sense : action_in job ≡ action.GiveSense
  pub bytes_are : bytes ≡ sense_bytes job.registers.sense
  pub room : length job.passed ≤ 6

-- the window has what is still to be given of the area
pub record HasRead (job : AtWork) (w : Window) : Type 0 where
  pub is_read : action_in job ≡ action.Read
  pub held : job.cache.held ≡ Some (number_in job)
  pub lies : Lies (slot_in job) w (drop (length job.passed) (area_in job))
  pub room : length job.passed ≤ length (area_in job)
  pub begins : length job.passed ≤ w.start

-- the window has what is still to be compared of the area, and those before compared so
pub record HasSearched (job : AtWork) (w : Window) (so_far : Ordering) : Type 0 where
  pub is_search : action_in job ≡ action.Search
  pub at_hand : AtHand job.cache (number_in job)
  pub lies : Lies (slot_in job) w (drop (length job.passed) (area_in job))
  pub room : length job.passed ≤ length (area_in job)
  pub begins : length job.passed ≤ w.start
  pub compared : so_far ≡ order_of (area_in job) job.passed

-- the window is where these bytes of a record of the track stand
abbrev pub PlaceIn : AreaBytes → Track → Option Area → Window → Type 0
PlaceIn e t (Some a) w = IsPlaceOf e t a w
PlaceIn e t None w = Unit {0}

-- an update of which no byte has come: the window is its area
pub record WillFill (job : AtWork) (w : Window) : Type 0 where
  pub is_update : action_in job ≡ action.Update
  pub at_hand : AtHand job.cache (number_in job)
  pub lies : Lies (slot_in job) w (area_in job)
  pub place : PlaceIn (extent_of job.opened.command) (track_in (slot_in job)) job.opened.area w
  pub none : job.passed ≡ []

-- a track that is being written: the slot has the bytes that came, and zeros for those that may still come
pub record HasFilled (job : AtWork) (w : Window) (what : WrittenBy) : Type 0 where
  pub at_hand : AtHand job.cache (number_in job)
  pub size : length job.before ≡ (geometry_in job).track_size
  pub filled : IsFilled job (slot_in job) w (closes_by job.registers job.opened what)
  pub slot_is : slot_in job ≡ filled.head ++ (padded (drop filled.lead job.passed) filled.room ++ filled.tail)
  pub found : IsFound job (track_of job.before) (Filled w what)
  pub takes : is_giving (action_in job) ≡ false
  pub some : 0 < length job.passed

-- the command, had it made a record of these count bytes with zeros
abbrev pub with_made : AtWork → (count : List ℕ) → AtWork
with_made job count = record job { cache = after_format job.cache job.opened.area count; before = slot_held job.cache }

-- a new record that fits is due: the track is as it was, and would be being written had the record been made with zeros
pub record HasDue (job : AtWork) (w : Window) (number : ℕ) (count : List ℕ) : Type 0 where
  pub at_hand : AtHand job.cache (number_in job)
  pub fits : HasFormatted (geometry_in job).model (geometry_in job).track_size job.opened.area count
      (track_of (slot_held job.cache)) number w
  pub volume : IsVolume (with_made job count).cache
  pub filled : HasFilled (with_made job count) w (written.Record number)
  pub found : IsFound job (track_of (slot_in job)) (Due w number count)
  pub plain : slice_set (with_made job count).cache.slots (number_in job) (slot_held job.cache) ≡ job.cache.slots

-- a command that works by a credit has the credit's track at hand
abbrev pub CreditAtHand : Aim → CacheState → ℕ → Type 0
CreditAtHand Credited c n = AtHand c n
CreditAtHand _ c n = Unit {0}

-- where the bytes of a command stand that are still to pass, and how it closes
abbrev pub IsPlaced : AtWork → Transfer → Type 0
IsPlaced job (Sense b) = HasSense job b × IsFound job (track_of (slot_in job)) (Sense b)
    × ClosesUnwritten job (track_of (slot_in job)) (area_end job false)
IsPlaced job (Field f) = HasField job f × IsFound job (track_of (slot_in job)) (Field f)
    × ((closing_in job (track_of (slot_in job))).written ≡ None)
IsPlaced job (Read w no_data) = HasRead job w × IsFound job (track_of (slot_in job)) (Read w no_data)
    × ClosesUnwritten job (track_of (slot_in job)) (area_end job no_data)
IsPlaced job (Search w so_far) = HasSearched job w so_far × IsFound job (track_of (slot_in job)) (Search w so_far)
IsPlaced job (Fill w no_data) = WillFill job w × IsFound job (track_of (slot_in job)) (Fill w no_data)
    × ClosesUnwritten job (track_of (slot_in job)) (area_end job no_data)
IsPlaced job (Due w number count) = HasDue job w number count
IsPlaced job (Filled w what) = HasFilled job w what

-- What a look has found.

-- an area, if there is one, has the bytes that are asked for
abbrev pub AreaBy : Sighted → AreaBytes → Option Area → Type 0
AreaBy t e (Some a) = HasBytes e t a
AreaBy t e None = Unit {0}

-- an area whose bytes are asked for is one of the track's
abbrev pub AreaOf : Sighted → Opened → Type 0
AreaOf t o = AreaBy t (extent_of o.command) o.area

-- an area that a look found is one of the track's, and the look was that of this command
abbrev pub AreaIsThere : Sighted → Opened → Sight → Type 0
AreaIsThere t o (Found opened) = (opened.command ≡ o.command) × AreaOf t opened
AreaIsThere t o _ = Unit {0}

-- where the bytes of a command stand that has just found its area
abbrev pub IsFirstPlace : (slot : List ℕ) → Opened → Registers → Transfer → Type 0
IsFirstPlace slot o r (Sense b) = (action_of o.command ≡ action.GiveSense) × (b ≡ sense_bytes r.sense)
IsFirstPlace slot o r (Field f) = IsField (action_of o.command)
IsFirstPlace slot o r (Read w no_data) =
    (action_of o.command ≡ action.Read) × Lies slot w (bytes_at (extent_of o.command) (track_of slot) o.area)
    × (command_end (area_ends o r no_data) ≡ command_end (end_of_area (track_of slot) o r))
IsFirstPlace slot o r (Search w so_far) =
    (action_of o.command ≡ action.Search) × Lies slot w (bytes_at (extent_of o.command) (track_of slot) o.area)
    × (so_far ≡ order.Equal)
IsFirstPlace slot o r (Fill w no_data) =
    (action_of o.command ≡ action.Update) × Lies slot w (bytes_at (extent_of o.command) (track_of slot) o.area)
    × PlaceIn (extent_of o.command) (track_in slot) o.area w
    × (command_end (area_ends o r no_data) ≡ command_end (end_of_area (track_of slot) o r))
IsFirstPlace slot o r _ = ⊥

-- the arm and the credit are as they were
pub record StaysAt (r q : Registers) : Type 0 where
  pub cylinder : q.cylinder ≡ r.cylinder
  pub head : q.head ≡ r.head
  pub credit : q.credit ≡ r.credit

-- what a look leaves of the arm and of the credit
abbrev pub SightKeeps : Geometry → Registers → Sight → Type 0
SightKeeps g r (Found o) = Unit {0}
SightKeeps g r (answer.IndexPassed q) = StaysAt r q
SightKeeps g r (answer.NextHead q) = IsAtTrack g q × (q.credit ≡ r.credit)
SightKeeps g r (answer.Missed q) = StaysAt r q

-- whether a command of this action works only on a track that reads whole
abbrev pub ReadsWhole : Action → Sighted → Type 0
ReadsWhole action.WriteHomeAddress t = Unit {0}
ReadsWhole a t = is_readable t ≡ true

-- how far a command is fits the bytes that passed, and the rest are where it says
pub record Goes (h : HalfDone) : Type 0 where
  pub moved : length h.passed ≡ h.progress.moved
  pub left : h.progress.left ≤ remaining (action_now h) h.progress.place (length h.passed)
  pub placed : IsPlaced (at_work h) h.progress.place
  pub no_credit : h.registers.credit ≡ None

-- between commands a credit is for a track that is at hand
abbrev pub CreditIs : Option Credit → CacheState → ℕ → Type 0
CreditIs None c n = Unit {0}
CreditIs (Some credit) c n = AtHand c n

-- a command that looks for its area
pub record WillLook (h : HalfDone) : Type 0 where
  pub transfers : action_now h ≡ action.NoTransfer → ⊥
  pub credit : CreditAtHand (aim h.opened.command) h.cache (own_track h)
  pub no_credit : h.registers.credit ≡ None

-- what stands of the command at hand, by what the drive does
abbrev pub StageIs : DriveStage → HalfDone → Type 0
StageIs stage.Looking h = WillLook h
StageIs stage.Passing h = Goes h
StageIs _ h = CreditIs h.registers.credit h.cache (own_track h)

-- whether the track is being written
abbrev pub is_filled_by : Transfer → Bool
is_filled_by (Filled w what) = true
is_filled_by _ = false

-- the same, by what the drive does
abbrev pub is_filled : DriveStage → HalfDone → Bool
is_filled stage.Passing h = is_filled_by h.progress.place
is_filled _ h = false

-- what stands of a drive between two calls: the slot at hand is changed where the track under the arm is written or being
-- written, and is then that track's
pub record Stands (d : Parts) : Type 0 where
  pub volume : IsVolume d.job.cache
  pub arm : IsAtTrack d.job.cache.image.geometry d.job.registers
  pub anchored : d.job.cache.changed ≡ true → d.job.cache.held ≡ Some (own_track d.job)
  pub marked : d.job.cache.changed ≡ (is_written_by d.mark || is_filled d.stage d.job)
  pub work : StageIs d.stage d.job

-- What a command leaves as it begins.

-- the arm stays and the credit is gone
pub record IsCleared (r q : Registers) : Type 0 where
  pub cylinder : q.cylinder ≡ r.cylinder
  pub head : q.head ≡ r.head
  pub credit : q.credit ≡ None

-- what a command leaves as it begins, by what its code leads to
abbrev pub BeginsWell : CacheState → ℕ → Registers → Beginning → Type 0
BeginsWell c n r (answer.Rejected q) = IsCleared r q
BeginsWell c n r (answer.Immediate q) = IsCleared r q
BeginsWell c n r (answer.Started q o) = IsCleared r q × (action_of o.command ≡ action.NoTransfer → ⊥)
    × CreditAtHand (aim o.command) c n
BeginsWell c n r (answer.ToCylinderZero q None) = IsCleared r q
BeginsWell c n r (answer.ToCylinderZero q (Some o)) = IsCleared r q × (action_of o.command ≡ action.NoTransfer → ⊥)
    × (aim o.command ≡ Next kind.FirstData)

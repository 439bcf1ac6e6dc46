-- What the parts of a unit come to.
use Rattle.std.specs.Prelude.{◌≡◌, ◌⊎◌, ℕ, ◌+◌, ◌≤◌, ◌<◌, ◌^◌, [], ◌∷◌, Bool, true, false, not, ◌&&◌, ◌||◌, ◌==◌, Option, Some, None, is_none, Result, Ok, Err}
use Rattle.std.specs.Prelude.{length, if◌then◌else◌, List, IsTrue}
use Rattle.s360_words.specs.Storage.{Storage, may_store}
use Rattle.s360_words.specs.Words.{chains_command, chains_data, skips}
use Rattle.s360_words.specs.declared.flags.ChannelStatus.{ChannelStatus}
use Rattle.s360_words.specs.declared.flags.TheConstants.ChannelStatus.{INCORRECT_LENGTH, PROGRAM_CHECK, PROTECTION_CHECK}
use Rattle.s360_words.specs.declared.flags.TheConstants.UnitStatus.{UNIT_CHECK}
use Rattle.s360_words.specs.declared.flags.UnitStatus.{UnitStatus}
use Rattle.s360_words.specs.declared.words.Ccw.{Ccw}
use Rattle.s360_words.specs.declared.words.Csw.{Csw}
use Rattle.ckd_command.specs.declared.close.DriveEnding.{DriveEnding}
use Rattle.ckd_command.specs.Drive.{State, Open, Closed, Fault, LoadFails, SaveFails, length_of, drive_of, is_written, unsaved}
use Rattle.ckd_command.specs.Tables.{action_of, is_giving}
use Rattle.ckd_drive.specs.Work.{DriveState, Work, Over, Passing, passed_of, left_of, moved_on, closed_of, fault_met, with_image, after_look, answer_of_look}
use Rattle.ckd_drive.specs.Work.{failed_ending, look_loads, look_saves, CallsStore, Reports, GivesWhole}
use Rattle.ckd_drive.specs.declared.answers.Look.TheVariants as seen
use Rattle.ckd_drive.specs.declared.answers.WholeRead.{WholeRead}
use Rattle.s360_laws.specs.Commands.{Point}
use Rattle.s360_laws.specs.Endings.{Ending, ending, csw_at}
use Rattle.s360_laws.specs.Laws.{MayMove}
use Rattle.s360_laws.specs.Places.{Place}
use Rattle.s360_laws.specs.Scripts.{units}
use Rattle.s360_laws.specs.Status.{tells, no_channel_status, is_clear, stops_chaining}
use Rattle.s360_laws.specs.Transfers.{Request, Transfer, next_bytes, storage_after, check_of}
use Rattle.s360_laws.specs.Units.{ProgramPhase, Next, GoesOn, EndsIn, unit, walk, StandsIn}
use Rattle.s360_laws.specs.Unsaved.{GainsNoCheck}
use Rattle.s360_program.specs.Advances.{IsEnding, NeedNoStore, TellsFault, TellsNoFault}
use Rattle.s360_storage.specs.Kept.{KeepsStorage}
use Rattle.s360_program.specs.Place.{place_of}
use Rattle.s360_program.specs.Stands.{RunningState, LeftFits, Stands, Within, phase_in}
use Rattle.s360_program.specs.declared.conditions.ChannelCondition.{ChannelCondition}
use Rattle.s360_program.specs.declared.conditions.ChannelCondition.TheVariants as condition
use Rattle.s360_program.specs.declared.moving.Flow.{Flow}
use Rattle.s360_program.specs.declared.moving.StorageArea.{StorageArea}
use Rattle.s360_program.specs.declared.program.LongAdvance.{LongAdvance}
use Rattle.s360_program.specs.declared.run.Comes.TheVariants as comes
use Rattle.s360_program.specs.declared.run.Run.{Run}
use Rattle.s360_program.specs.Stage.{Stage, stage_of}
use Rattle.s360_program.specs.Stage as stage
use Rattle.s360_program.specs.declared.run.Step.{Step}
use Rattle.s360_program.specs.declared.run.Step.TheVariants as step

-- The running program.

-- a running program, by what the code keeps of it
abbrev pub run_of : Run → RunningState
run_of r = record { key = r.key; place = place_of r.place; stage = stage_of r }

-- a running program fits the drive: its fields are within their ranges, and the two stand together
pub record Fits (r : Run) (d : DriveState) : Type 0 where
  pub within : Within (run_of r)
  pub stands : Stands (run_of r) d

-- Channel status.

-- channel status, by what the code keeps of it
abbrev pub status_of : ChannelCondition → ChannelStatus
status_of condition.Clear = no_channel_status
status_of condition.IncorrectLength = INCORRECT_LENGTH
status_of condition.ProgramCheck = PROGRAM_CHECK
status_of condition.ProtectionCheck = PROTECTION_CHECK

-- incorrect length is not reported beside unit check
abbrev pub condition_for : (incorrect : Bool) → UnitStatus → ChannelCondition
condition_for incorrect unit = if incorrect && not (tells unit UNIT_CHECK) then condition.IncorrectLength
    else condition.Clear

-- whether a command chains to the next: chain command is on, and nothing stops it
abbrev pub chains_after : Ccw → UnitStatus → ChannelCondition → Bool
chains_after ccw unit c = chains_command ccw && not (stops_chaining unit) && is_clear (status_of c)

-- why no byte may be stored at an address: it is outside storage, or its block is protected
abbrev pub refused : (inside : Bool) → ChannelCondition
refused inside = if inside then condition.ProtectionCheck else condition.ProgramCheck

-- Faults.

-- calls together met this fault, by what the image counted: a failed load only where one was made
abbrev pub IsMetBy : Option Fault → (old new : DriveState) → Type 0
IsMetBy None old new = new.image.failures ≡ old.image.failures
IsMetBy (Some LoadFails) old new =
    (new.image.failures ≡ old.image.failures + 1) × (old.image.loads < new.image.loads)
IsMetBy (Some (SaveFails left)) old new = new.image.failures ≡ old.image.failures + 1

-- what is reported of it at the end of the program
abbrev pub ToldOf : Option Fault → Csw → (old new : DriveState) → Type 0
ToldOf None csw old new = TellsNoFault old new
ToldOf (Some f) csw old new = TellsFault csw new

-- Calls of the store.

-- a unit makes none: nothing is written, not by the open command either, and no area is looked for
pub record IsQuiet (d : DriveState) : Type 0 where
  pub unwritten : is_written d.state ≡ false
  pub closes : is_written (closed_of None d d.work).state ≡ false
  pub looks : look_loads d ≡ false

-- Units.

-- the program goes on, and no fault was met
pub record GoesBy (key : ℕ) (next : Next) (r : Run) (s : Storage) (old new : DriveState) : Type 0 where
  pub failures : new.image.failures ≡ old.image.failures
  pub goes : next ≡ GoesOn (phase_in (run_of r) s new)
  pub same_key : r.key ≡ key
  pub fits : Fits r new
  pub no_check : GainsNoCheck (drive_of old.state) (drive_of new.state)

-- the program is over, by the fault that was met
pub record EndsBy (next : Option Fault → Next) (told : Csw × Bool) (s : Storage) (old new : DriveState) : Type 0 where
  pub fault : Option Fault
  pub met : IsMetBy fault old new
  pub ending : Ending
  pub ends : next fault ≡ EndsIn s ending
  pub is_ending : IsEnding ending told new
  pub told_of : ToldOf fault told.0 old new

-- a step of one unit, behind so many units
abbrev pub behind : ℕ → Step → Step
behind m (step.Units n) = step.Units (m + 1)
behind m (step.Over n) = step.Over (m + 1)

-- what is reported of a program that ended: its key, and where the channel is in it, are the run's
abbrev pub told_of : Run → Csw × Bool
told_of r = (csw_at r.key (place_of r.place) r.ended.unit r.ended.channel, r.ended.motion)

-- a program ends where its last command is over so: the track that was written is saved, and the ending is told
pub record Settles (c : Closed) (key : ℕ) (p : Place) (k : ChannelCondition) (told : Csw × Bool)
    (old new : DriveState) : Type 0 where
  pub calls : CallsStore false (is_written old.state) old new
  pub reports : Reports
      (unsaved new.state ≡ Some (old.state.registers.cylinder, old.state.registers.head)) old new
  pub is : IsEnding (ending (fault_met old new) key p c (status_of k)) told new

-- one unit, which goes on or ends the program
abbrev pub ComesBy : (key : ℕ) → (Option Fault → Next) → Step → Run → Storage → (old new : DriveState) → Type 0
ComesBy key next (step.Units n) r s old new = (n ≡ 1) × GoesBy key (next None) r s old new
ComesBy key next (step.Over n) r s old new = (n ≡ 1) × EndsBy next (told_of r) s old new

-- so many units, and no more than were asked for
pub record WalksBy (key : ℕ) (phase : ProgramPhase) (most n : ℕ) (r : Run) (s : Storage)
    (old new : DriveState) : Type 0 where
  pub some : 0 < n
  pub few : n ≤ most
  pub failures : new.image.failures ≡ old.image.failures
  pub goes : walk (units n) key phase ≡ StandsIn (phase_in (run_of r) s new)
  pub same_key : r.key ≡ key
  pub fits : Fits r new
  pub no_check : GainsNoCheck (drive_of old.state) (drive_of new.state)

-- so many units, and no more than were asked for, of which the last ends the program
pub record OverBy (key : ℕ) (phase : ProgramPhase) (most n : ℕ) (told : Csw × Bool) (s : Storage)
    (old new : DriveState) : Type 0 where
  pub earlier : ℕ
  pub last : n ≡ earlier + 1
  pub few : n ≤ most
  pub at : ProgramPhase
  pub goes : walk (units earlier) key phase ≡ StandsIn at
  pub ends : EndsBy (λ f. unit f key at) told s old new

-- units that go on, or the last of which ends the program
abbrev pub Steps : (key : ℕ) → ProgramPhase → (most : ℕ) → Step → Run → Storage → (old new : DriveState) → Type 0
Steps key phase most (step.Units n) r s old new = WalksBy key phase most n r s old new
Steps key phase most (step.Over n) r s old new = OverBy key phase most n (told_of r) s old new

-- how many units a step was
abbrev pub count_of : Step → ℕ
count_of (step.Units n) = n
count_of (step.Over n) = n

-- a step of a program, from this storage and with this drive, of so many units at most: what they come to, what storage keeps, and
-- that no call of the store is made where none of them needs one
pub record IsStep (r : Run) (s : Storage) (d : DriveState) (most : ℕ) (a : Step) (r_new : Run) (s_new : Storage)
    (d_new : DriveState) : Type 0 where
  pub steps : Steps r.key (phase_in (run_of r) s d) most a r_new s_new d d_new
  pub storage : KeepsStorage s s_new
  pub quiet : NeedNoStore r.key (phase_in (run_of r) s d) (count_of a) → d_new.image ≡ d.image

-- The parts of a unit.

-- the drive of a program has looked for the area of its command
pub record Looked (r : Run) (old new : DriveState) : Type 0 where
  pub fits : Fits r old
  pub at : r.comes ≡ comes.Look
  pub state : new ≡ with_image (after_look (fault_met old new) old) new.image
  pub calls : CallsStore (look_loads old) (look_saves old) old new
  pub reports : Reports (new.work ≡ Over failed_ending) old new

-- a program whose bytes come next, under the word that it has kept
abbrev pub in_bytes : Run → Run
in_bytes r = record r { comes = comes.Bytes; address = r.ccw.address }

-- where a program stands between two commands
abbrev pub point_at : Storage → Run → DriveState → Point
point_at s r d = record { storage = s; place = place_of r.place; state = d.state }

-- a look has found the area of the command, of which so many bytes may pass, and they come next
pub record FindsArea (r : Run) (s : Storage) (d : DriveState) (r_new : Run) (s_new : Storage)
    (d_new : DriveState) : Type 0 where
  pub looked : Looked r d d_new
  pub left : ℕ
  pub answer : seen.Ready left ≡ answer_of_look d_new.work
  pub run : r_new ≡ in_bytes r
  pub storage : s_new ≡ s

-- the command that a program asks for, with this storage
abbrev pub request_at : Storage → Ccw → Run → Request
request_at s ccw r = record { storage = s; ccw = ccw; place = place_of r.place }

-- a command that is over with this ending
abbrev pub closed_with : State → DriveEnding → Closed
closed_with s e = record { state = s; unit = e.unit; motion = e.motion }

-- Bytes.

-- the area of the command at hand is found, and no more bytes are left than it has in all
abbrev pub MovesBy : State → Work → Type 0
MovesBy s (Passing o b left) = length b + left ≤ length_of (record { opened = o; state = s }) b
MovesBy s w = ⊥

-- the drive has found the area of its command
abbrev pub IsMoving : DriveState → Type 0
IsMoving d = MovesBy d.state d.work

-- the area is found, and the bytes that are left are reported as they are to those who call
abbrev pub FindsBy : State → Work → Type 0
FindsBy s (Passing o b left) = LeftFits (record { opened = o; state = s }) b left
FindsBy s w = ⊥

-- the drive has found the area, and reports what is left of it
abbrev pub HasFound : DriveState → Type 0
HasFound d = FindsBy d.state d.work

-- whether the drive gives or takes bytes, and how many are left; a look that reports it makes no call of the store
abbrev pub FlowsBy : Flow → State → Work → Type 0
FlowsBy flow s (Passing o b left) =
    let all = length_of (record { opened = o; state = s }) b in
    (flow.gives ≡ is_giving (action_of o.command)) × (flow.left ≡ 0 → length b ≡ all) × (length b + flow.left ≤ all)
    × (is_giving (action_of o.command) ≡ true → length b + flow.left ≡ all)
    × ((length b + flow.left ≡ 8 → ⊥) → length b + flow.left ≡ all)
FlowsBy flow s w = ⊥

-- a command of which this many bytes more may move
abbrev pub with_left : ℕ → Work → Work
with_left left (Passing o b l) = Passing o b left
with_left left w = w

-- the drive reports whether it gives or takes, and how many bytes are left, and changes nothing else
pub record Flows (flow : Flow) (old new : DriveState) : Type 0 where
  pub told : FlowsBy flow old.state old.work
  pub drive : new ≡ record old { work = with_left flow.left old.work }

-- so many bytes of a program, under the word that it has kept
abbrev pub segment_of : Run → (count : ℕ) → StorageArea
segment_of r count = record { key = r.key; ccw = r.ccw; address = r.address; count = count }

-- a segment lies within what the drive reports as left of the area that it has found: it has a byte at least, and an address and a
-- key that programs may have
pub record LiesWithin (g : StorageArea) (d : DriveState) : Type 0 where
  pub some : 0 < g.count
  pub left : g.count ≤ left_of d.work
  pub moving : IsMoving d
  pub narrow : g.address < 2 ^ 25
  pub key : g.key < 16

-- the bytes of a command, of which this segment comes next
abbrev pub transfer_by : StorageArea → Storage → Place → Work → Transfer
transfer_by g s p w = record { storage = s; ccw = g.ccw; place = p; address = g.address; bytes = passed_of w }

-- so many bytes may move, and storage and the drive are those behind them
pub record MovesBytesAs (m key : ℕ) (o : Open) (t : Transfer) (w : Work) (s_new : Storage)
    (d d_new : DriveState) : Type 0 where
  pub may : MayMove m key o t
  pub count : length (next_bytes m o t) ≡ m
  pub storage : s_new ≡ storage_after m o t
  pub drive : d_new ≡ record d { work = moved_on (next_bytes m o t) w }

-- bytes of a segment move, or the first of them may not, for this reason
abbrev pub MovesBytesBy : StorageArea → Result ℕ ChannelCondition → (s s_new : Storage) → (d d_new : DriveState) → Work
    → Type 0
MovesBytesBy g (Ok m) s s_new d d_new (Passing o b left) =
    (0 < m) × (m ≤ g.count) × ((p : Place) → m ≤ p.residual →
    MovesBytesAs m g.key (record { opened = o; state = d.state }) (transfer_by g s p (Passing o b left))
    (Passing o b left) s_new d d_new)
MovesBytesBy g (Err c) s s_new d d_new (Passing o b left) =
    (s_new ≡ s) × (d_new ≡ d) × (is_clear (status_of c) ≡ false)
    × ((p : Place) → check_of g.key (record { opened = o; state = d.state }) (transfer_by g s p (Passing o b left))
    ≡ status_of c)
MovesBytesBy g r s s_new d d_new w = ⊥

-- bytes move at once, at least one; or the first may not
abbrev pub MovesBytes : StorageArea → Storage → DriveState → Result ℕ ChannelCondition → Storage → DriveState → Type 0
MovesBytes g s d r s_new d_new = MovesBytesBy g r s s_new d d_new d.work

-- A command that looks for its area is a read whose bytes pass at once: these are all that the drive has, and has at hand; so many of
-- them pass, one at least: as many as its word counts, or all; these may be stored; no further area follows; and more units are asked
-- for than its word counts.
pub record PassesWhole (r : Run) (most : ℕ) (s : Storage) (d : DriveState) (given : List ℕ) (n : ℕ)
    (read : WholeRead) : Type 0 where
  pub gives : GivesWhole d given read
  pub some : 0 < n
  pub counts : n ≤ r.place.residual
  pub has : n ≤ length given
  pub spent : (n ≡ r.place.residual) ⊎ (n ≡ length given)
  pub few : r.place.residual < most
  pub unchained : chains_data r.ccw ≡ false
  pub stores : skips r.ccw ≡ false
  pub may : (i : ℕ) → i < n → IsTrue (may_store s r.key (r.ccw.address + i))

-- So many units are bytes of a read under way: the drive has found its area and has so many left, its word counts no fewer and does not
-- skip them, and all of them may be stored.
pub record AreOfRead (r : Run) (n : ℕ) (s : Storage) (d : DriveState) : Type 0 where
  pub at : r.comes ≡ comes.Bytes
  pub some : 0 < n
  pub counts : n ≤ r.place.residual
  pub stores : skips r.ccw ≡ false
  pub left : ℕ
  pub flows : Flows (record { gives = true; left = left }) d d
  pub has : n ≤ left
  pub may : (i : ℕ) → i < n → IsTrue (may_store s r.key (r.address + i))

-- Rounds: a search that fails, and the transfer in channel behind it that leads back to it.

-- what units of whole rounds leave: the program where it stood, the drive without a call of its store, and no more units than were
-- asked for
pub record GoesRound (r : Run) (s : Storage) (most n : ℕ) (old new : DriveState) : Type 0 where
  pub few : n ≤ most
  pub goes : walk (units n) r.key (phase_in (run_of r) s old) ≡ StandsIn (phase_in (run_of r) s new)
  pub image : new.image ≡ old.image
  pub fits : Fits r new
  pub no_check : GainsNoCheck (drive_of old.state) (drive_of new.state)
  pub none : n ≡ 0 → new ≡ old

-- whether the count is spent, and the next word has a further area of the same command
abbrev pub chains_by : Stage → Bool
chains_by (stage.Moving ccw address) = chains_data ccw
chains_by _ = false

-- whether the next CCW has a further area of the same command, since the count is spent
abbrev pub needs_area : RunningState → Bool
needs_area r = r.place.residual == 0 && chains_by r.stage

-- whether one of the count and of what the drive has left is spent, and the other is not
abbrev pub differs : (residual left : ℕ) → Bool
differs residual left = (not (residual == 0) && left == 0) || (residual == 0 && not (left == 0))

-- Many units, and a cut.

-- whether a program has not ended
abbrev pub goes_on : LongAdvance → Bool
goes_on a = is_none a.ending

-- whether a byte of a command has moved
abbrev pub has_moved : Work → Bool
has_moved (Passing o [] left) = false
has_moved (Passing o (byte ∷ b) left) = true
has_moved w = false

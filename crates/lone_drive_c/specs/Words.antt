-- A command word is done in one call: the single calls of its command, one after another.
use Rattle.std.specs.Prelude.{◌≡◌, ◌⊎◌, ℤ, pos, ℕ, zero, suc, ◌+◌, ◌-◌, ◌==◌, ◌&&◌, nat_lt, min, Bool, true, false, not, if◌then◌else◌, List, length, slice_range}
use Rattle.ckd_image.specs.Store.{overwritten}
use Rattle.ckd_command.specs.Commands.{unit_check_status}
use Rattle.ckd_drive.specs.Work.{Work, DriveState, is_idle, moved_on, phase_of}
use Rattle.ckd_drive.specs.declared.answers.Begun.{Begun}
use Rattle.ckd_drive.specs.declared.answers.Begun.TheVariants.{Rejected, Immediate, Started}
use Rattle.ckd_drive.specs.declared.answers.Phase.{Phase}
use Rattle.ckd_drive.specs.declared.answers.Phase.TheVariants.{Idle, Over, Looking, Gives, Takes}
use Rattle.lone_drive_c.specs.declared.whole.Word.{Word}
use Rattle.lone_drive_c.specs.Calls.{Allowed, BeginsCommand, EndsCommand, GivesBytes, LooksOn}
use Rattle.lone_drive_c.specs.Codes.{begun_code, begun_number, command_open, no_command, stays_open}
use Rattle.lone_drive_c.specs.Shown.{next_shown}

-- Looking.

-- The index passes with each of so many looks.
abbrev pub PassesIndex : (times : ℕ) → (old new : DriveState) → Type 0
PassesIndex zero old new = new ≡ old
PassesIndex (suc n) old new = (before : DriveState) × PassesIndex n old before × LooksOn (pos 1) before new

-- a look finds the area, or fails
pub record Finds (old new : DriveState) : Type 0 where
  pub code : ℤ
  pub other : code ≡ pos 1 → ⊥
  pub looks : LooksOn code old new

-- One look after another, until one finds the area or fails; or the index has passed 255 times, more often than a search or a read of a whole
-- cylinder lets it, and the command looks on.
pub record LooksUp (old new : DriveState) : Type 0 where
  pub passed : ℕ
  pub before : DriveState
  pub passes : PassesIndex passed old before
  pub last : Finds before new ⊎ ((passed ≡ 255) × (new ≡ before))

-- Only a command that works looks.
abbrev pub LooksIf : Begun → (old new : DriveState) → Type 0
LooksIf Started old new = LooksUp old new
LooksIf Immediate old new = new ≡ old
LooksIf Rejected old new = new ≡ old

-- Beginning.

-- A command is begun, and looked for.
pub record BeginsAndLooks (command : ℕ) (begun : Begun) (old new : DriveState) : Type 0 where
  pub between : DriveState
  pub begins : BeginsCommand command (begun_code begun) old between
  pub looks : LooksIf begun between new

-- It is that of a word, which says what its code led to.
pub record BeginsWord (w v : Word) (old new : DriveState) : Type 0 where
  pub begun : Begun
  pub told : v ≡ record w { begun = begun_number begun }
  pub does : BeginsAndLooks w.code begun old new

-- A word begins its command; or it goes on with the command of the word before it.
abbrev pub StartsWord : (begins : Bool) → (w v : Word) → (old new : DriveState) → Type 0
StartsWord true w v old new = BeginsWord w v old new
StartsWord false w v old new = (v ≡ w) × (new ≡ old)

-- whether no command is open where the word begins one, and one is where the word goes on with it
abbrev pub may_do : Word → Work → Bool
may_do w work = if w.begun == 0 then is_idle work else not (is_idle work)

-- what C is told where it is not so
abbrev pub refusal : Word → ℤ
refusal w = if w.begun == 0 then command_open else no_command

-- Bytes.

-- Of the bytes from a place on the first ones are given, as many as there are, and no more than are left,
pub record GivesPart (left at n : ℕ) (before after : List ℕ) (old new : DriveState) : Type 0 where
  pub many : n ≡ min left (length before - at)
  pub given : List ℕ
  pub gives : GivesBytes (pos 0) (slice_range before at (at + n)) given old new
  pub put : after ≡ overwritten before at given

-- or taken,
pub record TakesPart (left at n : ℕ) (before after : List ℕ) (old new : DriveState) : Type 0 where
  pub many : n ≡ min left (length before - at)
  pub stays : after ≡ before
  pub takes : new ≡ record old { work = moved_on (slice_range before at (at + n)) old.work }

-- by what the drive does now; or none passes.
abbrev pub Passes : Phase → (at n : ℕ) → (before after : List ℕ) → (old new : DriveState) → Type 0
Passes (Gives passed left) at n before after old new = GivesPart left at n before after old new
Passes (Takes passed left) at n before after old new = TakesPart left at n before after old new
Passes phase at n before after old new = (n ≡ 0) × (after ≡ before) × (new ≡ old)

-- whether the drive takes bytes, and all have passed that the last look allowed
abbrev pub wants_more : Phase → Bool
wants_more (Takes passed left) = left == 0
wants_more phase = false

-- Then one look more says how many more may pass, as after the count area of a formatting write, and what is left of the bytes passes too.
abbrev pub PassesLeft : (none : Bool) → (first n : ℕ) → (before after : List ℕ) → (old new : DriveState) → Type 0
PassesLeft true first n before after old new = (n ≡ first) × (after ≡ before) × (new ≡ old)
PassesLeft false first n before after old new = (more : ℕ) × Passes (phase_of old.work) first more before after old new × (n ≡ first + more)

pub record PassesMore (first n : ℕ) (before after : List ℕ) (old new : DriveState) : Type 0 where
  pub code : ℤ
  pub looked : DriveState
  pub looks : LooksOn code old looked
  pub rest : PassesLeft (first == length before) first n before after looked new

abbrev pub PassesRest : (wants : Bool) → (first n : ℕ) → (before after : List ℕ) → (old new : DriveState) → Type 0
PassesRest true first n before after old new = PassesMore first n before after old new
PassesRest false first n before after old new = (n ≡ first) × (after ≡ before) × (new ≡ old)

-- So many bytes pass.
pub record Moves (n : ℕ) (before after : List ℕ) (old new : DriveState) : Type 0 where
  pub first : ℕ
  pub between : List ℕ
  pub passed : DriveState
  pub passes : Passes (phase_of old.work) 0 first before between old passed
  pub rest : PassesRest (wants_more (phase_of passed.work)) first n between after passed new

-- Ending.

-- The command stays open,
abbrev pub StaysOpen : (code : ℤ) → (old new : DriveState) → Type 0
StaysOpen code old new = (code ≡ stays_open) × (new ≡ old)

-- or it is ended,
abbrev pub EndsUnless : (stays : Bool) → (code : ℤ) → (old new : DriveState) → Type 0
EndsUnless true code old new = StaysOpen code old new
EndsUnless false code old new = EndsCommand code old new

-- as it is where its bytes are over, or the word chains no data. One that was not begun has failed.
abbrev pub EndsWord : (chains : Bool) → Phase → (code : ℤ) → (old new : DriveState) → Type 0
EndsWord chains Idle code old new = (code ≡ pos unit_check_status) × (new ≡ old)
EndsWord chains Over code old new = EndsCommand code old new
EndsWord chains Looking code old new = StaysOpen code old new
EndsWord chains (Gives passed left) code old new = EndsUnless (chains && nat_lt 0 left) code old new
EndsWord chains (Takes passed left) code old new = EndsUnless (chains && nat_lt 0 left) code old new

-- how many more bytes may pass
abbrev pub left_at : Phase → ℕ
left_at phase = (next_shown phase).left

-- The whole word.
pub record DoesAll (code : ℤ) (w v : Word) (before after : List ℕ) (old new : DriveState) : Type 0 where
  pub begun : Word
  pub started : DriveState
  pub moved : ℕ
  pub passed : DriveState
  pub starts : StartsWord (w.begun == 0) w begun old started
  pub moves : Moves moved before after started passed
  pub told : v ≡ record begun { moved = moved; left = left_at (phase_of passed.work) }
  pub ends : EndsWord (nat_lt 0 w.chains) (phase_of passed.work) code passed new

abbrev pub DoesWord : (code : ℤ) → (w v : Word) → (before after : List ℕ) → (old new : DriveState) → Type 0
DoesWord code w v before after old new = Allowed (may_do w old.work) (refusal w) (DoesAll code w v before after old new)
    code ((v ≡ w) × (after ≡ before) × (new ≡ old))

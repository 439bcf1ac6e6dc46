-- What the parts of a command lead to, with what the drive remembers then.
use Rattle.std.specs.Prelude.{◌≡◌, ℕ, ◌+◌, Bool, true, false, Option, Some}
use Rattle.ckd_command.specs.declared.registers.Registers.{Registers}
use Rattle.ckd_command.specs.declared.begin.Opened.{Opened}
use Rattle.ckd_position.specs.declared.areas.Position.TheVariants.{AtIndex}
use Rattle.ckd_command.specs.declared.registers.Lap.TheVariants.{First}
use Rattle.ckd_command.specs.declared.close.DriveEnding.{DriveEnding}
use Rattle.ckd_command.specs.declared.begin.CommandStart.{CommandStart}
use Rattle.ckd_command.specs.declared.begin.CommandStart.TheVariants as start
use Rattle.ckd_command.specs.declared.look.LookOutcome.{LookOutcome}
use Rattle.ckd_command.specs.declared.look.LookOutcome.TheVariants as seen
use Rattle.ckd_command.specs.declared.close.Closed.{Closed}
use Rattle.ckd_command.specs.declared.close.Closed.TheVariants.{Stays, Moves}

-- what a command code leads to: the command is not begun, and the sense says why; it is over at once; it works; or the
-- arm goes to cylinder 0, head 0 first, where a command is over that has no more to do, and another works
pub data Beginning : Type 0 where
  Rejected : (registers : Registers) → Beginning
  Immediate : (registers : Registers) → Beginning
  Started : (registers : Registers) (opened : Opened) → Beginning
  ToCylinderZero : (registers : Registers) (opened : Option Opened) → Beginning

-- what a look at the track under the arm leads to: the area is found, or none is looked for; the index passed, and the
-- looks go on at the index of the same track, or of the next head's; or the command ends, and the sense says why
pub data Sight : Type 0 where
  Found : (opened : Opened) → Sight
  IndexPassed : (registers : Registers) → Sight
  NextHead : (registers : Registers) → Sight
  Missed : (registers : Registers) → Sight

-- how a command closes, but for what it wrote: what the drive remembers, what the channel sees, and whether the arm or
-- the head leaves the track, which is saved first
pub record CommandEnd : Type 0 where
  pub registers : Registers
  pub ending : DriveEnding
  pub moves_off : Bool

-- the arm at another track, which stands at its index
abbrev pub moved_to : Registers → (cylinder head : ℕ) → Registers
moved_to r cylinder head = record r { cylinder = cylinder; head = head; position = AtIndex; lap = First }

-- The same, by what a call answers and by the registers that it leaves.

-- what a begin came to, by its answer and the registers that it left
abbrev pub begun_as : CommandStart → Registers → Beginning
begun_as start.Rejected r = Rejected r
begun_as start.Immediate r = Immediate r
begun_as (start.Works o) r = Started r o
begun_as (start.ToCylinderZero o) r = ToCylinderZero r o

-- what a look came to, by its answer, the command that looked and the registers that it left
abbrev pub seen_as : LookOutcome → Opened → Registers → Sight
seen_as (seen.Found a) o r = Found (record o { area = Some a })
seen_as seen.IndexPassed o r = IndexPassed r
seen_as seen.NextHead o r = NextHead (moved_to r r.cylinder (r.head + 1))
seen_as seen.Missed o r = Missed r

-- how a command closed, by its answer and the registers that it left
abbrev pub closed_as : Closed → Registers → CommandEnd
closed_as (Stays unit) r = record { registers = r; ending = record { unit = unit; motion = false }; moves_off = false }
closed_as (Moves cylinder head ending) r = record {
  registers = moved_to r cylinder head;
  ending = ending;
  moves_off = true;
}

-- Where the arm has still to leave the track, or an area is found, a call has changed nothing.

-- a look that found its area, or goes on at the next head, has changed no register yet
abbrev pub SeenStays : LookOutcome → Registers → Registers → Type 0
SeenStays (seen.Found a) r r' = r' ≡ r
SeenStays seen.NextHead r r' = r' ≡ r
SeenStays _ r r' = Unit {0}

-- a close that sends the arm or the head away has changed no register yet
abbrev pub ClosedStays : Closed → Registers → Registers → Type 0
ClosedStays (Moves cylinder head ending) r r' = r' ≡ r
ClosedStays _ r r' = Unit {0}

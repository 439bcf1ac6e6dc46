-- The first unit of a program, in which Start I/O fetches its first command (Principles of Operation, Input/Output
-- Operations: 'Start I/O').
use Rattle.std.specs.Prelude.{ℕ, true, Option, Some, None, if◌then◌else◌}
use Rattle.s360_words.specs.Words.{chains_command, caw_of}
use Rattle.s360_words.specs.declared.words.Caw.{Caw}
use Rattle.ckd_command.specs.Drive.{Rejected, IdleDrive, Immediate, AfterBegin, drive_of, Started, begin}
use Rattle.s360_laws.specs.Commands.{Point, requested}
use Rattle.s360_laws.specs.Endings.{Ending, ending, immediate}
use Rattle.s360_laws.specs.Places.{fetch, Fetched, GoodCcw}
use Rattle.s360_laws.specs.Runs.{Start, start_point}
use Rattle.s360_laws.specs.Status.{no_channel_status}
use Rattle.s360_laws.specs.Transfers.{Request}

-- What Start I/O makes of it: nothing, where the channel address word or the first CCW is bad; nothing, where the drive
-- rejects the command; a program that is over at once; or one that runs.
pub data First : Type 0 where
  BadStart : First
  RejectedStart : IdleDrive → First
  ImmediateStart : Ending → First
  AcceptedStart : First

-- what becomes of a start whose first command was begun
abbrev pub first_begun : (key : ℕ) → Request → AfterBegin → First
first_begun key r (Rejected s) = RejectedStart (drive_of s)
first_begun key r (Immediate s motion) =
    if chains_command r.ccw then AcceptedStart
    else ImmediateStart (ending None key r.place (immediate s motion) no_channel_status)
first_begun key r (Started o) = AcceptedStart

-- what becomes of a start, by what stands at the command address; a bad CCW starts nothing
abbrev pub first_fetched : (key : ℕ) → Point → Fetched → First
first_fetched key p (GoodCcw ccw) = first_begun key (requested p ccw) (begin None ccw.code p.state)
first_fetched key p bad = BadStart

-- what becomes of a start with this channel address word, or with a bad one
abbrev pub first_from : Start → Option Caw → First
first_from s None = BadStart
first_from s (Some caw) = let p = start_point caw s in first_fetched caw.key p (fetch p.storage p.place true)

-- what Start I/O makes of a start, in its first unit
abbrev pub first : Start → First
first s = first_from s (caw_of s.caw)

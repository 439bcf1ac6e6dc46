-- The first unit of a program, as Start I/O and as the run has it.
use Rattle.std.proofs.Common.{◌≡◌, ◌≤◌, ℕ, refl, arith, true, false, Bool, cond, not, ◌&&◌, [], Option, Some, None}
use Rattle.s360_words.specs.Words.{chains_command, caw_of}
use Rattle.s360_words.specs.declared.flags.TheConstants.ChannelStatus.{PROGRAM_CHECK}
use Rattle.s360_words.specs.declared.words.Caw.{Caw}
use Rattle.s360_words.specs.declared.words.Ccw.{Ccw}
use Rattle.ckd_command.specs.Drive.{State, Immediate, begin, begin_program, drive_of, AfterBegin, Rejected, Started}
use Rattle.s360_laws.specs.Commands.{chained, Chains, past_modifier, Ends, begun, Point, fetched}
use Rattle.s360_laws.specs.Endings.{Ended, Outcome, ending, failed, immediate, untouched}
use Rattle.s360_laws.specs.Laws.{FirstIsUnit, IsFirstUnit, first_of}
use Rattle.s360_laws.specs.Places.{Place, Fetched, GoodCcw, past_ccw, past_no_ccw, fetched_at, unless_transfer}
use Rattle.s360_laws.specs.Runs.{Start, outcome, commands, first_place, run_from, start_point}
use Rattle.s360_laws.specs.Scripts.{units}
use Rattle.s360_laws.specs.Starts.{AcceptedStart, BadStart, First, ImmediateStart, RejectedStart, first_begun, first_fetched, first_from}
use Rattle.s360_laws.specs.Status.{no_channel_status, stops_chaining, is_clear}
use Rattle.s360_laws.specs.Transfers.{Request}

-- what is said of a start and the outcome of its first unit
abbrev Is : Start → First → Outcome → Type 0
Is s f o = (f ≡ first_of o) × IsFirstUnit s f o

-- Whether an interruption is asked for makes no difference.

bad : (s : Start) (used key : ℕ) (p : Place) → used ≤ 1
    → Is s BadStart (Ended used s.storage (ending None key p (untouched (begin_program s.drive)) PROGRAM_CHECK))
bad s used key p few = (
  grind arith,
  (used, ending None key p (untouched (begin_program s.drive)) PROGRAM_CHECK, refl, few, refl),
)

rejected : (s : Start) (key : ℕ) (p : Place) (t : State)
    → Is s (RejectedStart (drive_of t)) (Ended 1 s.storage (ending None key p (failed t) no_channel_status))
rejected s key p t = (
  grind arith,
  (ending None key p (failed t) no_channel_status, refl, refl, refl),
)

-- a start that is over at once
over : (s : Start) (key : ℕ) (p : Place) (t : State) (motion : Bool) → let e = ending None key p (immediate t motion) no_channel_status in
    Is s (ImmediateStart e) (Ended 1 s.storage e)
over s key p t motion = (grind arith, (refl, grind arith))

-- The first unit.

first_choice : (s : Start) (key : ℕ) (p : Place) (state : State) (motion b : Bool)
    → Is s (cond b AcceptedStart (ImmediateStart (ending None key p (immediate state motion) no_channel_status)))
    (outcome (units 1) key
    (commands 1 key (chained [] (cond (b && not (stops_chaining (immediate state motion).unit) && is_clear no_channel_status)
    (Chains (record { storage = s.storage; place = past_modifier p (immediate state motion); state = state }))
    (Ends s.storage (ending None key p (immediate state motion) no_channel_status))))))
first_choice s key p state true true = (refl, tt)
first_choice s key p state false true = (refl, tt)
first_choice s key p state motion false = over s key p state motion

first_begin : (s : Start) (key : ℕ) (ccw : Ccw) (p : Place) (b : AfterBegin)
    → let r : Request = record { storage = s.storage; ccw = ccw; place = p } in
    Is s (first_begun key r b) (outcome (units 1) key (commands 1 key (begun None [] key r b)))
first_begin s key ccw p (Rejected state) = rejected s key p state
first_begin s key ccw p (Immediate state motion) = first_choice s key p state motion (chains_command ccw)
first_begin s key ccw p (Started o) = (refl, tt)

-- the first CCW may be no transfer in channel
first_fetch : (s : Start) (key : ℕ) (p : Place) (w : Fetched)
    → let q : Point = record { storage = s.storage; place = p; state = begin_program s.drive } in
    Is s (first_fetched key q (unless_transfer false w))
    (outcome (units 1) key (commands 1 key (fetched None [] key q (unless_transfer false w))))
first_fetch s key p (GoodCcw ccw) = first_begin s key ccw (past_ccw p ccw) (begin None ccw.code (begin_program s.drive))
first_fetch s key p w = bad s 1 key (past_no_ccw p) (omega arith)

first_caw : (s : Start) (c : Option Caw) → Is s (first_from s c) (run_from (units 1) s c)
first_caw s None = bad s 0 0 (first_place 0) (omega arith)
first_caw s (Some caw) = let p = start_point caw s in first_fetch s caw.key p.place (fetched_at p.storage p.place.next true)

-- what Start I/O makes of a start is the first unit of its run
pub first_is_unit : FirstIsUnit
first_is_unit s = let h = first_caw s (caw_of s.caw) in record { first_is = h.0; unit_is = h.1 }

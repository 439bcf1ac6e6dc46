-- One command of a program, from its fetch to the choice of the next (Principles of Operation, Input/Output Operations:
-- 'Command Chaining', 'Conclusion of Input/Output Operations').
use Rattle.std.specs.Prelude.{ℕ, ◌+◌, [], ◌∷◌, Bool, true, not, ◌&&◌, Option, if◌then◌else◌}
use Rattle.s360_words.specs.Storage.{Storage}
use Rattle.s360_words.specs.Words.{chains_command}
use Rattle.s360_words.specs.declared.flags.ChannelStatus.{ChannelStatus}
use Rattle.s360_words.specs.declared.flags.TheConstants.ChannelStatus.{INCORRECT_LENGTH, PROGRAM_CHECK}
use Rattle.s360_words.specs.declared.flags.TheConstants.UnitStatus.{UNIT_CHECK, STATUS_MODIFIER}
use Rattle.s360_words.specs.declared.words.Ccw.{Ccw}
use Rattle.ckd_command.specs.Drive.{State, Open, Closed, length_of, Fault, close, state_of, AfterBegin, Rejected, Immediate, Started, begin}
use Rattle.s360_laws.specs.Endings.{Standing, Ending, ending, standing, closed_by_cut, untouched, failed, immediate}
use Rattle.s360_laws.specs.Places.{Place, place_past, past_ccw, fetch, Fetched, NoCcw, past_no_ccw, TransferTo, past_transfer, GoodCcw}
use Rattle.s360_laws.specs.Scripts.{Turn, storage_past, Script, OneUnit}
use Rattle.s360_laws.specs.Status.{tells, no_channel_status, stops_chaining, is_clear}
use Rattle.s360_laws.specs.Transfers.{Transfer, is_incorrect_length, Request, request_of, Moved, StillMoves, Stopped, Completed, Looked, Looks, Misses, Finds}
use Rattle.s360_laws.specs.Transfers.{moved, looked}

-- where a program stands between two commands
pub record Point : Type 0 where
  pub storage : Storage
  pub place : Place
  pub state : State

-- the point behind a turn that is no unit
abbrev pub point_past : Turn → Point → Point
point_past turn p = record p { storage = storage_past turn p.storage; place = place_past turn p.place }

-- what a script comes to in one command: it is spent; the program is over; or it goes on at the next command
pub data Step : Type 0 where
  Spent : Standing → Step
  Over : Script → Storage → Ending → Step
  Goes : Script → Point → Step

-- The end of a command.

-- incorrect length at the end of a command, where it is to be told: not beside unit check
abbrev pub length_status : Open → Transfer → Closed → ChannelStatus
length_status o t c =
    if not (tells c.unit UNIT_CHECK) && is_incorrect_length (length_of o t.bytes) t
    then INCORRECT_LENGTH
    else no_channel_status

-- status modifier passes over the next CCW ('Command Chaining')
abbrev pub past_modifier : Place → Closed → Place
past_modifier p c = if tells c.unit STATUS_MODIFIER then record p { next = p.next + 8 } else p

-- what the end of a command leads to: the next command, or the end of the program
pub data Choice : Type 0 where
  Chains : Point → Choice
  Ends : Storage → Ending → Choice

-- command chaining goes on where neither the unit status nor the channel status stops it
abbrev pub goes_on_chaining : Request → Closed → ChannelStatus → Bool
goes_on_chaining r c channel = chains_command r.ccw && not (stops_chaining c.unit) && is_clear channel

-- the end of a command: the program goes on at the next CCW, or ends
abbrev pub choice : Option Fault → (key : ℕ) → Request → Closed → ChannelStatus → Choice
choice fault key r c channel =
    if goes_on_chaining r c channel
    then Chains (record { storage = r.storage; place = past_modifier r.place c; state = c.state })
    else Ends r.storage (ending fault key r.place c channel)

-- a command that moved its bytes
abbrev pub completed : Option Fault → (key : ℕ) → Transfer → Open → Closed → Choice
completed fault key t o c = choice fault key (request_of t) c (length_status o t c)

-- a script goes on at the next command, or the program is over
abbrev pub chained : Script → Choice → Step
chained rest (Chains p) = Goes rest p
chained rest (Ends s e) = Over rest s e

-- Its bytes, its area, its beginning and its fetch.

-- a command whose bytes pass over a script: it still moves them, a check ended it, or it is complete
abbrev pub after_move : (key : ℕ) → Open → Moved → Step
after_move key o (StillMoves t) = Spent (standing key t.storage t.place (λ fault. closed_by_cut fault o t.bytes))
after_move key o (Stopped rest fault t check) =
    Over rest t.storage (ending fault key t.place (close fault o t.bytes) check)
after_move key o (Completed rest fault t) = chained rest (completed fault key t o (close fault o t.bytes))

-- a command that looks over a script: it still looks, the look failed, or its bytes pass
abbrev pub after_look : (key : ℕ) → Looked → Step
after_look key (Looks o r) = Spent (standing key r.storage r.place (λ fault. untouched (state_of o)))
after_look key (Misses rest fault r s) = Over rest r.storage (ending fault key r.place (failed s) no_channel_status)
after_look key (Finds script o t) = after_move key o (moved script key o t)

-- a command once it was begun: rejected, over at once, or looking for its area
abbrev pub begun : Option Fault → Script → (key : ℕ) → Request → AfterBegin → Step
begun fault rest key r (Rejected s) = Over rest r.storage (ending fault key r.place (failed s) no_channel_status)
begun fault rest key r (Immediate s motion) = chained rest (choice fault key r (immediate s motion) no_channel_status)
begun fault rest key r (Started o) = after_look key (looked rest r o)

-- the command that a good CCW asks for
abbrev pub requested : Point → Ccw → Request
requested p ccw = record { storage = p.storage; ccw = ccw; place = past_ccw p.place ccw }

-- a transfer in channel takes a unit of its own
abbrev pub fetched : Option Fault → Script → (key : ℕ) → Point → Fetched → Step
fetched fault rest key p NoCcw =
    Over rest p.storage (ending fault key (past_no_ccw p.place) (untouched p.state) PROGRAM_CHECK)
fetched fault rest key p (TransferTo address) = Goes rest (record p { place = past_transfer p.place address })
fetched fault rest key p (GoodCcw ccw) = begun fault rest key (requested p ccw) (begin fault ccw.code p.state)

-- what is seen of a program that stands between two commands
abbrev pub standing_between : (key : ℕ) → Point → Standing
standing_between key p = standing key p.storage p.place (λ fault. untouched p.state)

-- one command over a script, from its fetch on
abbrev pub command : Script → (key : ℕ) → Point → Step
command [] key p = Spent (standing_between key p)
command (OneUnit fault ∷ rest) key p = fetched fault rest key p (fetch p.storage p.place true)
command (turn ∷ rest) key p = command rest key (point_past turn p)

-- Which calls of the image's store the units and the cuts of a program make. A load is made only where the drive looks for an
-- area; a save, only where the arm or the head leaves a track that was written, or the program ends at one.
use Rattle.std.specs.Prelude.{ℕ, List, Bool, true, false, not, ◌&&◌, ◌||◌, None}
use Rattle.s360_words.specs.declared.flags.ChannelStatus.{ChannelStatus}
use Rattle.ckd_command.specs.Commands.{Closing, beginning, closing, sight}
use Rattle.ckd_command.specs.Drive.{Closed, Fault, LoadFails, SaveFails, Open, is_written, track_under, AfterBegin, Rejected, Immediate, Started, begin}
use Rattle.ckd_command.specs.Drive.{AfterLook, Ready, Passed, Failed, look, close}
use Rattle.ckd_command.specs.Tables.{aim}
use Rattle.ckd_command.specs.declared.tables.Aim.{Aim}
use Rattle.ckd_command.specs.declared.tables.Aim.TheVariants.{Next as NextArea}
use Rattle.ckd_command.specs.Answers.{Beginning, ToCylinderZero, Sight, NextHead}
use Rattle.s360_laws.specs.Commands.{Point, goes_on_chaining, length_status, requested}
use Rattle.s360_laws.specs.Endings.{closed_by_cut, immediate}
use Rattle.s360_laws.specs.Places.{fetch, Fetched, NoCcw, TransferTo, GoodCcw}
use Rattle.s360_laws.specs.Status.{no_channel_status}
use Rattle.s360_laws.specs.Transfers.{Request, Transfer, TransferUnit, Moves, Stops, Completes, first_transfer, request_of, transfer_unit}
use Rattle.s360_laws.specs.Units.{ProgramPhase, Between, Looking, Moving, state_in}

-- Loads.

-- whether a command wants the next area of a kind
abbrev pub is_next : Aim → Bool
is_next (NextArea kind) = true
is_next _ = false

-- whether a command looks for an area of the track
abbrev pub looks_for_area : Open → Bool
looks_for_area o = is_next (aim o.opened.command)

-- whether a unit makes a load
abbrev pub loads : ProgramPhase → Bool
loads (Looking o r) = looks_for_area o
loads phase = false

-- Whether the arm or the head leaves the track in a unit: as Recalibrate or Read IPL begins, as the next head follows with the
-- multi-track bit, or as a seek ends.

-- whether a begin sends the arm to cylinder 0, head 0
abbrev pub leaves_as_it_begins : Beginning → Bool
leaves_as_it_begins (ToCylinderZero r o) = true
leaves_as_it_begins _ = false

-- whether the command of a CCW that was fetched sends it there
abbrev pub leaves_fetched : Point → Fetched → Bool
leaves_fetched p (GoodCcw ccw) = leaves_as_it_begins (beginning ccw.code p.state.registers)
leaves_fetched p _ = false

-- whether a look goes on at the next head
abbrev pub goes_to_next_head : Sight → Bool
goes_to_next_head (NextHead r) = true
goes_to_next_head _ = false

-- whether a look of an open command leaves the track
abbrev pub leaves_looking : Open → Bool
leaves_looking o = goes_to_next_head (sight o.state.volume.geometry (track_under o.state) o.opened o.state.registers)

-- how an open command closes by these bytes
abbrev pub closing_of : Open → List ℕ → Closing
closing_of o b = closing o.state.volume.geometry (track_under o.state) o.opened o.state.registers b

-- whether a unit that ends a command leaves the track, as a seek does
abbrev pub leaves_moved : Open → Transfer → TransferUnit → Bool
leaves_moved o t (Moves next) = false
leaves_moved o t (Stops next check) = (closing_of o t.bytes).moves_off
leaves_moved o t Completes = (closing_of o t.bytes).moves_off

-- whether the arm or the head leaves the track in a unit
abbrev pub leaves : (key : ℕ) → ProgramPhase → Bool
leaves key (Between p) = leaves_fetched p (fetch p.storage p.place true)
leaves key (Looking o r) = leaves_looking o
leaves key (Moving o t) = leaves_moved o t (transfer_unit key o t)

-- Whether the program ends in a unit with the track under the arm written.

-- whether the end of a command is the end of the program, with the track written
abbrev pub ends_written_by : Request → Closed → ChannelStatus → Bool
ends_written_by r c channel = not (goes_on_chaining r c channel) && is_written c.state

-- whether a command that was begun ends the program so: it is rejected, or over at once
abbrev pub ends_written_begun : Request → AfterBegin → Bool
ends_written_begun r (Rejected s) = is_written s
ends_written_begun r (Immediate s motion) = ends_written_by r (immediate s motion) no_channel_status
ends_written_begun r (Started o) = false

-- whether a fetch ends the program so
abbrev pub ends_written_fetched : Point → Fetched → Bool
ends_written_fetched p NoCcw = is_written p.state
ends_written_fetched p (TransferTo address) = false
ends_written_fetched p (GoodCcw ccw) = ends_written_begun (requested p ccw) (begin None ccw.code p.state)

-- whether a unit of a command whose area is found ends the program so
abbrev pub ends_written_moved : Open → Transfer → TransferUnit → Bool
ends_written_moved o t (Moves next) = false
ends_written_moved o t (Stops next check) = is_written (close None o t.bytes).state
ends_written_moved o t Completes =
    let c = close None o t.bytes in ends_written_by (request_of t) c (length_status o t c)

-- whether a look ends the program so: it fails, or the unit that finds the area completes the command
abbrev pub ends_written_looked : (key : ℕ) → Request → AfterLook → Bool
ends_written_looked key r (Failed s) = is_written s
ends_written_looked key r (Passed o) = false
ends_written_looked key r (Ready o) = let t = first_transfer r in ends_written_moved o t (transfer_unit key o t)

-- whether a unit ends the program with the track under the arm written
abbrev pub ends_written : (key : ℕ) → ProgramPhase → Bool
ends_written key (Between p) = ends_written_fetched p (fetch p.storage p.place true)
ends_written key (Looking o r) = ends_written_looked key r (look None o)
ends_written key (Moving o t) = ends_written_moved o t (transfer_unit key o t)

-- Saves.

-- whether a unit makes a save: where the arm leaves a written track, or the program ends at one
abbrev pub saves : (key : ℕ) → ProgramPhase → Bool
saves key phase = (leaves key phase && is_written (state_in phase)) || ends_written key phase

-- whether a cut leaves the track: a seek that all its bytes came for
abbrev pub leaves_by_cut : ProgramPhase → Bool
leaves_by_cut (Moving o t) = (closing_of o t.bytes).moves_off
leaves_by_cut phase = false

-- whether the track is written where a program is cut
abbrev pub ends_written_by_cut : ProgramPhase → Bool
ends_written_by_cut (Moving o t) = is_written (closed_by_cut None o t.bytes).state
ends_written_by_cut phase = is_written (state_in phase)

-- whether a cut makes a save
abbrev pub saves_by_cut : ProgramPhase → Bool
saves_by_cut phase = (leaves_by_cut phase && is_written (state_in phase)) || ends_written_by_cut phase

-- Whether a unit meets a fault, and whether a cut does: exactly where it makes that call.

-- whether a unit meets a fault: where it makes the call that fails so
abbrev pub meets : Fault → (key : ℕ) → ProgramPhase → Bool
meets LoadFails key phase = loads phase
meets (SaveFails left) key phase = saves key phase

-- whether a cut meets a fault: it makes no load
abbrev pub cut_meets : Fault → ProgramPhase → Bool
cut_meets LoadFails phase = false
cut_meets (SaveFails left) phase = saves_by_cut phase

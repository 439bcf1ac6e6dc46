-- How the bytes of one command pass, under one CCW after another (Principles of Operation, Input/Output Operations: 'Data
-- Chaining', 'Skipping', 'Program Check', 'Protection Check', 'Incorrect Length').
use Rattle.std.specs.Prelude.{ℕ, ◌+◌, ◌-◌, List, [], ◌∷◌, ◌++◌, Bool, false, not, ◌&&◌, ◌||◌, ◌==◌, Option, is_some, length, take, drop, slice_get, nat_lt}
use Rattle.std.specs.Prelude.{if◌then◌else◌}
use Rattle.s360_words.specs.Storage.{Storage, stored, admits, key_at}
use Rattle.s360_words.specs.Words.{skips, chains_data, suppresses_length}
use Rattle.s360_words.specs.declared.flags.ChannelStatus.{ChannelStatus}
use Rattle.s360_words.specs.declared.flags.TheConstants.ChannelStatus.{PROGRAM_CHECK, PROTECTION_CHECK}
use Rattle.s360_words.specs.declared.words.Ccw.{Ccw}
use Rattle.ckd_command.specs.Drive.{AfterLook, Open, Fault, State, look, Ready, Failed, Passed, gives, given, length_of}
use Rattle.s360_laws.specs.Places.{Place, place_past, Fetched, NoCcw, past_no_ccw, TransferTo, past_transfer, GoodCcw, past_ccw, fetch}
use Rattle.s360_laws.specs.Scripts.{Turn, storage_past, Script, OneUnit}
use Rattle.s360_laws.specs.Status.{no_channel_status, is_clear}

-- a command as the channel asks for it: its CCW, storage, and the channel's place
pub record Request : Type 0 where
  pub storage : Storage
  pub ccw : Ccw
  pub place : Place

-- the command behind a turn that is no unit
abbrev pub request_past : Turn → Request → Request
request_past turn r = record r { storage = storage_past turn r.storage; place = place_past turn r.place }

-- the bytes that passed in a command whose area is found, and the CCW and the address of the next one
pub record Transfer : Type 0 where
  pub storage : Storage
  pub ccw : Ccw
  pub place : Place
  pub address : ℕ
  pub bytes : List ℕ

-- a command whose area is found, and of which no byte has passed
abbrev pub first_transfer : Request → Transfer
first_transfer r = record { storage = r.storage; ccw = r.ccw; place = r.place; address = r.ccw.address; bytes = [] }

-- the same, as the command that the channel asks for
abbrev pub request_of : Transfer → Request
request_of t = record { storage = t.storage; ccw = t.ccw; place = t.place }

-- the bytes behind a turn that is no unit
abbrev pub transfer_past : Turn → Transfer → Transfer
transfer_past turn t = record t { storage = storage_past turn t.storage; place = place_past turn t.place }

-- Looking for the area. Each index that passes takes a unit, and so does a look that fails.

-- what a script comes to while the drive looks: it is spent; the look fails; or the area is found, and a script is left
pub data Looked : Type 0 where
  Looks : Open → Request → Looked
  Misses : Script → Option Fault → Request → State → Looked
  Finds : Script → Open → Transfer → Looked

-- what comes behind a look, by what it came to
abbrev pub on_look : Option Fault → Script → Request → AfterLook → (Open → Looked) → Looked
on_look fault rest r (Ready o) again = Finds (OneUnit fault ∷ rest) o (first_transfer r)
on_look fault rest r (Failed s) again = Misses rest fault r s
on_look fault rest r (Passed next) again = again next

-- a command looks over a script, until its area is found or a look fails
abbrev pub looked : Script → Request → Open → Looked
looked [] r o = Looks o r
looked (OneUnit fault ∷ rest) r o = on_look fault rest r (look fault o) (looked rest r)
looked (turn ∷ rest) r o = looked rest (request_past turn r) o

-- Bytes.

-- the next m bytes: those that the drive gives, or those of storage
abbrev pub next_bytes : ℕ → Open → Transfer → List ℕ
next_bytes m o t =
    if gives o then take m (drop (length t.bytes) (given o)) else take m (drop t.address t.storage.bytes)

-- what is read goes into storage, unless it is skipped ('Skipping')
abbrev pub storage_after : ℕ → Open → Transfer → Storage
storage_after m o t =
    if gives o && not (skips t.ccw) then stored t.storage t.address (next_bytes m o t) else t.storage

-- the same once m bytes passed
abbrev pub after_bytes : ℕ → Open → Transfer → Transfer
after_bytes m o t = record {
  storage = storage_after m o t;
  ccw = t.ccw;
  place = record t.place { residual = t.place.residual - m };
  address = t.address + m;
  bytes = t.bytes ++ next_bytes m o t;
}

-- why the next byte may not pass, if it may not; a byte that is read and skipped always may
abbrev pub check_of : (key : ℕ) → Open → Transfer → ChannelStatus
check_of key o t =
    if gives o && skips t.ccw then no_channel_status
    else (if not (is_some (slice_get t.storage.bytes t.address)) then PROGRAM_CHECK
    else (if gives o && not (admits (key_at t.storage t.address) key) then PROTECTION_CHECK else no_channel_status))

-- One unit of a command whose area is found: it moves a byte, or on to the next CCW; a check stops it; or the command is
-- complete.
pub data TransferUnit : Type 0 where
  Moves : Transfer → TransferUnit
  Stops : Transfer → (check : ChannelStatus) → TransferUnit
  Completes : TransferUnit

-- the next CCW has a further area of the same command ('Data Chaining')
abbrev pub chained_data : Transfer → Fetched → TransferUnit
chained_data t NoCcw = Stops (record t { place = past_no_ccw t.place }) PROGRAM_CHECK
chained_data t (TransferTo address) = Moves (record t { place = past_transfer t.place address })
chained_data t (GoodCcw ccw) = Moves (record t { ccw = ccw; place = past_ccw t.place ccw; address = ccw.address })

-- the next byte passes, or a check stops the command
abbrev pub byte_or_check : Open → Transfer → (check : ChannelStatus) → TransferUnit
byte_or_check o t check = if is_clear check then Moves (after_bytes 1 o t) else Stops t check

-- whether the next unit fetches a CCW with a further area of the same command: the count is spent and chains data
abbrev pub needs_ccw : Transfer → Bool
needs_ccw t = t.place.residual == 0 && chains_data t.ccw

-- whether a byte is wanted by the channel and by the drive
abbrev pub needs_byte : Open → Transfer → Bool
needs_byte o t = nat_lt 0 t.place.residual && nat_lt (length t.bytes) (length_of o t.bytes)

-- one unit of a command whose area is found
abbrev pub transfer_unit : (key : ℕ) → Open → Transfer → TransferUnit
transfer_unit key o t =
    if needs_ccw t then chained_data t (fetch t.storage t.place false)
    else (if needs_byte o t then byte_or_check o t (check_of key o t) else Completes)

-- what a script comes to while the bytes pass: it is spent; a check stops it; or the command is complete
pub data Moved : Type 0 where
  StillMoves : Transfer → Moved
  Stopped : Script → Option Fault → Transfer → (check : ChannelStatus) → Moved
  Completed : Script → Option Fault → Transfer → Moved

-- what comes behind a unit, by what it came to
abbrev pub on_unit : Option Fault → Script → Transfer → TransferUnit → (Transfer → Moved) → Moved
on_unit fault rest t (Moves next) again = again next
on_unit fault rest t (Stops next check) again = Stopped rest fault next check
on_unit fault rest t Completes again = Completed rest fault t

-- bytes pass over a script, until a check stops them or the command is complete
abbrev pub moved : Script → (key : ℕ) → Open → Transfer → Moved
moved [] key o t = StillMoves t
moved (OneUnit fault ∷ rest) key o t = on_unit fault rest t (transfer_unit key o t) (moved rest key o)
moved (turn ∷ rest) key o t = moved rest key o (transfer_past turn t)

-- Incorrect length: the drive's length and the count differ, and the CCW does not suppress telling it.

-- whether the drive's length and the count differ: bytes are left of one where the other is spent
abbrev pub lengths_differ : (length_of_drive : ℕ) → Transfer → Bool
lengths_differ L t =
    let m = length t.bytes in
    (m == L && nat_lt 0 t.place.residual) || (t.place.residual == 0 && nat_lt m L)

-- whether incorrect length is told: the lengths differ, and the CCW does not suppress it
abbrev pub is_incorrect_length : (length_of_drive : ℕ) → Transfer → Bool
is_incorrect_length L t = not (suppresses_length t.ccw) && lengths_differ L t

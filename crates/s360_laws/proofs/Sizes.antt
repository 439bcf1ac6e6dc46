-- A channel program keeps the size of storage.
use Rattle.std.proofs.Common.{arith, ◌≡◌, ℕ, refl, ap, ◌∙◌, true, length, Option}
use Rattle.s360_words.specs.Storage.{Storage, Bytes}
use Rattle.s360_words.specs.declared.flags.ChannelStatus.{ChannelStatus}
use Rattle.s360_words.proofs.Overwriting.{length-overwritten}
use Rattle.ckd_command.specs.Drive.{Fault, Open, AfterBegin, begin, Failed, Passed, Ready, look, Closed, close}
use Rattle.s360_laws.specs.Commands.{choice, length_status, requested}
use Rattle.s360_laws.specs.Endings.{NotEnded}
use Rattle.s360_laws.specs.Places.{fetch, GoodCcw, NoCcw, TransferTo}
use Rattle.s360_laws.specs.Runs.{start_point}
use Rattle.s360_laws.specs.Scripts.{Outside, Turn, storage_past}
use Rattle.s360_laws.specs.Transfers.{Request, Transfer, request_of, Stops, TransferUnit, Moves, Completes, transfer_unit, first_transfer}
use Rattle.s360_laws.specs.Units.{standing_in, unit, Next, next_chosen, next_moved, next_looked, next_begun, next_fetched, Between, Looking}
use Rattle.s360_laws.specs.Units.{Moving, ProgramPhase, phase_past}
use Rattle.s360_laws.specs.RunWrites.{KeepsSize, OutcomeKeepsSize}
use Rattle.s360_laws.proofs.Units.{NextIs, UnitIs, run_holds, unit_is, walk_holds}

abbrev storage_in : ProgramPhase → Storage
storage_in (Between p) = p.storage
storage_in (Looking o r) = r.storage
storage_in (Moving o t) = t.storage

abbrev Sized : Storage → Storage → Type 0
Sized before s = length s.bytes ≡ length before.bytes

abbrev NextSized : Storage → Next → Type 0
NextSized before n = NextIs (λ g. Sized before (storage_in g)) (λ s e. Sized before s) n

module _ (before : Storage) (f : Option Fault) (key : ℕ) where
  chosen_sized : (r : Request) (c : Closed) (channel : ChannelStatus) → Sized before r.storage
      → NextSized before (next_chosen (choice f key r c channel))
  chosen_sized r c channel h = grind arith

  moved_sized : (o : Open) (t : Transfer) → Sized before t.storage → NextSized before (next_moved f key o t (transfer_unit key o t))
  moved_sized o t h = go (transfer_unit key o t) (unit_is key o t)
    where
      go : (u : TransferUnit) → UnitIs t u → NextSized before (next_moved f key o t u)
      go (Moves next) k = k ∙ h
      go (Stops next check) k = ap (λ s. length s.bytes) k.storage ∙ h
      go Completes k = chosen_sized (request_of t) (close f o t.bytes) (length_status o t (close f o t.bytes)) h

  begun_sized : (r : Request) (b : AfterBegin) → Sized before r.storage → NextSized before (next_begun f key r b)
  begun_sized r b h = grind arith

  next_sized : (g : ProgramPhase) → Sized before (storage_in g) → NextSized before (unit f key g)
  next_sized (Moving o t) h = moved_sized o t h
  next_sized (Between p) h = elim (fetch p.storage p.place true) as (λ w. NextSized before (next_fetched f key p w))
      [ NoCcw ↦ h | TransferTo address ↦ h | GoodCcw ccw ↦ begun_sized (requested p ccw) (begin f ccw.code p.state) h ]
  next_sized (Looking o r) h = elim (look f o) as (λ l. NextSized before (next_looked f key r l)) [
    | Failed s ↦ h
    | Passed o ↦ h
    | Ready o ↦
        moved_sized o (first_transfer r) h
  ]

turn_sized : (turn : Turn) (s : Storage) → Sized s (storage_past turn s)
turn_sized (Outside (Bytes at bytes)) s = length-overwritten s.bytes at bytes
turn_sized turn s = refl

past_sized : (turn : Turn) (g : ProgramPhase) → Sized (storage_in g) (storage_in (phase_past turn g))
past_sized turn g = grind (arith, turn_sized)

pub keeps_size : KeepsSize
keeps_size s script = run_holds {P = λ key g. Sized s.storage (storage_in g)} {E = λ st e. Sized s.storage st}
    (OutcomeKeepsSize s.storage) s script refl (record { stands = seen; ends = λ used st e h. h })
    (λ caw at. walk_holds (λ g. Sized s.storage (storage_in g)) (λ st e. Sized s.storage st) caw.key (λ turn g h. past_sized turn g
    ∙ h) (λ f. next_sized s.storage f caw.key) script (Between (start_point caw s)) refl)
  where
    seen : (key : ℕ) (g : ProgramPhase) → Sized s.storage (storage_in g) → OutcomeKeepsSize s.storage (NotEnded (standing_in key g))
    seen key (Between p) h = h
    seen key g h = h

-- Where the channel is in a program, and how it fetches channel command words (Principles of Operation, Input/Output
-- Operations: 'Channel Command Word', 'Chaining', 'Transfer in Channel', 'Program-Controlled Interruption').
use Rattle.std.specs.Prelude.{ℕ, ◌+◌, ◌%◌, Bool, true, false, ◌&&◌, ◌||◌, ◌==◌, is_some, slice_get, if◌then◌else◌}
use Rattle.s360_words.specs.declared.words.Ccw.{Ccw}
use Rattle.s360_words.specs.Words.{interrupts, has_reserved_flags, is_transfer}
use Rattle.s360_words.specs.Storage.{Storage, ccw_at}
use Rattle.s360_laws.specs.Scripts.{Turn, TakesInterruption}

-- What is found where a CCW is fetched: none that may stand there, which is a program check; a transfer in channel; or a
-- good one.
pub data Fetched : Type 0 where
  NoCcw : Fetched
  TransferTo : (address : ℕ) → Fetched
  GoodCcw : Ccw → Fetched

-- what a CCW may not have that is no transfer in channel; one that only chains data needs no valid code ('Program Check')
abbrev pub is_invalid : (begins : Bool) → Ccw → Bool
is_invalid begins ccw = ccw.count == 0 || has_reserved_flags ccw || (begins && ccw.code % 16 == 0)

-- what eight bytes are where a CCW is fetched
abbrev pub read_ccw : (begins : Bool) → Ccw → Fetched
read_ccw begins ccw =
    if is_transfer ccw then TransferTo ccw.address
    else (if is_invalid begins ccw then NoCcw else GoodCcw ccw)

-- a CCW stands at a multiple of 8, within storage
abbrev pub fetched_at : Storage → ℕ → (begins : Bool) → Fetched
fetched_at s at begins =
    if at % 8 == 0 && is_some (slice_get s.bytes (at + 7)) then read_ccw begins (ccw_at s at) else NoCcw

-- The channel's place in a program: where the next CCW is, whether it may be a transfer in channel, where the last CCW was
-- whose fetch was tried, the count left in the last good one, and whether an interruption is asked for and not yet taken.
pub record Place : Type 0 where
  pub next : ℕ
  pub may_transfer : Bool
  pub last : ℕ
  pub residual : ℕ
  pub interruption : Bool

-- neither the first CCW nor the one that a transfer leads to may be a transfer in channel ('Transfer in Channel')
abbrev pub unless_transfer : (may_transfer : Bool) → Fetched → Fetched
unless_transfer false (TransferTo address) = NoCcw
unless_transfer may fetched = fetched

-- what is found where the next CCW is fetched; one that begins a command needs a valid code
abbrev pub fetch : Storage → Place → (begins : Bool) → Fetched
fetch s p begins = unless_transfer p.may_transfer (fetched_at s p.next begins)

-- the place behind a good CCW
abbrev pub past_ccw : Place → Ccw → Place
past_ccw p ccw = record {
  next = p.next + 8;
  may_transfer = true;
  last = p.next;
  residual = ccw.count;
  interruption = p.interruption || interrupts ccw;
}

-- the place behind a transfer in channel: no second one may follow
abbrev pub past_transfer : Place → (address : ℕ) → Place
past_transfer p address = record p { next = address; may_transfer = false; last = p.next }

-- the place behind a fetch that found no CCW: its address is that of the last one tried
abbrev pub past_no_ccw : Place → Place
past_no_ccw p = record p { last = p.next }

-- the place behind a turn that is no unit
abbrev pub place_past : Turn → Place → Place
place_past TakesInterruption p = record p { interruption = false }
place_past turn p = p

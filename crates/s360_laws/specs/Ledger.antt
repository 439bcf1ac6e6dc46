-- The ledger: from events and answers alone, how often each device's channel end and device end were stored.
use Rattle.std.specs.Prelude.{◌≡◌, ◌≤◌, ℕ, ◌+◌, ◌*◌, ◌/◌, ◌%◌, List, [], ◌∷◌, Bool, true, false, not, ◌&&◌, ◌||◌, ◌==◌, Option, Some, None, fold, if◌then◌else◌}
use Rattle.s360_words.specs.declared.flags.TheConstants.UnitStatus.{CHANNEL_END, BUSY, DEVICE_END}
use Rattle.s360_words.specs.declared.flags.UnitStatus.{UnitStatus}
use Rattle.s360_words.specs.declared.words.Csw.{Csw}
use Rattle.s360_laws.specs.Status.{tells}
use Rattle.s360_laws.specs.Events.{Exchange, Sio, WithCode, StatusStored, Reset, Tio, CswStored, Interrupt, Interrupted, Input, FaultAfter, Tch}
use Rattle.s360_laws.specs.Machine.{exchanges, Machine, react, after_all, is_working, Pending}
use Rattle.s360_laws.specs.Soundness.{IsSound, owes_channel_end, owes_device_end}
use Rattle.s360_laws.specs.declared.condition.ConditionCode.TheVariants.{Zero, Two, Three, One}

-- the address whose start was accepted: it runs, or it was over at once
abbrev pub accepted : Exchange → Option ℕ
accepted (Sio a, x, WithCode Zero) = Some a
accepted (Sio a, x, StatusStored unit channel) =
    if tells unit CHANNEL_END && not (tells unit BUSY) then Some a else None
accepted _ = None

-- whether an exchange is the acceptance of a start for this address
abbrev pub is_accepted : (address : ℕ) → Exchange → Bool
is_accepted u t = is_for u (accepted t)
  where
    is_for : ℕ → Option ℕ → Bool
    is_for u None = false
    is_for u (Some a) = a == u

-- whether an exchange is a reset
abbrev pub is_reset : Exchange → Bool
is_reset (Reset, x, answer) = true
is_reset _ = false

-- the address and the unit status that were stored
abbrev pub stored_status : Exchange → Option (ℕ × UnitStatus)
stored_status (Sio a, x, StatusStored unit channel) = Some (a, unit)
stored_status (Tio a, x, CswStored csw) = Some (a, csw.unit)
stored_status (Interrupt, x, Interrupted (Some i)) = Some (i.0, i.1.unit)
stored_status _ = None

-- whether this end, one bit of unit status, was stored for an address
abbrev pub stores_end : (end : UnitStatus) → (address : ℕ) → Exchange → Bool
stores_end end u t = is_for (stored_status t)
  where
    is_for : Option (ℕ × UnitStatus) → Bool
    is_for None = false
    is_for (Some s) = s.0 == u && tells s.1 end

-- how often it was stored since the last acceptance for that address, or the last reset
abbrev pub counted : (end : UnitStatus) → (address : ℕ) → ℕ → Exchange → ℕ
counted end u n t = (if is_reset t || is_accepted u t then 0 else n) + (if stores_end end u t then 1 else 0)

-- how often this end was stored for an address, in all
abbrev pub times_stored : (end : UnitStatus) → (address : ℕ) → List Exchange → ℕ
times_stored end u exchanges = fold (counted end u) 0 exchanges

-- what came last for an address: neither an acceptance nor a reset, an acceptance, or a reset
pub data Since : Type 0 where
  SinceBeginning : Since
  SinceAcceptance : Since
  SinceReset : Since

-- what came last for an address, an exchange later
abbrev pub later : (address : ℕ) → Since → Exchange → Since
later u s t = if is_reset t then SinceReset else (if is_accepted u t then SinceAcceptance else s)

-- what came last for an address in a list
abbrev pub since : (address : ℕ) → List Exchange → Since
since u exchanges = fold (later u) SinceBeginning exchanges

-- The laws of the ledger.

-- Each end is stored at most once.
abbrev pub AtMostOnce : Type 0
AtMostOnce = (m : Machine) (es : List Input) (u : ℕ) → IsSound m →
    (times_stored CHANNEL_END u (exchanges es m) ≤ 1) × (times_stored DEVICE_END u (exchanges es m) ≤ 1)

-- how often an end is to be stored in all: once for an accepted program, and never after a reset; what a machine owes as the list
-- begins counts as accepted before it
abbrev pub due : (at_beginning : ℕ) → Since → ℕ
due owed SinceBeginning = owed
due owed SinceAcceptance = 1
due owed SinceReset = 0

-- Each end pends until it is stored, or a reset takes it away: what was stored and what the machine owes are together what is due.
abbrev pub Pends : Machine → List Exchange → (now : Machine) → (address : ℕ) → Type 0
Pends m so_far now u =
    (times_stored CHANNEL_END u so_far + owes_channel_end u now ≡ due (owes_channel_end u m) (since u so_far))
    × (times_stored DEVICE_END u so_far + owes_device_end u now ≡ due (owes_device_end u m) (since u so_far))

-- each end pends so behind every list of events
abbrev pub EndsPend : Type 0
EndsPend = (m : Machine) (es : List Input) (u : ℕ) → IsSound m → Pends m (exchanges es m) (after_all es m) u

-- Between two acceptances with no reset between, each end is stored exactly once.
abbrev pub ExactlyOnce : Type 0
ExactlyOnce = (m : Machine) (es : List Input) (e : Input) (u : ℕ) → IsSound m
    → since u (exchanges es m) ≡ SinceAcceptance
    → is_accepted u (e.0, e.1, (react e.0 e.1 (after_all es m)).0) ≡ true
    → (times_stored CHANNEL_END u (exchanges es m) ≡ 1) × (times_stored DEVICE_END u (exchanges es m) ≡ 1)

-- The channel end of a program comes not after its device end.
abbrev pub ChannelEndFirst : Type 0
ChannelEndFirst = (m : Machine) (es : List Input) (u : ℕ) → IsSound m → since u (exchanges es m) ≡ SinceAcceptance
    → times_stored DEVICE_END u (exchanges es m) ≤ times_stored CHANNEL_END u (exchanges es m)

-- After a reset nothing of an older program is stored.
abbrev pub NoneAfterReset : Type 0
NoneAfterReset = (m : Machine) (es : List Input) (u : ℕ) → IsSound m → since u (exchanges es m) ≡ SinceReset
    → (times_stored CHANNEL_END u (exchanges es m) ≡ 0) × (times_stored DEVICE_END u (exchanges es m) ≡ 0)

-- No start is accepted before the channel end of every accepted program is stored, or a reset has taken it away.
abbrev pub StartsAfterChannelEnd : Type 0
StartsAfterChannelEnd = (m : Machine) (es : List Input) (e : Input) (u v : ℕ) → IsSound m
    → since u (exchanges es m) ≡ SinceAcceptance
    → is_accepted v (e.0, e.1, (react e.0 e.1 (after_all es m)).0) ≡ true
    → times_stored CHANNEL_END u (exchanges es m) ≡ 1

-- While a program runs, Start I/O at the channel answers 2, at any other channel 3, and changes nothing.
abbrev pub RefusesStarts : Machine → Type 0
RefusesStarts m = (a : ℕ) (x : Option FaultAfter)
    → react (Sio a) x m ≡ (WithCode (if a / 256 == m.channel then Two else Three), m)

-- starts are refused so whenever a program runs
abbrev pub NoStartWhileWorking : Type 0
NoStartWhileWorking = (m : Machine) → is_working m.subchannel ≡ true → RefusesStarts m

-- While the channel end of a program that ended is owed, no program starts and the next interruption gives it.

-- what each exchange answers while this CSW is held
abbrev pub HeldAnswer : (channel device : ℕ) → Csw → Exchange → Type 0
HeldAnswer channel device csw (Sio a, x, answer) = a / 256 ≡ channel → answer ≡ WithCode Two
HeldAnswer channel device csw (Tio a, x, answer) = a / 256 ≡ channel → (a % 256 ≡ device → ⊥) → answer ≡ WithCode Two
HeldAnswer channel device csw (Tch, x, answer) = answer ≡ WithCode One
HeldAnswer channel device csw (Interrupt, x, answer) = answer ≡ Interrupted (Some (256 * channel + device, csw))
HeldAnswer channel device csw _ = Unit {0}

-- it is owed until it is stored, or a reset takes it away
abbrev pub ends_holding : (address : ℕ) → Exchange → Bool
ends_holding u t = is_reset t || stores_end CHANNEL_END u t

-- over a list of events: each answer until then
abbrev pub HeldAnswers : (channel device : ℕ) → Csw → List Exchange → Type 0
HeldAnswers channel device csw [] = Unit {0}
HeldAnswers channel device csw (t ∷ rest) =
    HeldAnswer channel device csw t
    × (ends_holding (256 * channel + device) t ≡ false → HeldAnswers channel device csw rest)

-- a CSW that pends answers so until it is stored or a reset takes it away
abbrev pub HeldUntilStored : Type 0
HeldUntilStored = (m : Machine) (device : ℕ) (csw : Csw) (es : List Input) → IsSound m
    → m.subchannel ≡ Pending device csw → HeldAnswers m.channel device csw (exchanges es m)

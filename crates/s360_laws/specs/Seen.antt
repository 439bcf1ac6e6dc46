-- The values of events and answers, as the events and answers of the machine.
use Rattle.std.specs.Prelude.{option_map}
use Rattle.s360_words.specs.declared.words.Csw.{Csw}
use Rattle.s360_laws.specs.Events as machine
use Rattle.s360_laws.specs.declared.condition.ConditionCode.TheVariants as code
use Rattle.s360_laws.specs.declared.status.Status.{Status}
use Rattle.s360_laws.specs.declared.status.Condition.{Condition}
use Rattle.s360_laws.specs.declared.status.Condition.TheVariants.{Zero, Stored, Two, Three}
use Rattle.s360_laws.specs.declared.events.Event.{Event}
use Rattle.s360_laws.specs.declared.events.Event.TheVariants as event
use Rattle.s360_laws.specs.declared.answers.Answer.{Answer}
use Rattle.s360_laws.specs.declared.answers.Answer.TheVariants as answer

-- the event of the machine
abbrev pub event_seen : Event → machine.Event
event_seen (event.Sio address) = machine.Sio address
event_seen (event.Tio address) = machine.Tio address
event_seen (event.Hio address) = machine.Hio address
event_seen event.Tch = machine.Tch
event_seen (event.Step units) = machine.StepBy units
event_seen (event.Run units) = machine.StepBy units
event_seen (event.Arrive address) = machine.Arrive address
event_seen event.Interrupt = machine.Interrupt
event_seen event.Reset = machine.Reset
event_seen (event.Store at bytes) = machine.Store at bytes.items
event_seen (event.Key at key) = machine.SetKey at key
event_seen (event.Show at count) = machine.Show at count

-- a condition code, and what was stored under code 1
abbrev pub condition_seen : {T : Type 0} → (T → machine.Answer) → Condition T → machine.Answer
condition_seen stored Zero = machine.WithCode code.Zero
condition_seen stored (Stored s) = stored s
condition_seen stored Two = machine.WithCode code.Two
condition_seen stored Three = machine.WithCode code.Three

-- a stored status, as an answer of the machine
abbrev pub status_seen : Status → machine.Answer
status_seen s = machine.StatusStored s.unit s.channel

-- a stored channel status word, as an answer of the machine
abbrev pub csw_seen : Csw → machine.Answer
csw_seen csw = machine.CswStored csw

-- the answer of the machine
abbrev pub answer_seen : Answer → machine.Answer
answer_seen (answer.Sio address c) = condition_seen status_seen c
answer_seen (answer.Tio address c) = condition_seen csw_seen c
answer_seen (answer.Hio address c) = condition_seen status_seen c
answer_seen (answer.Tch c) = condition_seen (λ u. machine.WithCode code.One) c
answer_seen (answer.Step done) = machine.Stepped done
answer_seen (answer.Run done) = machine.Stepped done
answer_seen (answer.Arrive address arrived) = machine.HasArrived arrived
answer_seen (answer.Interrupt i) = machine.Interrupted i
answer_seen (answer.Reset unsaved) = machine.WasReset unsaved
answer_seen (answer.Store kept) = machine.WasKept kept
answer_seen (answer.Key kept) = machine.WasKept kept
answer_seen (answer.Show at bytes) = machine.Shown (option_map (λ b. b.items) bytes)

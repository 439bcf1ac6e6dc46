-- What a deck that has run promises of its events, taken out of it: for every machine that its channel stood for.
use Rattle.std.specs.Prelude.{◌≡◌, ◌+◌, ℕ, List, map, false}
use Rattle.s360_laws.specs.Events.{Input}
use Rattle.s360_laws.specs.Headline.{Headline}
use Rattle.s360_laws.specs.History.{world_of, history, all_acts}
use Rattle.s360_laws.specs.Machine as machine
use Rattle.s360_laws.specs.Machine.{Machine, after_all, exchanges, plain, is_working}
use Rattle.s360_laws.specs.Seen.{event_seen, answer_seen}
use Rattle.s360_laws.specs.declared.answers.Answer.{Answer}
use Rattle.s360_channel.specs.Channel.{ChannelState, StandsFor, failures_of}
use Rattle.s360_channel.specs.Lists.{AllReported, faults_in}
use Rattle.s360_deck.specs.Texts.{HasRun}

-- the answers are the machine's, each event with the fault that it met, and the headline holds of the list
abbrev pub RunsKeepHeadline : Type 0
RunsKeepHeadline = (text : List ℕ) (old new : ChannelState) (answers : List Answer) (m : Machine)
    → (h : HasRun text old new answers) → StandsFor old m
    → (inputs : List Input) × (map (λ i. i.0) inputs ≡ map event_seen h.events)
    × (map answer_seen answers ≡ machine.answers inputs m) × Headline m inputs

-- where no store failed and no program runs, storage and drives are those of the accepted programs run one after another, each cut
-- at its counted unit
abbrev pub RunsAreSerial : Type 0
RunsAreSerial = (text : List ℕ) (old new : ChannelState) (answers : List Answer) (m : Machine)
    → (h : HasRun text old new answers) → StandsFor old m
    → failures_of new ≡ failures_of old
    → let events = plain (map event_seen h.events) in (map answer_seen answers ≡ machine.answers events m)
    × (is_working (after_all events m).subchannel ≡ false
    → world_of (after_all events m) ≡ history (world_of m) (all_acts m (exchanges events m)))

-- there are as many faults as calls of the stores failed, and each is reported by the event that met it and by no other
abbrev pub RunsReportFaults : Type 0
RunsReportFaults = (text : List ℕ) (old new : ChannelState) (answers : List Answer) (m : Machine)
    → (h : HasRun text old new answers) → StandsFor old m
    → (inputs : List Input) × (map (λ i. i.0) inputs ≡ map event_seen h.events)
    × (failures_of new ≡ failures_of old + faults_in inputs) × AllReported inputs m

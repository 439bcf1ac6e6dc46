-- What lists of events do at a channel: the promise of the whole.
use Rattle.std.specs.Prelude.{◌≡◌, ℕ, ◌+◌, List, [], ◌∷◌, map, false, Some, None}
use Rattle.s360_laws.specs.Events.{Event, Answer, Input}
use Rattle.s360_laws.specs.Headline.{Headline}
use Rattle.s360_laws.specs.History.{world_of, history, all_acts}
use Rattle.s360_laws.specs.Machine as machine
use Rattle.s360_laws.specs.Machine.{Machine, react, after_all, exchanges, plain, is_working}
use Rattle.s360_channel.specs.Calls.{CallsAtMost, IsMet, Reports, most_calls}
use Rattle.s360_channel.specs.Channel.{ChannelState, StandsFor, failures_of}

-- how many events of a list meet a fault
abbrev pub faults_in : List Input → ℕ
faults_in [] = 0
faults_in ((e, None) ∷ rest) = faults_in rest
faults_in ((e, Some x) ∷ rest) = 1 + faults_in rest

-- each fault is reported by the event that meets it, and by no other
abbrev pub AllReported : List Input → Machine → Type 0
AllReported [] m = Unit {0}
AllReported (e ∷ es) m = Reports e.0 m e.1 × AllReported es (react e.0 e.1 m).1

-- Event by event: the channel goes through states between which its stores met the fault that the event comes with, and no
-- other; were called no more often than the event may; and kept each image's geometry, and its files' headers and stores.
abbrev pub AllMet : Machine → List Input → List Answer → (old new : ChannelState) → Type 0
AllMet m [] [] old new = new ≡ old
AllMet m [] (a ∷ rest) old new = ⊥
AllMet m (e ∷ es) [] old new = ⊥
AllMet m (e ∷ es) (a ∷ rest) old new =
    (between : ChannelState) × IsMet e.1 a old between × CallsAtMost (most_calls e.0 a) old between
    × StandsFor between (react e.0 e.1 m).1 × AllMet (react e.0 e.1 m).1 es rest between new

-- What is so where no store fails: the answers are those of the events without faults; and whenever no program runs, storage
-- and drives are those of the accepted programs run one after another, each cut at its counted unit.
pub record WithoutFaults (m : Machine) (events : List Event) (answers : List Answer) (new : ChannelState) : Type 0 where
  pub same_answers : answers ≡ machine.answers (plain events) m
  pub stands : StandsFor new (after_all (plain events) m)
  pub is_serial : is_working (after_all (plain events) m).subchannel ≡ false →
      world_of (after_all (plain events) m) ≡ history (world_of m) (all_acts m (exchanges (plain events) m))

-- What a list of events does at a channel that stands for a machine. Each event comes with the fault that it met, if it met
-- one; the images keep their geometries, and their files' headers and stores; the headline holds of the list.
pub record Follows (m : Machine) (events : List Event) (answers : List Answer) (old new : ChannelState) : Type 0 where
  pub inputs : List Input
  pub are_these : map (λ i. i.0) inputs ≡ events
  pub faults : failures_of new ≡ failures_of old + faults_in inputs
  pub met : AllMet m inputs answers old new
  pub lasting : map (λ u. u.drive.image.lasting) new.drives ≡ map (λ u. u.drive.image.lasting) old.drives
  pub geometries : map (λ u. u.drive.image.geometry) new.drives ≡ map (λ u. u.drive.image.geometry) old.drives
  pub same_answers : answers ≡ machine.answers inputs m
  pub stands : StandsFor new (after_all inputs m)
  pub reported : AllReported inputs m
  pub headline : Headline m inputs
  pub without_faults : failures_of new ≡ failures_of old → WithoutFaults m events answers new

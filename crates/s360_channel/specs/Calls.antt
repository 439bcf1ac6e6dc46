-- What the calls of a channel do: each is an event of every machine that the channel stands for.
use Rattle.std.specs.Prelude.{◌≡◌, ◌⊎◌, ℕ, suc, ◌+◌, ◌*◌, ◌≤◌, map, Option, Some, None}
use Rattle.s360_laws.specs.Events.{Event, StepBy, Hio, Reset, Answer, Stepped, WithCode, FaultAfter}
use Rattle.s360_laws.specs.Machine.{Machine, react}
use Rattle.s360_laws.specs.NothingTold.{NoneGainsCheck, TellsNoTrack}
use Rattle.s360_laws.specs.Steps.{EndedByFault, ToldByReset}
use Rattle.s360_laws.specs.declared.condition.ConditionCode.TheVariants.{Two}
use Rattle.s360_channel.specs.Channel.{ChannelState, StandsFor, failures_of, store_calls_of}

-- An event that calls no store: the answer is the machine's, and the channel stands for the next machine afterwards.
pub record DoesQuietly (e : Event) (m : Machine) (answer : Answer) (new : ChannelState) : Type 0 where
  pub answers : answer ≡ (react e None m).0
  pub stands : StandsFor new (react e None m).1

-- A fault is met exactly where the count of failures rose, by one; in a step, in the last unit that was done.
abbrev pub IsMet : Option FaultAfter → Answer → (old new : ChannelState) → Type 0
IsMet None answer old new = failures_of new ≡ failures_of old
IsMet (Some x) (Stepped done) old new = (failures_of new ≡ failures_of old + 1) × (done ≡ suc x.units)
IsMet (Some x) answer old new = failures_of new ≡ failures_of old + 1

-- A fault is reported: by a channel status word that pends with unit check, and equipment check in the drive's sense; at a
-- reset by its answer, which names the track that was not saved.
abbrev pub IsReported : Event → Machine → FaultAfter → Type 0
IsReported (StepBy k) m x = EndedByFault (react (StepBy k) (Some x) m) (Stepped (suc x.units))
IsReported (Hio a) m x = EndedByFault (react (Hio a) (Some x) m) (WithCode Two)
IsReported Reset m x = ToldByReset m (react Reset (Some x) m)
IsReported e m x = ⊥

-- Without a fault none is: no track is named, and no drive's sense gains equipment check.
abbrev pub Reports : Event → Machine → Option FaultAfter → Type 0
Reports e m None = TellsNoTrack (react e None m).0 × NoneGainsCheck m (react e None m).1
Reports e m (Some x) = IsReported e m x

-- An event that may call a store, and so may meet a fault.
pub record Does (e : Event) (m : Machine) (answer : Answer) (old new : ChannelState) : Type 0 where
  pub fault : Option FaultAfter
  pub met : IsMet fault answer old new
  pub answers : answer ≡ (react e fault m).0
  pub stands : StandsFor new (react e fault m).1
  pub reports : Reports e m fault

-- Calls of the stores.

-- none: all images stay as they are
abbrev pub CallsNoStore : (old new : ChannelState) → Type 0
CallsNoStore old new = map (λ u. u.drive.image) new.drives ≡ map (λ u. u.drive.image) old.drives

-- how often an event may call a store, by its answer
abbrev pub most_calls : Event → Answer → ℕ
most_calls (StepBy k) (Stepped done) = 2 * done
most_calls (Hio a) answer = 1
most_calls Reset answer = 1
most_calls e answer = 0

-- at most so many loads and saves, one of which may fail; the images keep their geometries, and their files' headers and stores
pub record CallsAtMost (most : ℕ) (old new : ChannelState) : Type 0 where
  pub calls : store_calls_of new ≤ store_calls_of old + most
  pub failures : (failures_of new ≡ failures_of old) ⊎ (failures_of new ≡ failures_of old + 1)
  pub lasting : map (λ u. u.drive.image.lasting) new.drives ≡ map (λ u. u.drive.image.lasting) old.drives
  pub geometries : map (λ u. u.drive.image.geometry) new.drives ≡ map (λ u. u.drive.image.geometry) old.drives

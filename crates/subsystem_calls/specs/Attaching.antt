-- What C is told of handles that are made, and of drives that are attached and detached.
use Rattle.std.specs.Prelude.{◌≡◌, ℤ, pos, ◌/◌, ◌%◌, ℕ, Option, Some, None}
use Rattle.ckd_track.specs.declared.model.DriveModel.{DriveModel}
use Rattle.ckd_image.specs.Image.{ImageState}
use Rattle.s360_channels.specs.Channels.{ChannelsState, OnChannel, channel_at}
use Rattle.s360_channels.specs.Packs.{RefusedDetach, TakesOff}
use Rattle.dasd_subsystem.specs.Attaching.{AttachesNew, NotAttachedNew}
use Rattle.subsystem_calls.specs.Codes.{bad_model, detach_code, refusal_code}

-- C is told a reason by its number, and it is why.
pub record TellsWhy {A : Type 0} (number : A → ℤ) (is_why : A → Type 0) (code : ℤ) : Type 0 where
  pub reason : A
  pub told : code ≡ number reason
  pub holds : is_why reason

-- It was done, and C is told 0; or it was refused, C is told this, and nothing has changed.
pub data DoneOrRefused (code : ℤ) (old new : ChannelsState) (does refused : Type 0) : Type 0 where
  Done : code ≡ pos 0 → does → DoneOrRefused code old new does refused
  Refused : refused → new ≡ old → DoneOrRefused code old new does refused

-- A drive of a model that there is is attached, with a new volume,
abbrev pub AttachesOf : Option DriveModel → (address cylinders : ℕ) → (old new : ChannelsState) → Type 0
AttachesOf (Some model) address cylinders old new = AttachesNew address model cylinders old new
AttachesOf None address cylinders old new = ⊥

-- or is not: there is no such model, or the subsystem refuses it.
abbrev pub RefusesOf : Option DriveModel → (address cylinders : ℕ) → (code : ℤ) → (old : ChannelsState) → Type 0
RefusesOf (Some model) address cylinders code old =
    TellsWhy refusal_code (NotAttachedNew (channel_at (address / 256) old) (address % 256) cylinders) code
RefusesOf None address cylinders code old = code ≡ bad_model

-- A drive is taken off the channel of its address, with some image, which is let go,
pub record Detached (address : ℕ) (old new : ChannelsState) : Type 0 where
  pub image : ImageState
  pub detaches : OnChannel (address / 256) (TakesOff (address % 256) image) ⊥ old new

-- or is not: there is no such channel, or the channel keeps it.
abbrev pub RefusesDetach : (address : ℕ) → (code : ℤ) → (old : ChannelsState) → Type 0
RefusesDetach address code old = TellsWhy detach_code (RefusedDetach (channel_at (address / 256) old) old.storage (address % 256)) code

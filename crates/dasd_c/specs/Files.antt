-- What C is told of files that no drive has, and of drives that take them over and give them back.
use Rattle.std.specs.Prelude.{◌≡◌, ◌⊎◌, ℕ, ◌/◌, ◌%◌, ℤ, pos, List, length, slice_get, Option, Some, None}
use Rattle.s360_channels.specs.Channels.{ChannelsState, channel_at}
use Rattle.dasd_subsystem.specs.Attaching.{Attaches, Detaches, NotAttached}
use Rattle.dasd_subsystem.specs.declared.refusal.Refusal.TheVariants.{OutOfMemory}
use Rattle.subsystem_calls.specs.Attaching.{DoneOrRefused, RefusesDetach, TellsWhy}
use Rattle.subsystem_calls.specs.Codes.{in_use, no_file, nothing_held, refusal_code}
use Rattle.dasd_c.specs.declared.storing.StoragePlace.{StoragePlace}

-- A file of so many bytes is shown; or there is no such file, and nothing is;
abbrev pub ShowsSpace : Option (List ℕ) → (code : ℤ) → (before shown : StoragePlace) → Type 0
ShowsSpace (Some bytes) code before shown = (code ≡ pos 0) × (shown.len ≡ length bytes)
ShowsSpace None code before shown = (code ≡ no_file) × (shown ≡ before)

-- by its place among these,
abbrev pub ShowsSpaceIn : (files : List (List ℕ)) → (place : ℕ) → (code : ℤ) → (before shown : StoragePlace) → Type 0
ShowsSpaceIn files place code before shown = ShowsSpace (slice_get files place) code before shown

-- or none are held.
abbrev pub ShowsSpaceOf : Option (List (List ℕ)) → (place : ℕ) → (code : ℤ) → (before shown : StoragePlace) → Type 0
ShowsSpaceOf (Some files) place code before shown = ShowsSpaceIn files place code before shown
ShowsSpaceOf None place code before shown = (code ≡ nothing_held) × (shown ≡ before)

-- A drive is attached with the image of these files, and nothing is left of them; or C is told why not, they are left, and nothing has
-- changed.
abbrev pub AttachesFrom : (files : List (List ℕ)) → (left : Option (List (List ℕ))) → (address : ℕ) → (code : ℤ) → (old new : ChannelsState) → Type 0
AttachesFrom files left address code old new = DoneOrRefused code old new (Attaches address files old new × (left ≡ None))
    (TellsWhy refusal_code (NotAttached (channel_at (address / 256) old) (address % 256) files) code × (left ≡ Some files))

-- The same of the files of a handle, if it holds any.
abbrev pub AttachesHeld : (files left : Option (List (List ℕ))) → (address : ℕ) → (code : ℤ) → (old new : ChannelsState) → Type 0
AttachesHeld (Some files) left address code old new = AttachesFrom files left address code old new
AttachesHeld None left address code old new = (code ≡ nothing_held) × (left ≡ None) × (new ≡ old)

-- A drive is taken off, and what is held then are files that hold its image,
pub record DetachesAs (held : Option (List (List ℕ))) (address : ℕ) (old new : ChannelsState) : Type 0 where
  pub files : List (List ℕ)
  pub are_held : held ≡ Some files
  pub detaches : Detaches address files old new

-- or C is told why not, and nothing has changed.
abbrev pub DetachesInto : (before held : Option (List (List ℕ))) → (address : ℕ) → (code : ℤ) → (old new : ChannelsState) → Type 0
DetachesInto before held address code old new =
    DoneOrRefused code old new (DetachesAs held address old new) (RefusesDetach address code old × (held ≡ before))

-- Into a handle that holds nothing: where it holds something C is told so, and it may be that there is no memory, before the drive is
-- looked for. Nothing has changed.
abbrev pub DetachesHeld : (before held : Option (List (List ℕ))) → (address : ℕ) → (code : ℤ) → (old new : ChannelsState) → Type 0
DetachesHeld (Some files) held address code old new = (code ≡ in_use) × (held ≡ Some files) × (new ≡ old)
DetachesHeld None held address code old new =
    DetachesInto None held address code old new ⊎ ((code ≡ refusal_code OutOfMemory) × (held ≡ None) × (new ≡ old))

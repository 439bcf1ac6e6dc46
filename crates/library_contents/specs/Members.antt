-- The members of a library, each once, by the addresses of their first blocks.
use Rattle.std.specs.Prelude.{◌≡◌, ℕ, ◌<◌, ◌==◌, Bool, ◌&&◌, List, [], ◌∷◌, ◌++◌, length, map, get_or, Option, Some, None}
use Rattle.std.specs.List.{position}
use Rattle.std.specs.Global.{Vec}
use Rattle.ckd_track.specs.declared.geometries.Geometry.{Geometry}
use Rattle.volume_labels.specs.declared.fields.Extent.{Extent}
use Rattle.volume_labels.specs.declared.fields.RelativeAddress.{RelativeAddress}
use Rattle.dasd_volumes.specs.Reading.{KnownVolume}
use Rattle.dasd_extract.specs.declared.blocks.ExtractedForm.TheVariants.{Keyed}
use Rattle.dasd_extract.specs.Walk.{Wanted, wanted, source_written}
use Rattle.library_contents.specs.declared.directories.PlacedEntry.{PlacedEntry}
use Rattle.library_contents.specs.declared.members.Members.{Members}
use Rattle.library_contents.specs.Blocks.{whole_bytes, IsWhole}

-- the blocks from an address on, with their lengths and keys
abbrev pub from_address : List Extent → RelativeAddress → Wanted
from_address extents start = wanted Keyed extents start 65535

-- a library on a volume whose slots are known
pub record Library : Type 0 where
  pub extents : List Extent
  pub geometry : Geometry
  pub slots : List (List ℕ)

-- a library with these extents on a volume with these slots
abbrev pub library_on : List Extent → Geometry → (slots : List (List ℕ)) → Library
library_on extents g slots = record { extents = extents; geometry = g; slots = slots }

-- the bytes of its blocks from an address on up to an end of file, if there is one
abbrev pub blocks_at : Library → RelativeAddress → Option (List ℕ)
blocks_at l start = whole_bytes (source_written (from_address l.extents start) l.geometry l.slots)

-- these are they, if the slots of the volume are known
abbrev pub WholeFrom : List Extent → RelativeAddress → KnownVolume → Option (Vec ℕ) → Type 0
WholeFrom extents start v blocks = IsWhole (from_address extents start) v blocks

-- two addresses are one
abbrev pub same_address : RelativeAddress → RelativeAddress → Bool
same_address a b = (a.track == b.track) && (a.number == b.number)

-- an address behind others, if it is none of them
abbrev pub behind_others : (found : Option ℕ) → List RelativeAddress → RelativeAddress → List RelativeAddress
behind_others (Some number) starts start = starts
behind_others None starts start = starts ++ start ∷ []

-- addresses with one more, if it is none of them
abbrev pub with_start : List RelativeAddress → RelativeAddress → List RelativeAddress
with_start starts start = behind_others (position (same_address start) starts) starts start

-- addresses, and behind them those of entries, each once, in the order in which they are first named
unfoldable pub starts_from : List RelativeAddress → List PlacedEntry → List RelativeAddress
starts_from starts [] = starts
starts_from starts (p ∷ placed) = starts_from (with_start starts p.entry.address) placed

-- the addresses that entries name
abbrev pub starts_of : List PlacedEntry → List RelativeAddress
starts_of placed = starts_from [] placed

-- a member was read behind others
pub record AddsMember (before now : Members) (start : RelativeAddress) (bytes : Vec ℕ) : Type 0 where
  pub starts : now.starts.items ≡ before.starts.items ++ start ∷ []
  pub blocks : now.blocks.items ≡ before.blocks.items ++ bytes ∷ []

-- the buffers of members hold their blocks
abbrev pub buffers : List (Vec ℕ) → List (Option (List ℕ))
buffers blocks = map (λ (b : Vec ℕ). Some b.items) blocks

-- the members were read from these addresses
pub record AreRead (extents : List Extent) (v : KnownVolume) (m : Members) : Type 0 where
  pub count : length m.blocks.items ≡ length m.starts.items
  pub blocks : (slots : List (List ℕ)) → v.slots ≡ Some slots
      → buffers m.blocks.items ≡ map (blocks_at (library_on extents v.geometry slots)) m.starts.items

-- the member at an address has this number, and was read
pub record HasNumber (extents : List Extent) (v : KnownVolume) (start : RelativeAddress) (before now : Members) (n : ℕ) : Type 0 where
  pub starts : now.starts.items ≡ with_start before.starts.items start
  pub number : position (same_address start) now.starts.items ≡ Some n
  pub read : AreRead extents v now
  pub within : n < length now.blocks.items
  pub blocks : (slots : List (List ℕ)) → v.slots ≡ Some slots → (b : Vec ℕ) → b ≡ get_or now.blocks.items n b
      → blocks_at (library_on extents v.geometry slots) start ≡ Some b.items

-- it has a number, or no end of file ends it
abbrev pub IsNumbered : List Extent → KnownVolume → RelativeAddress → (before now : Members) → Option ℕ → Type 0
IsNumbered extents v start before now (Some number) = HasNumber extents v start before now number
IsNumbered extents v start before now None = (slots : List (List ℕ)) → v.slots ≡ Some slots
    → blocks_at (library_on extents v.geometry slots) start ≡ None

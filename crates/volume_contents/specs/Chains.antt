-- Chains of control blocks.
use Rattle.std.specs.Prelude.{◌≡◌, ℕ, zero, suc, ◌==◌, Bool, true, false, ◌&&◌, not, if◌then◌else◌, List, [], ◌∷◌, Option, Some, None}
use Rattle.std.specs.List.{position}
use Rattle.volume_labels.specs.declared.fields.RecordAddress.{RecordAddress}
use Rattle.volume_labels.specs.declared.blocks.BlockKind.{BlockKind}
use Rattle.volume_labels.specs.declared.blocks.BlockKind.TheVariants.{Free, DataSet, IndexedSequential, MoreExtents, Contents, FreeSpace, SharedCylinders}
use Rattle.volume_labels.specs.declared.blocks.BlockKind.TheVariants.{Unknown}
use Rattle.volume_labels.specs.Fields.{record_address_at}
use Rattle.volume_contents.specs.declared.blocks.Block.{Block}
use Rattle.volume_contents.specs.declared.chains.Chain.{Chain}
use Rattle.volume_contents.specs.declared.chains.ChainFault.{ChainFault}
use Rattle.volume_contents.specs.declared.chains.ChainFault.TheVariants.{Missing, OtherFormat, Endless}
use Rattle.volume_contents.specs.declared.chains.Step.{Step}
use Rattle.volume_contents.specs.declared.chains.Step.TheVariants.{End, Fault, Link}
use Rattle.volume_contents.specs.Blocks.{has_address}
use Rattle.volume_contents.specs.Contents.{block_in}

-- an address of zeros names no block
abbrev pub is_nowhere : RecordAddress → Bool
is_nowhere a = ((a.track.cylinder == 0) && (a.track.head == 0)) && (a.number == 0)

-- a block of format 5 belongs to free tracks, one of format 2 or 3 to a data set
abbrev pub follows : (is_free : Bool) → BlockKind → Bool
follows is_free FreeSpace = is_free
follows is_free IndexedSequential = not is_free
follows is_free MoreExtents = not is_free
follows is_free Free = false
follows is_free DataSet = false
follows is_free Contents = false
follows is_free SharedCylinders = false
follows is_free Unknown = false

-- what stands at an address
abbrev pub step_found : (is_free : Bool) → List Block → RecordAddress → Option ℕ → Step
step_found is_free blocks a None = Fault (Missing a)
step_found is_free blocks a (Some i) = if follows is_free (block_in blocks i).kind then Link (block_in blocks i) else Fault (OtherFormat a)

abbrev pub step_to : (is_free : Bool) → List Block → RecordAddress → Step
step_to is_free blocks a = if is_nowhere a then End else step_found is_free blocks a (position (has_address a) blocks)

-- the address of the next block, which formats 2, 3 and 5 have at one place
abbrev pub next_of : Block → RecordAddress
next_of b = record_address_at b.bytes 91

abbrev pub end_of : RecordAddress → Option ChainFault
end_of a = if is_nowhere a then None else Some (Endless a)

-- the blocks from an address on, no more than so many, and what is wrong behind them
pub record Links : Type 0 where
  pub links : List Block
  pub fault : Option ChainFault

abbrev pub ended : Option ChainFault → Links
ended fault = record { links = []; fault = fault }

abbrev pub and_more : Block → Links → Links
and_more b l = record { links = b ∷ l.links; fault = l.fault }

abbrev pub from_step : Step → (RecordAddress → Links) → Links
from_step End more = ended None
from_step (Fault f) more = ended (Some f)
from_step (Link b) more = and_more b (more (next_of b))

unfoldable pub links_from : (most : ℕ) → (is_free : Bool) → List Block → RecordAddress → Links
links_from zero is_free blocks a = ended (end_of a)
links_from (suc most) is_free blocks a = from_step (step_to is_free blocks a) (links_from most is_free blocks)

-- these are the blocks of the chain at an address, no more than so many, and what is wrong behind them
pub record ChainOf (most : ℕ) (is_free : Bool) (blocks : List Block) (a : RecordAddress) (c : Chain) : Type 0 where
  pub links : c.links.items ≡ (links_from most is_free blocks a).links
  pub fault : c.fault ≡ (links_from most is_free blocks a).fault

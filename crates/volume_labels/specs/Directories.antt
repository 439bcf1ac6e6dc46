-- The directory of a partitioned data set: blocks of 256 bytes, each with the number of its used bytes, that number among them, and
-- entries (System Control Blocks, 'Partitioned Data Set Directory'). An entry is a name of eight bytes, a relative track address of
-- three, and a byte: a bit for another name of a member, two bits for the number of addresses that its user data begins with, and
-- five for the length of its user data in halfwords. A name of bytes FF ends the directory.
use Rattle.std.specs.Prelude.{◌≡◌, ℕ, zero, suc, ◌+◌, ◌-◌, ◌*◌, ◌/◌, ◌%◌, ◌==◌, Bool, ◌||◌, nat_lt, nat_le, if◌then◌else◌, List, [], ◌∷◌, ◌++◌, length}
use Rattle.std.specs.Prelude.{slice_index, slice_range, replicate, bytes_eq, Option, Some, None}
use Rattle.volume_labels.specs.declared.fields.RelativeAddress.{RelativeAddress}
use Rattle.volume_labels.specs.declared.directories.DirectoryEntry.{DirectoryEntry}
use Rattle.volume_labels.specs.declared.directories.DirectoryFault.{DirectoryFault}
use Rattle.volume_labels.specs.declared.directories.DirectoryFault.TheVariants.{UsedBytes, EntryPastUsed}
use Rattle.volume_labels.specs.declared.directories.DirectoryStep.{DirectoryStep}
use Rattle.volume_labels.specs.declared.directories.DirectoryStep.TheVariants.{Entry, Skip, End, Fault}
use Rattle.volume_labels.specs.declared.directories.Directory.{Directory}

-- two bytes, the high one first
abbrev pub number_at : List ℕ → (at : ℕ) → ℕ
number_at bytes at = slice_index bytes at * 256 + slice_index bytes (at + 1)

-- the entry at an offset
abbrev pub entry_of : List ℕ → (at : ℕ) → DirectoryEntry
entry_of bytes at = record {
  name = slice_range bytes at (at + 8);
  address = record { track = number_at bytes (at + 8); number = slice_index bytes (at + 10) };
  is_alias = nat_le 128 (slice_index bytes (at + 11));
  notes = slice_index bytes (at + 11) / 32 % 4;
  user_bytes = slice_index bytes (at + 11) % 32 * 2;
}

-- the name of the last entry
abbrev pub is_last : List ℕ → Bool
is_last name = bytes_eq name (replicate 8 255)

-- what stands at an offset of a block whose used bytes end at another
abbrev pub entry_step : List ℕ → (at end : ℕ) → DirectoryStep
entry_step bytes at end =
    if nat_lt end (at + 12) then Fault EntryPastUsed
    else (if is_last (slice_range bytes at (at + 8)) then End
    else (if nat_lt end (at + 12 + slice_index bytes (at + 11) % 32 * 2) then Fault EntryPastUsed
    else Entry (entry_of bytes at) (at + 12 + slice_index bytes (at + 11) % 32 * 2)))

-- where the block begins that an offset lies in
abbrev pub block_start : (at : ℕ) → ℕ
block_start at = at - at % 256

-- what stands at an offset of the blocks, one behind another
abbrev pub step_at : List ℕ → (at : ℕ) → DirectoryStep
step_at bytes at =
    if nat_lt (length bytes) (block_start at + 256) then End
    else (if nat_lt (number_at bytes (block_start at)) 2 || nat_lt 256 (number_at bytes (block_start at)) then Fault UsedBytes
    else (if at == block_start at then Skip (block_start at + 2)
    else (if nat_le (block_start at + number_at bytes (block_start at)) at then Skip (block_start at + 256)
    else entry_step bytes at (block_start at + number_at bytes (block_start at)))))

-- the entries from an offset on, and what is wrong behind them; each step passes bytes, so the number of bytes bounds the steps
pub record Found : Type 0 where
  pub entries : List DirectoryEntry
  pub fault : Option DirectoryFault

abbrev pub ended : Option DirectoryFault → Found
ended fault = record { entries = []; fault = fault }

abbrev pub and_more : DirectoryEntry → Found → Found
and_more e f = record { entries = e ∷ f.entries; fault = f.fault }

abbrev pub from_step : DirectoryStep → (ℕ → Found) → Found
from_step (Entry e next) more = and_more e (more next)
from_step (Skip next) more = more next
from_step End more = ended None
from_step (Fault f) more = ended (Some f)

unfoldable pub entries_from : (most : ℕ) → List ℕ → (at : ℕ) → Found
entries_from zero bytes at = ended None
entries_from (suc most) bytes at = from_step (step_at bytes at) (entries_from most bytes)

abbrev pub entries_of : List ℕ → Found
entries_of bytes = entries_from (length bytes) bytes 0

-- these are the entries of a directory's blocks, and what is wrong behind them
pub record DirectoryOf (bytes : List ℕ) (d : Directory) : Type 0 where
  pub entries : d.entries.items ≡ (entries_of bytes).entries
  pub fault : d.fault ≡ (entries_of bytes).fault

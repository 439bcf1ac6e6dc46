-- What was saved, read off its bytes, and why they are none.
use Rattle.std.specs.Prelude.{ℕ, ◌+◌, ◌*◌, ◌==◌, ◌||◌, not, nat_lt, List, [], ◌∷◌, length, slice_index, slice_range, take, codes, bytes_eq}
use Rattle.std.specs.Prelude.{Option, Some, None, option_map, Result, Ok, Err, if◌then◌else◌}
use Rattle.s360_words.specs.declared.words.Csw.{Csw}
use Rattle.s360_laws.specs.declared.arm.Arm.{Arm}
use Rattle.s360_laws.specs.declared.arm.Arm.TheVariants.{AtRest, InMotion, Arrived}
use Rattle.attached_drives.specs.declared.drives_saved.SavedDrive.{SavedDrive}
use Rattle.s360_channel.specs.declared.saving.SavedChannel.{SavedChannel}
use Rattle.saved_state.specs.Bytes.{bytes_of, checksum}
use Rattle.saved_state.specs.declared.faults.BytesFault.{BytesFault}
use Rattle.saved_state.specs.declared.faults.BytesFault.TheVariants.{NotSaved, OtherVersion, OtherLength, OtherSum, NotSound}

-- numbers of two and of four bytes
abbrev pub number_at : List ℕ → (at : ℕ) → ℕ
number_at bytes at = slice_index bytes at * 256 + slice_index bytes (at + 1)

abbrev pub word_at : List ℕ → (at : ℕ) → ℕ
word_at bytes at =
    slice_index bytes at * 16777216 + slice_index bytes (at + 1) * 65536 + slice_index bytes (at + 2) * 256 + slice_index bytes (at + 3)

-- what an arm does, if there is a drive
abbrev pub arm_of : ℕ → Option Arm
arm_of n = if n == 1 then Some AtRest else (if n == 2 then Some InMotion else (if n == 3 then Some Arrived else None))

-- a drive with what its arm does, and one that may be none
abbrev pub drive_with : List ℕ → Arm → ℕ × SavedDrive
drive_with bytes arm = (
  slice_index bytes 1,
  record { arm = arm; cylinder = number_at bytes 2; head = number_at bytes 4; sense = record { 0 = number_at bytes 6 } },
)

abbrev pub drive_of : List ℕ → Option (ℕ × SavedDrive)
drive_of bytes = option_map (drive_with bytes) (arm_of (slice_index bytes 0))

-- all drives
abbrev pub drives_of : List ℕ → List (Option (ℕ × SavedDrive))
drives_of bytes =
    drive_of (take 8 bytes) ∷ drive_of (slice_range bytes 8 16) ∷ drive_of (slice_range bytes 16 24) ∷ drive_of (slice_range bytes 24 32)
    ∷ drive_of (slice_range bytes 32 40) ∷ drive_of (slice_range bytes 40 48) ∷ drive_of (slice_range bytes 48 56) ∷ drive_of (slice_range bytes 56 64) ∷ []

-- a channel status word
abbrev pub csw_in : List ℕ → Csw
csw_in bytes = record {
  key = slice_index bytes 2;
  address = word_at bytes 3;
  unit = record { 0 = slice_index bytes 7 };
  channel = record { 0 = slice_index bytes 8 };
  count = number_at bytes 9;
}

-- the one that pends, if one does, behind its device
abbrev pub pending_of : List ℕ → Option (ℕ × Csw)
pending_of bytes = if slice_index bytes 0 == 2 then Some (slice_index bytes 1, csw_in bytes) else None

-- a channel, if there is one
abbrev pub channel_of : List ℕ → Option SavedChannel
channel_of bytes =
    if slice_index bytes 0 == 0 then None
    else Some (record { pending = pending_of (take 11 bytes); drives = drives_of (slice_range bytes 11 75) })

-- all channels
unfoldable pub channels_of : List ℕ → List (Option SavedChannel)
channels_of bytes =
    channel_of (take 75 bytes) ∷ channel_of (slice_range bytes 75 150) ∷ channel_of (slice_range bytes 150 225)
    ∷ channel_of (slice_range bytes 225 300) ∷ channel_of (slice_range bytes 300 375) ∷ channel_of (slice_range bytes 375 450)
    ∷ channel_of (slice_range bytes 450 525) ∷ []

-- What is read: a value whose bytes these are, or why there is none, in this order: they do not begin as a saved state does; they are of another
-- version; they are too few or too many; the checksum does not fit; the value that the fields make has other bytes.
abbrev pub read_value : List ℕ → List (Option SavedChannel) → Result (List (Option SavedChannel)) BytesFault
read_value bytes saved = if bytes_eq (bytes_of saved) bytes then Ok saved else Err NotSound

abbrev pub read : List ℕ → Result (List (Option SavedChannel)) BytesFault
read bytes =
    if nat_lt (length bytes) 9 || not (bytes_eq (take 8 bytes) (codes "DASDSAVE")) then Err NotSaved
    else (if not (slice_index bytes 8 == 1) then Err OtherVersion
    else (if not (length bytes == 538) then Err OtherLength
    else (if not (word_at bytes 534 == checksum (take 534 bytes)) then Err OtherSum
    else read_value bytes (channels_of (slice_range bytes 9 534)))))

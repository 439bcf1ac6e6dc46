-- The bytes of a saved state: nine that say what it is and of which version, 75 for each of the seven channels, and a checksum of all before it. All
-- numbers are big-endian.
use Rattle.std.specs.Prelude.{ℕ, ◌+◌, ◌*◌, ◌/◌, ◌%◌, List, [], ◌∷◌, ◌++◌, replicate, codes, Option, Some, None}
use Rattle.s360_words.specs.declared.words.Csw.{Csw}
use Rattle.s360_laws.specs.declared.arm.Arm.{Arm}
use Rattle.s360_laws.specs.declared.arm.Arm.TheVariants.{AtRest, InMotion, Arrived}
use Rattle.attached_drives.specs.declared.drives_saved.SavedDrive.{SavedDrive}
use Rattle.s360_channel.specs.declared.saving.SavedChannel.{SavedChannel}

-- numbers of two and of four bytes
abbrev pub number_bytes : ℕ → List ℕ
number_bytes n = n / 256 ∷ n % 256 ∷ []

abbrev pub word_bytes : ℕ → List ℕ
word_bytes n = n / 16777216 ∷ n / 65536 % 256 ∷ n / 256 % 256 ∷ n % 256 ∷ []

-- what an arm does
abbrev pub arm_byte : Arm → ℕ
arm_byte AtRest = 1
arm_byte InMotion = 2
arm_byte Arrived = 3

-- A drive in 8 bytes: what its arm does, the low byte of its address, the cylinder, the head, and sense bytes 0 and 1, of which the others
-- are zero. Where there is none: zeros.
abbrev pub drive_bytes : Option (ℕ × SavedDrive) → List ℕ
drive_bytes None = replicate 8 0
drive_bytes (Some d) =
    arm_byte d.1.arm ∷ d.0 ∷ (d.1.cylinder / 256) ∷ (d.1.cylinder % 256) ∷ (d.1.head / 256) ∷ (d.1.head % 256) ∷ (d.1.sense.0 / 256)
    ∷ (d.1.sense.0 % 256) ∷ []

-- the bytes of several, one behind another
abbrev pub joined : {A : Type 0} → (A → List ℕ) → List A → List ℕ
joined f [] = []
joined f (x ∷ xs) = f x ++ joined f xs

-- all drives
abbrev pub drives_bytes : List (Option (ℕ × SavedDrive)) → List ℕ
drives_bytes ds = joined drive_bytes ds

-- A subchannel in 11 bytes: 1, where it is available, and zeros; or 2, where a channel status word pends, the low byte of its device's address, and of the word
-- the key, the command address, unit status, channel status and the residual count.
abbrev pub pending_bytes : Option (ℕ × Csw) → List ℕ
pending_bytes None = 1 ∷ replicate 10 0
pending_bytes (Some p) =
    2 ∷ p.0 ∷ p.1.key ∷ (p.1.address / 16777216) ∷ (p.1.address / 65536 % 256) ∷ (p.1.address / 256 % 256) ∷ (p.1.address % 256) ∷ p.1.unit.0
    ∷ p.1.channel.0 ∷ (p.1.count / 256) ∷ (p.1.count % 256) ∷ []

-- A channel in 75 bytes: its subchannel and its drives, in the order of attachment. Where there is none: zeros.
abbrev pub channel_bytes : Option SavedChannel → List ℕ
channel_bytes None = replicate 75 0
channel_bytes (Some c) = pending_bytes c.pending ++ drives_bytes c.drives

-- all channels, by their numbers
abbrev pub channels_bytes : List (Option SavedChannel) → List ℕ
channels_bytes cs = joined channel_bytes cs

-- the two sums of an Adler-32 checksum
abbrev pub sums : (low high : ℕ) → List ℕ → ℕ × ℕ
sums low high [] = (low, high)
sums low high (byte ∷ bytes) = sums ((low + byte) % 65521) ((high + (low + byte) % 65521) % 65521) bytes

-- that checksum (RFC 1950)
unfoldable pub checksum : List ℕ → ℕ
checksum bytes = let s = sums 1 0 bytes in s.1 * 65536 + s.0

-- what it is, and the version 1
abbrev pub beginning : List ℕ
beginning = codes "DASDSAVE" ++ 1 ∷ []

-- all bytes
unfoldable pub bytes_of : List (Option SavedChannel) → List ℕ
bytes_of saved = let body = beginning ++ channels_bytes saved in body ++ word_bytes (checksum body)

-- Which blocks have one message.
use Rattle.std.specs.Prelude.{◌≡◌, ◌↔◌, ℕ, Bool, List, ◌++◌, map, codes}
use Rattle.std.specs.List.{flat_map}
use Rattle.ckd_track.specs.Track.{Record}
use Rattle.dasd_extract.specs.Blocks.{keyed_bytes}
use Rattle.volume_hash.specs.SetMessage.{ending}

-- what a block says: its key and its data
abbrev pub areas : Record → List ℕ × List ℕ
areas r = (r.key_area, r.data_area)

-- the message of these blocks
abbrev pub message_of : List Record → (whole : Bool) → List ℕ
message_of blocks whole = codes "blocks" ++ flat_map keyed_bytes blocks ++ ending whole

-- blocks have the message of others exactly where each of them says what that of the others says, in order, and both are whole or neither is
abbrev pub MessageIsWhatBlocksSay : Type 0
MessageIsWhatBlocksSay = (blocks others : List Record) (whole whole_others : Bool)
    → (message_of blocks whole ≡ message_of others whole_others) ↔ ((map areas blocks ≡ map areas others) × (whole ≡ whole_others))

-- The records of a library: the blocks of its directory and an end of file, and those of each member with an end of file behind them (Data
-- Management Services, 'Partitioned Data Sets').
use Rattle.std.specs.Prelude.{ℕ, ◌+◌, ◌*◌, ◌/◌, List, [], ◌∷◌, ◌++◌, length, map, take, drop, flat_map, slice_index_or, All}
use Rattle.std.specs.List.{range_with_len}
use Rattle.ckd_track.specs.declared.model.DriveModel.{DriveModel}
use Rattle.record_tracks.specs.declared.libraries.NewMember.{NewMember}
use Rattle.record_tracks.specs.Records.{Areas, all_areas, end_of_file, RecordGoesOn}

-- block k of a directory, from 0 on: its key and its data
abbrev pub directory_area : (directory : List ℕ) → (k : ℕ) → Areas
directory_area directory k = let b = take 264 (drop (k * 264) directory) in record { key_area = take 8 b; data_area = drop 8 b }

-- the blocks of a directory
abbrev pub directory_areas : (directory : List ℕ) → List Areas
directory_areas directory = map (directory_area directory) (range_with_len 0 (length directory / 264))

-- a part with the end of file behind it
abbrev pub with_end : List Areas → List Areas
with_end part = part ++ (end_of_file ∷ [])

-- the blocks of a member
abbrev pub member_areas : NewMember → List Areas
member_areas m = all_areas m.records.now

-- members one behind another
abbrev pub members_areas : List NewMember → List Areas
members_areas members = flat_map (λ m. with_end (member_areas m)) members

-- all records of a library with this directory
abbrev pub library_areas : (directory : List ℕ) → List NewMember → List Areas
library_areas directory members = with_end (directory_areas directory) ++ members_areas members

-- the blocks of the member of this number, from 0 on
abbrev pub blocks_of_member : List NewMember → (member : ℕ) → List Areas
blocks_of_member members member = slice_index_or (map member_areas members) member []

-- The number of the first record of a member, from 0 on, all records of a library being counted: before it stand so many blocks of the
-- directory with their end of file, and the members before it.
abbrev pub first_record : (directory_blocks : ℕ) → List NewMember → (member : ℕ) → ℕ
first_record directory_blocks members member = directory_blocks + 1 + length (members_areas (take member members))

-- each block of a member goes on a track of the drive
abbrev pub MemberGoesOn : DriveModel → NewMember → Type 0
MemberGoesOn model m = All (RecordGoesOn model) m.records.now

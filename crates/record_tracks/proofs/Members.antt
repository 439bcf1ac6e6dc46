-- The parts of a library: its directory and its members.
use Rattle.std.proofs.Common.{◌≡◌, ◌∙◌, ap, sym, refl, subst, ℕ, ◌+◌, ◌*◌, ◌/◌, ◌≤◌, ◌<◌, List, [], ◌∷◌, ◌++◌, length, Bool, true, false}
use Rattle.std.proofs.Common.{cond, nat_lt, map, take, drop, get_or, replicate, arith, All, append_assoc, length-append, length-take}
use Rattle.std.proofs.Common.{length-drop, inl, inr, ◌-◌, nat_le, None, Some}
use Rattle.std.proofs.lemmas.List.{drop_more, take-append-drop, get_or-map, map-append, length-replicate, FromFn.length-map-range_with_len}
use Rattle.std.proofs.lemmas.List.Elements.{All-nil, All-cons, All-head, All-tail, All-append, All-from_get_or}
use Rattle.std.proofs.lemmas.{Grind.flat_map-append, List.FromFn.get_or-map-range_with_len, Bool.Decides.nat_tests}
use Rattle.ckd_track.specs.declared.model.DriveModel.{DriveModel, TheVariants.D2311, TheVariants.D2314}
use Rattle.ckd_track.specs.{Charges.key_overhead_of, declared.geometries.Geometry.Geometry}
use Rattle.record_tracks.specs.Library.{directory_area, directory_areas, with_end, member_areas, members_areas, library_areas, first_record}
use Rattle.record_tracks.specs.declared.{libraries.NewMember.NewMember, records.NewRecord.NewRecord, libraries.NewLibrary.NewLibrary}
use Rattle.record_tracks.specs.Records.{Areas, end_of_file, GoesOn, all_areas, RecordGoesOn}
use Rattle.record_tracks.specs.{ReadBack.IsWritten, ReadBack.IsPart, ReadBack.IsLoaded, declared.library_faults.LibraryFault.LibraryFault}
use Rattle.record_tracks.specs.{Tracks.StandsAt, LibraryRead.HasRecords, LibraryRead.IsDirectoryRead, LibraryRead.AreMembersRead}
use Rattle.record_tracks.specs.{Library.blocks_of_member, Addresses.address_of, MemberEntries.blank_directory, MemberEntries.blank_areas}
use Rattle.record_tracks.specs.{Library.MemberGoesOn, declared.addresses.Placed.Placed, Placed.AreRecords, Placed.ArePlaced}
use Rattle.record_tracks.proofs.Listed.{end_goes, all_go, length-all}
use Rattle.record_tracks.proofs.Standing.{SameLengths, address_stands, is_taken, in_order, address_is}
use Rattle.record_tracks.proofs.Reading.{read_back, read_as_data, first_stands}
use Rattle.volume_labels.specs.declared.fields.{Extent.Extent, RelativeAddress.RelativeAddress}
use Rattle.dasd_extract.specs.declared.blocks.ExtractedForm.TheVariants as form

-- The blocks of a directory.
module _ (directory : List ℕ) where
  pub length-directory : length (directory_areas directory) ≡ length directory / 264
  length-directory = length-map-range_with_len (directory_area directory) 0 (length directory / 264)

  pub directory_written : All (IsWritten form.Directory) (directory_areas directory)
  directory_written = All-from_get_or (IsWritten form.Directory) (directory_areas directory) end_of_file (λ k there.
      let is = get_or-map-range_with_len (directory_area directory) 0 (length directory / 264) k k end_of_file
      (omega (arith, length-directory)) (omega arith) in
      let b = take 264 (drop (k * 264) directory) in
      let size : length b ≡ 264 =
      omega (arith, length-directory, length-take 264 (drop (k * 264) directory), length-drop (k * 264) directory) in
      subst (IsWritten form.Directory) (sym is) (omega (arith, length-take 8 b), omega (arith, length-drop 8 b)))

at_most : (b : Bool) (n : ℕ) → cond b n 0 ≤ n
at_most true n = omega arith
at_most false n = omega arith

-- A record goes on a track of either drive, if its lengths are no more than these.
small_goes : (model : DriveModel) (a : Areas) → length a.key_area ≤ 8 → length a.data_area ≤ 256 → GoesOn model a
small_goes D2311 a key few =
    let extra : key_overhead_of D2311 (length a.key_area) ≤ 20 = at_most (nat_lt 0 (length a.key_area)) 20 in
    record { key = omega arith; most = omega arith }
small_goes D2314 a key few =
    let extra : key_overhead_of D2314 (length a.key_area) ≤ 45 = at_most (nat_lt 0 (length a.key_area)) 45 in
    record { key = omega arith; most = omega arith }

with_end_goes : (model : DriveModel) (part : List Areas) → All (GoesOn model) part → All (GoesOn model) (with_end part)
with_end_goes model part each = All-append (GoesOn model) part (end_of_file ∷ []) each
    (All-cons (GoesOn model) end_of_file [] (end_goes model) (All-nil (GoesOn model)))

directory_goes : (model : DriveModel) (directory : List ℕ) → All (GoesOn model) (directory_areas directory)
directory_goes model directory k d there =
    let is = directory_written directory k d there in
    small_goes model (get_or (directory_areas directory) k d) (omega (arith, is.0)) (omega (arith, is.1))

members_go : (model : DriveModel) (members : List NewMember) → All (MemberGoesOn model) members → All (GoesOn model) (members_areas members)
members_go model [] each = All-nil (GoesOn model)
members_go model (m ∷ others) each = All-append (GoesOn model) (with_end (member_areas m)) (members_areas others)
    (with_end_goes model (member_areas m) (all_go model m.records.now (All-head (MemberGoesOn model) m others each)))
    (members_go model others (All-tail (MemberGoesOn model) m others each))

pub library_goes : (model : DriveModel) (directory : List ℕ) (members : List NewMember) → All (MemberGoesOn model) members
    → All (GoesOn model) (library_areas directory members)
library_goes model directory members each = All-append (GoesOn model) (with_end (directory_areas directory)) (members_areas members)
    (with_end_goes model (directory_areas directory) (directory_goes model directory))
    (members_go model members each)

-- The directory stands first.
pub directory_part : (directory : List ℕ) (members : List NewMember)
    → IsPart (library_areas directory members) (directory_areas directory) 0
directory_part directory members = record {
  before = [];
  behind = members_areas members;
  all = append_assoc (directory_areas directory) (end_of_file ∷ []) (members_areas members);
  number = refl;
}

-- a member without blocks
abbrev pub no_member : NewMember
no_member = record { records = record { ref_ptr = (0, 0); now = [] } }

-- A member stands behind those before it.
module _ (directory : List ℕ) (members : List NewMember) (m : ℕ) (there : m < length members) where
  abbrev blocks : List Areas
  blocks = blocks_of_member members m

  abbrev head : List Areas
  head = with_end (directory_areas directory) ++ members_areas (take m members)

  abbrev others : List Areas
  others = members_areas (drop (m + 1) members)

  split_at : members_areas members ≡ members_areas (take m members) ++ (blocks ++ (end_of_file ∷ others))
  split_at =
      let one = λ (x : NewMember). with_end (member_areas x) in
      let is : blocks ≡ member_areas (get_or members m no_member) = get_or-map member_areas members m no_member [] there in
      let two = append_assoc (member_areas (get_or members m no_member)) (end_of_file ∷ []) others in
      cc (take-append-drop m members, flat_map-append one (take m members) (drop m members), drop_more members m no_member there)

  -- from one of its blocks on
  pub member_part : (k : ℕ) → k ≤ length blocks
      → IsPart (library_areas directory members) (drop k blocks) (first_record (length directory / 264) members m + k)
  member_part k within =
      let rest = end_of_file ∷ others in
      let whole : take k blocks ++ (drop k blocks ++ rest) ≡ blocks ++ rest =
      cc (append_assoc (take k blocks) (drop k blocks) rest, take-append-drop k blocks) in
      record {
        before = head ++ take k blocks;
        behind = others;
        all = cc (
          split_at,
          append_assoc (with_end (directory_areas directory)) (members_areas (take m members)) (blocks ++ rest),
          append_assoc head (take k blocks) (drop k blocks ++ rest),
        );
        number = omega (arith, length-append {A = Areas}, length-directory directory, length-take k blocks);
      }

-- Directories of one length have blocks of the same lengths.
alike : (f : Areas → ℕ) (n : ℕ) (areas : List Areas) → All (λ a. f a ≡ n) areas → map f areas ≡ replicate (length areas) n
alike f n [] are = refl
alike f n (a ∷ others) are =
    cc (All-head (λ (b : Areas). f b ≡ n) a others are, alike f n others (All-tail (λ (b : Areas). f b ≡ n) a others are))

pub same_library : (one other : List ℕ) (members : List NewMember) → length one ≡ length other
    → SameLengths (library_areas one members) (library_areas other members)
same_library one other members same = record {
  keys = like (λ a. length a.key_area) 8 (λ d k e there. (directory_written d k e there).0);
  bytes = like (λ a. length a.data_area) 256 (λ d k e there. (directory_written d k e there).1);
}
  where
    like : (f : Areas → ℕ) (n : ℕ) → ((d : List ℕ) → All (λ a. f a ≡ n) (directory_areas d))
        → map f (library_areas one members) ≡ map f (library_areas other members)
    like f n are =
        let here = alike f n (directory_areas one) (are one) in
        let there = alike f n (directory_areas other) (are other) in simp map-append (cc (length-directory one, length-directory other))

-- behind a part there is one record at least, which is its end of file
pub end_there : (areas part : List Areas) (first : ℕ) → IsPart areas part first → first + length part < length areas
end_there areas part first is = omega (arith, ap length is.all, length-append {A = Areas}, is.number)

module _ (model : DriveModel) (directory : List ℕ) (members : List NewMember) (goes : All (MemberGoesOn model) members) where
  abbrev areas : List Areas
  areas = library_areas directory members

  each : All (GoesOn model) areas
  each = library_goes model directory members goes

  -- the tracks up to that of a record have their records
  loaded_to : (k : ℕ) (a : RelativeAddress) (g : Geometry) (extents : List Extent) (slots : List (List ℕ))
      → StandsAt model areas k a.track a.number → HasRecords model areas g extents slots → IsLoaded g extents slots areas (a.track + 1)
  loaded_to k a g extents slots stands has i before =
      has.loaded i (omega (arith, is_taken model areas has.tracks k a.track a.number has.takes stands))

  pub directory_read : IsDirectoryRead model directory members
  directory_read g extents slots has within =
      let part = directory_areas directory in
      let whole = directory_part directory members in
      let k = length directory / 264 in
      let e : k ≡ 0 + length part = omega (arith, length-directory directory) in
      let end = address_of model areas k in
      let to = address_stands model areas each k (omega (arith, end_there areas part 0 whole)) in
      let to_here = subst (λ (n : ℕ). StandsAt model areas n end.track end.number) e to in
      read_as_data form.Directory model areas each part 0 0 1 0 end.track end.number whole (directory_written directory)
      (first_stands model areas each (omega (arith, end_there areas part 0 whole))) (inr (refl, refl)) to_here g extents slots 512 has.same
      (omega arith) (loaded_to k end g extents slots to has)

  pub members_read : AreMembersRead model directory members
  members_read f text m k there few g extents slots has most within written =
      let blocks = blocks_of_member members m in
      let part = drop k blocks in
      let first = first_record (length directory / 264) members m in
      let whole = member_part directory members m there k few in
      let some = end_there areas part (first + k) whole in
      let e : first + length blocks ≡ first + k + length part = omega (arith, length-drop k blocks) in
      let start = address_of model areas (first + k) in
      let end = address_of model areas (first + length blocks) in
      let from = address_stands model areas each (first + k) (omega arith) in
      let to = address_stands model areas each (first + length blocks) (omega arith) in
      let to_here = subst (λ (n : ℕ). StandsAt model areas n end.track end.number) e to in
      read_back model areas each f text part (first + k) start.track start.number start.number end.track end.number whole written from
      (inl refl) to_here g extents slots most has.same within (loaded_to (first + length blocks) end g extents slots to has)

pub length-blank : (l : NewLibrary) → length (blank_directory l) / 264 ≡ l.directory_blocks
length-blank l = omega (arith, length-replicate {A = ℕ} (l.directory_blocks * 264) 0)

pub length-blank_areas : (l : NewLibrary) → length (blank_areas l) ≡ l.directory_blocks + 1 + length (members_areas l.members.now)
length-blank_areas l = omega (arith, length-append {A = Areas}, length-directory (blank_directory l), length-blank l)

-- the members before one, and those from it on
pub length-parts : (members : List NewMember) (m : ℕ)
    → length (members_areas members) ≡ length (members_areas (take m members)) + length (members_areas (drop m members))
length-parts members m =
    let one = λ (x : NewMember). with_end (member_areas x) in
    let two = length-append (members_areas (take m members)) (members_areas (drop m members)) in
    cc (take-append-drop m members, flat_map-append one (take m members) (drop m members))

-- one of them with its end of file, and those behind it
pub length-next : (members : List NewMember) (k : ℕ) (d : NewMember) → k < length members → length (members_areas (drop k members))
    ≡ length (get_or members k d).records.now + 1 + length (members_areas (drop (k + 1) members))
length-next members k d there =
    let m = get_or members k d in
    let others = members_areas (drop (k + 1) members) in
    ap (λ (xs : List NewMember). length (members_areas xs)) (drop_more members k d there)
    ∙ omega (arith, length-append (with_end (member_areas m)) others, length-append {A = Areas}, length-all m.records.now)

-- a member has its blocks, and an end of file behind them
pub length-first : (members : List NewMember) (m : ℕ) → m < length members
    → length (blocks_of_member members m) < length (members_areas (drop m members))
length-first members m there =
    let is = get_or-map member_areas members m no_member [] there in
    omega (arith, length-next members m no_member there, ap length is, length-all (get_or members m no_member).records.now)

-- the first record of a member, counted from the end of all
pub length-behind : (l : NewLibrary) (m : ℕ)
    → first_record l.directory_blocks l.members.now m + length (members_areas (drop m l.members.now)) ≡ length (blank_areas l)
length-behind l m = omega (arith, length-blank_areas l, length-parts l.members.now m)

-- a block of a member is one of the records, and so is its end of file
pub block_there : (l : NewLibrary) (m k : ℕ) → m < length l.members.now → k ≤ length (blocks_of_member l.members.now m)
    → first_record l.directory_blocks l.members.now m + k < length (blank_areas l)
block_there l m k there within =
    let first = first_record (length (blank_directory l) / 264) l.members.now m in
    let blocks = blocks_of_member l.members.now m in
    let two = end_there (blank_areas l) (drop k blocks) (first + k) (member_part (blank_directory l) l.members.now m there k within) in
    omega (arith, length-blank l)

pub if_far : (n : ℕ) (f : LibraryFault) (b : Bool) → nat_le 65536 n ≡ b → cond b (Some f) None ≡ cond (nat_le 65536 n) (Some f) None
if_far n f b is = ap (λ b. cond b (Some f) None) (sym is)

module _ (p : Placed) (are : AreRecords p) where
  abbrev l : NewLibrary
  l = p.library.now

  pub all_go_on : All (GoesOn p.model) (blank_areas l)
  all_go_on = subst (All (GoesOn p.model)) are.records (all_go p.model p.records.now are.go)

  pub length-records : length p.records.now ≡ length (blank_areas l)
  length-records = cc (length-all p.records.now)

  -- where a record of the list stands is its address
  pub is_address : (k track number : ℕ) → k < length p.records.now → StandsAt p.model (all_areas p.records.now) k track number
      → address_of p.model (blank_areas l) k ≡ record { track = track; number = number }
  is_address k track number there stands = address_is p.model (blank_areas l) all_go_on k track number (omega (arith, length-records))
      (subst (λ (xs : List Areas). StandsAt p.model xs k track number) are.records stands)

-- the last record
pub last_track : (p : Placed) (are : AreRecords p) (track number : ℕ)
    → StandsAt p.model (all_areas p.records.now) (length p.records.now - 1) track number
    → (address_of p.model (blank_areas p.library.now) (length (blank_areas p.library.now) - 1)).track ≡ track
last_track p are track number stands =
    let l = p.library.now in
    let size = length-records p are in
    let is = is_address p are (length p.records.now - 1) track number (omega (arith, length-blank_areas l)) stands in
    ap (λ (n : ℕ). (address_of p.model (blank_areas l) (n - 1)).track) (sym size) ∙ ap (λ (a : RelativeAddress). a.track) is

-- no address is too far, if that of the last record is not
pub is_near : (p : Placed) → ArePlaced p → (k track number : ℕ) → k < length p.records.now
    → StandsAt p.model (all_areas p.records.now) k track number → track < 65536
is_near p placed k track number there stands =
    let areas = blank_areas p.library.now in
    let far = length areas - 1 in
    let last = address_of p.model areas far in
    let size = length-records p placed.are in
    let below : last.track < 65536 = grind (arith, nat_tests, placed.within) in omega (
      arith,
      in_order p.model areas k far track number last.track last.number
          (subst (λ (xs : List Areas). StandsAt p.model xs k track number) placed.are.records stands)
          (address_stands p.model areas (all_go_on p placed.are) far (omega arith)) (omega arith),
    )

-- the records of a library with zeros in place of its directory
pub are_records : (p : Placed) (items : List NewRecord) (directory zeros : List ℕ) → p.records.now ≡ items
    → all_areas items ≡ library_areas directory p.library.now.members.now → directory ≡ zeros → zeros ≡ blank_directory p.library.now
    → All (RecordGoesOn p.model) items → AreRecords p
are_records p items directory zeros same are is blank go = record { records = cc; go = subst (All (RecordGoesOn p.model)) (sym same) go }
